use Rattle.std.specs.Prelude.{filter, take, drop}
use Rattle.std.proofs.Common.{◌≡◌, ◌+◌, ◌-◌, ◌++◌, ℕ, length, sym, ◌∙◌, ap, arith, refl}
use Rattle.file_tracks.specs.Stored.{files_on}
use Rattle.file_tracks.proofs.After.{frees_none, frees_both}
use Rattle.file_tracks.proofs.Drops.{lasts, lasting_are, drop_cases, place_inside, part_at}
use Rattle.file_tracks.proofs.table.TrackTable.drop_temporary.Goals as goal

pub dropping-init : goal.dropping-init
dropping-init g c =
    let fs = c.args.self.now.files.items in
    record {
      items = sym (ap (λ (n : ℕ). take n fs ++ filter lasts (drop n fs)) (let e : length fs - 0 ≡ length fs = omega arith in e) ∙ part_at fs);
      frees = frees_none _ _ c.requires.usable;
      same = refl;
      now = refl;
    }

pub drop_at-requires-clause-at : goal.drop_at-requires-clause-at
drop_at-requires-clause-at g c =
    let fs = c.args.self.now.files.items in
    let n = c.len-count.ensures in
    let low = c.dropping-test.true in
    let cur = c.dropping.self.files.items in
    let at : c.len-count.result - 1 - c.dropping.k ≡ length fs - 1 - c.dropping.k = omega (arith, n) in
    let is = c.dropping.invariant.items in
    let place : length fs - c.dropping.k ≡ (c.len-count.result - 1 - c.dropping.k) + 1 = omega (arith, n, low) in
    place_inside fs cur (c.len-count.result - 1 - c.dropping.k) (omega (arith, n, low)) (is ∙ ap (λ (m : ℕ). take m fs ++ filter lasts (drop m fs)) place)

pub dropping-preserved : goal.dropping-preserved
dropping-preserved g c =
    let fs = c.args.self.now.files.items in
    let n = c.len-count.ensures in
    let low = c.dropping-test.true in
    let k = c.dropping.k in
    let at : ℕ = c.len-count.result - 1 - k in
    let inv = c.dropping.invariant in
    let e = c.drop_at.ensures in
    let place : length fs - k ≡ at + 1 = omega (arith, n, low) in
    let next : at ≡ length fs - (k + 1) = omega (arith, n, low) in
    record {
      items =
          drop_cases fs at (omega (arith, n, low)) c.dropping.self.files.items c.drop_at.new.table.files.items
          (inv.items ∙ ap (λ (m : ℕ). take m fs ++ filter lasts (drop m fs)) place) e.items
          ∙ ap (λ (m : ℕ). take m fs ++ filter lasts (drop m fs)) next;
      frees = frees_both inv.frees e.frees;
      same = e.same ∙ inv.same;
      now = e.now ∙ inv.now;
    }

pub returns-clause-left : goal.returns-clause-left
returns-clause-left g c = λ contents.
    let fs = c.args.self.now.files.items in
    let n = c.len-count.ensures in
    let past = c.dropping-test.false in
    let none : length fs - c.dropping.k ≡ 0 = omega (arith, n, past) in
    ap (files_on contents) (c.dropping.invariant.items ∙ ap (λ (m : ℕ). take m fs ++ filter lasts (drop m fs)) none) ∙ lasting_are contents fs
