use Rattle.std.proofs.Common.{◌≡◌, ◌≤◌, ◌+◌, ◌*◌, ℕ, List, refl, sym, ◌∙◌, subst, take, drop, arith}
use Rattle.image_map.specs.State.{size, base}
use Rattle.image_map.specs.Image.{state}
use Rattle.track_directories.specs.Tables.{shown}
use Rattle.user_cores.proofs.Working.{users_same, works_in, others_same, turned_whole}
use Rattle.user_cores.proofs.behind.BehindBacking.advance.Goals as goal

pub returns-clause-advanced : goal.returns-clause-advanced
returns-clause-advanced g c =
    let s = state c.args.self.now.cores in
    let d = shown g.F.Medium c.args.self.now.files in
    let u = c.args.user in
    let n = c.size-blocks.ensures.value in
    let b = c.base-base.ensures.value in
    let new : List ℕ = c.advance_in.new.bank in
    let around = c.advance_in.ensures.around in
    let some : 1 ≤ u = omega (arith, c.number-number.ensures.range.0, c.number-number.ensures.value) in
    let most : base s u + size s u ≤ 128 = subst (λ (k : ℕ). k + size s u ≤ 128) b (c.base-base.ensures.inside c.requires.core.loaded) in
    let front : take (256 * base s u) new ≡ take (256 * base s u) s.words =
    (λ j. take (256 * sym b j) new) ∙ around.front ∙ (λ j. take (256 * b j) (c.bank_mut.ensures.now j)) in
    let rest : drop (256 * (base s u + size s u)) new ≡ drop (256 * (base s u + size s u)) s.words =
    (λ j. drop (256 * (sym b j + sym n j)) new) ∙ around.rest ∙ (λ j. drop (256 * (b j + n j)) (c.bank_mut.ensures.now j)) in
    record {
      files = refl;
      worked = works_in s u some new most c.requires.core.loaded around.len front rest 0 d d (users_same d) refl
          (others_same s u some new most c.requires.core.loaded around.len front rest d);
      disk = refl;
    }

pub returns-clause-usable : goal.returns-clause-usable
returns-clause-usable g c =
    let s = state c.args.self.now.cores in
    let u = c.args.user in
    let n = c.size-blocks.ensures.value in
    let b = c.base-base.ensures.value in
    let new : List ℕ = c.advance_in.new.bank in
    let around = c.advance_in.ensures.around in
    let some : 1 ≤ u = omega (arith, c.number-number.ensures.range.0, c.number-number.ensures.value) in
    let most : base s u + size s u ≤ 128 = subst (λ (k : ℕ). k + size s u ≤ 128) b (c.base-base.ensures.inside c.requires.core.loaded) in
    let front : take (256 * base s u) new ≡ take (256 * base s u) s.words =
    (λ j. take (256 * sym b j) new) ∙ around.front ∙ (λ j. take (256 * b j) (c.bank_mut.ensures.now j)) in
    let rest : drop (256 * (base s u + size s u)) new ≡ drop (256 * (base s u + size s u)) s.words =
    (λ j. drop (256 * (sym b j + sym n j)) new) ∙ around.rest ∙ (λ j. drop (256 * (b j + n j)) (c.bank_mut.ensures.now j)) in
    (turned_whole s u some new most c.requires.core.loaded around.len front rest c.requires.usable.0 around.words, c.requires.usable.1)
