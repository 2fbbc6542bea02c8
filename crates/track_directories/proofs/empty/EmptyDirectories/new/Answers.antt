use Rattle.std.specs.Prelude.{false, replicate, sum}
use Rattle.std.proofs.Common.{◌≡◌, ◌+◌, ℕ, List, ◌∷◌, map, length, take, sym, ap, ◌∙◌, arith}
use Rattle.std.proofs.lemmas.List.{length-replicate, take_all}
use Rattle.std.proofs.lemmas.List.Sums.{sum_by-cons}
use Rattle.ctss_types.specs.declared.script.Account.{Account}
use Rattle.file_tracks.specs.Directories.{quota_all}
use Rattle.track_directories.proofs.Bare.{quotas_sum}
use Rattle.track_directories.proofs.empty.EmptyDirectories.new.Goals as goal

pub invariant_of-result : goal.invariant_of-result
invariant_of-result c =
    let inv = c.loop-account.invariant in
    let ds = c.loop-account.tables.items in
    let accounts = c.args.accounts.now in
    let e : c.in_ok-tracks.tracks.taken.items ≡ replicate c.args.tracks false = c.in_ok-tracks.ensures in
    let many = ap length e ∙ length-replicate c.args.tracks false in
    let all : take c.loop-account.account-index accounts ≡ accounts = take_all c.loop-account.account-index accounts (omega (arith, c.loop-account-test.false)) in
    let costs : List Account → List ℕ = map (λ (a : Account). a.tracks) in
    let quotas : quota_all ds ≡ c.args.common + sum (costs accounts) =
    quotas_sum ds ∙ ap sum (inv.quotas ∙ ap (λ (xs : List Account). c.args.common ∷ costs xs) all) ∙ sum_by-cons (λ (n : ℕ). n) c.args.common (costs accounts) in
    record {
      free = e ∙ ap (λ (n : ℕ). replicate n false) (sym many);
      bare = inv.bare;
      fits = (let f = c.requires.fits in omega (arith, f, quotas, many));
      small = inv.small;
      some = inv.some;
    }
