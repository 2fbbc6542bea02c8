use Rattle.std.specs.Prelude.{Bool, true, false, nat_eq, if◌then◌else◌}
use Rattle.std.specs.List.{remove}
use Rattle.std.proofs.Common.{◌≡◌, ◌≢◌, ℕ, get_or, sym, ◌∙◌, ap, arith}
use Rattle.std.proofs.lemmas.Bool.Decides.{nat_tests}
use Rattle.std.proofs.lemmas.List.{get_or_read}
use Rattle.file_tracks.specs.declared.table.Filed.{Filed}
use Rattle.file_tracks.proofs.deleting.drop_at.Goals as goal

zero_is : (m : ℕ) → m ≡ 0 → nat_eq m 0 ≡ true
zero_is m h = grind (arith, nat_tests)

zero_no : (m : ℕ) → m ≢ 0 → nat_eq m 0 ≡ false
zero_no m h = grind (arith, nat_tests)

pub returns-then-file-ne0-clause-items : goal.returns-then-file-ne0-clause-items
returns-then-file-ne0-clause-items g c = λ d.
    let fs = c.args.table.now.files.items in
    let at = c.args.at in
    let f = c.index-file.result.now in
    let mode : f.mode ≡ (get_or fs at d).mode = ap (λ (x : Filed). x.mode) (get_or_read fs at f c.requires.at c.index-file.ensures d) in
    ap (λ (b : Bool). if b then remove fs at else fs) (sym (ap (λ (m : ℕ). nat_eq m 0) (sym mode) ∙ zero_no f.mode c.if-file-ne0.true))

pub returns-clause-items : goal.returns-clause-items
returns-clause-items g c = λ d.
    let fs = c.args.table.now.files.items in
    let at = c.args.at in
    let f = c.index-file.result.now in
    let mode : f.mode ≡ (get_or fs at d).mode = ap (λ (x : Filed). x.mode) (get_or_read fs at f c.requires.at c.index-file.ensures d) in
    c.remove_at.ensures.items
    ∙ ap (λ (b : Bool). if b then remove fs at else fs) (sym (ap (λ (m : ℕ). nat_eq m 0) (sym mode) ∙ zero_is f.mode c.if-file-ne0.false))
