-- Lines of the debugger that only write a text.
use Rattle.std.proofs.Common.{◌≡◌, ◌∙◌, ℕ, suc, ◌-◌, ◌*◌, Bool, true, false, List, [], ◌∷◌, ◌++◌, length, drop, Some, refl, sym, ap, subst}
use Rattle.std.specs.Prelude.{if◌then◌else◌, nat_lt, codes}
use Rattle.ctss_types.specs.declared.file.FileBody.{FileBody}
use Rattle.time_sharing.specs.Machine.{Line, In, Ending, Stopped}
use Rattle.time_sharing.specs.Rows.{Outcome, out_all}
use Rattle.program_model.specs.declared.DebugLine.{DebugLine}
use Rattle.program_model.specs.declared.DebugLine.TheVariants.{Break, Clear, Set}
use Rattle.program_model.specs.Lines.{with_words}
use Rattle.program_model.specs.Stops.{Stops, is_full, with_break, without_break}
use Rattle.user_model.specs.Inner.{Inner, Stored}
use Rattle.user_model.specs.Debugger.{debug_row, bad_line, if_inside, tells, with_breaks, stores}
use Rattle.user_model.specs.User.{User, in_store, core_after, LeavesWords}
use Rattle.user_model.specs.Answers.{by_row}
use Rattle.user_model.proofs.CoreLaws.{recut_same}
use Rattle.user_session.specs.declared.turn.Step.{Step}
use Rattle.user_session.specs.Stores.{stored}

-- what an outcome of a line of the debugger leaves
abbrev pub DidTold : DebugLine → Line → Outcome Inner → Ending → Bool → (old new : User) → (before after : Stored) → Type 0
DidTold line l o e asked old new before after =
    (new ≡ by_row true (Some l) o old) × (core_after e o.inner.blocks after.core ≡ o.inner.core) × (after.files ≡ o.inner.files) × (e ≡ o.ending) × (asked ≡ false)
    × (stores line ≡ false → LeavesWords e before.core after.core)

pub told : (line : DebugLine) (lines : List Line) (l : Line) (s : Step) (p q : User) (c : List ℕ) (fs : List FileBody) → s ≡ record { ending = Stopped; clock = false }
    → q ≡ record p { unread = drop 1 p.unread; fed = p.fed - 1; transcript = p.transcript ++ In l ∷ out_all lines; own = suc p.own; own_at_command = p.own } → length c ≡ 256 * p.inner.blocks
    → DidTold line l (tells lines (in_store (stored c fs) p).inner) s.ending s.clock p q (stored c fs) (stored c fs)
told line lines l s p q c fs is left size =
    (left, ap (λ (x : Step). core_after x.ending p.inner.blocks c) is ∙ recut_same p.inner.blocks c size, refl, ap (λ (x : Step). x.ending) is, ap (λ (x : Step). x.clock) is, λ no. subst (λ (x : Step). LeavesWords x.ending c c) (sym is) refl)

-- the rows that are refused

pub full_row : (s : Stops) (a : ℕ) (i : Inner) → is_full s.breaks a ≡ true → debug_row s (Break a) i 1 ≡ bad_line i
full_row s a i full = λ j. if full j then bad_line i else if_inside a (with_breaks s (with_break s.breaks a) i) i

outside : (a : ℕ) (done i : Inner) → nat_lt a (length i.core) ≡ false → if_inside a done i ≡ tells (codes "PROTECTION" ∷ []) i
outside a done i out = λ j. if out j then tells [] done else tells (codes "PROTECTION" ∷ []) i

pub outside_break : (s : Stops) (a : ℕ) (i : Inner) → is_full s.breaks a ≡ false → nat_lt a (length i.core) ≡ false → debug_row s (Break a) i 1 ≡ tells (codes "PROTECTION" ∷ []) i
outside_break s a i full out =
    (λ j. if full j then bad_line i else if_inside a (with_breaks s (with_break s.breaks a) i) i) ∙ outside a (with_breaks s (with_break s.breaks a) i) i out

pub outside_clear : (s : Stops) (a : ℕ) (i : Inner) → nat_lt a (length i.core) ≡ false → debug_row s (Clear a) i 1 ≡ tells (codes "PROTECTION" ∷ []) i
outside_clear s a i out = outside a (with_breaks s (without_break s.breaks a) i) i out

pub outside_set : (s : Stops) (a w : ℕ) (i : Inner) → nat_lt a (length i.core) ≡ false → debug_row s (Set a w) i 1 ≡ tells (codes "PROTECTION" ∷ []) i
outside_set s a w i out = outside a (record i { core = with_words i.core a (w ∷ []) }) i out

-- a line of which the row is that text
pub told_row : (line : DebugLine) (o : Outcome Inner) (lines : List Line) (l : Line) (s : Step) (p q : User) (c : List ℕ) (fs : List FileBody) → o ≡ tells lines (in_store (stored c fs) p).inner → s ≡ record { ending = Stopped; clock = false }
    → q ≡ record p { unread = drop 1 p.unread; fed = p.fed - 1; transcript = p.transcript ++ In l ∷ out_all lines; own = suc p.own; own_at_command = p.own } → length c ≡ 256 * p.inner.blocks
    → DidTold line l o s.ending s.clock p q (stored c fs) (stored c fs)
told_row line o lines l s p q c fs row is left size = subst (λ (x : Outcome Inner). DidTold line l x s.ending s.clock p q (stored c fs) (stored c fs)) (sym row) (told line lines l s p q c fs is left size)
