-- What a program has read and written after some steps is what it had before them, and what their trace shows.
use Rattle.std.proofs.Common.{◌≡◌, ℕ, zero, suc, Bool, true, false, List, ◌++◌, length, drop}
use Rattle.std.proofs.Common.{refl, sym, ap, ◌∙◌, append_assoc, append-nil}
use Rattle.std.specs.List.{flat_map}
use Rattle.std.proofs.Math.Seq.{drop-append_seam}
use Rattle.time_sharing.specs.Machine.{Item}
use Rattle.user_model.specs.User.{step}
use Rattle.program_trace.specs.Lone.{TracedUser, stepped, goes_on, gone}
use Rattle.program_trace.specs.Traces.{steps_from, step_between}
use Rattle.program_trace.specs.declared.types.TracedStep.{TracedStep}
use Rattle.program_trace.proofs.States.{gone_on, gone_still, steps_on, steps_none}

abbrev items_of : List TracedStep → List Item
items_of steps = flat_map (λ (s : TracedStep). s.items) steps

-- a step writes behind what was written
step_writes : (a : TracedUser) → (more : List Item) × ((stepped a).user.transcript ≡ a.user.transcript ++ more)
unfolding stepped step
step_writes a = (_, refl)

-- and a trace shows that
step_shows : (a : TracedUser)
    → (stepped a).user.transcript ≡ a.user.transcript ++ (step_between a (stepped a)).items
step_shows a =
    let had = a.user.transcript in
    let more = step_writes a in
    let behind : drop (length had) (stepped a).user.transcript ≡ more.0
    = ap (drop (length had)) more.1 ∙ drop-append_seam had more.0 in
    more.1 ∙ ap (λ (items : List Item). had ++ items) (sym behind)

-- says that the transcript after n steps is shown by their trace
abbrev AreShown : ℕ → TracedUser → Type 0
AreShown n a = (gone n a).user.transcript ≡ a.user.transcript ++ items_of (steps_from n a)

pub steps_show : (n : ℕ) (a : TracedUser) → AreShown n a
unfolding gone steps_from
steps_show zero a = sym (append-nil a.user.transcript)
steps_show (suc n) a = by_test (goes_on a) refl (steps_show n (stepped a))
  where
    had : List Item
    had = a.user.transcript

    by_test : (b : Bool) → goes_on a ≡ b → AreShown n (stepped a) → AreShown (suc n) a
    by_test true on rest =
        ap (λ (b : TracedUser). b.user.transcript) (gone_on n a on)
        ∙ rest
        ∙ ap (λ (items : List Item). items ++ items_of (steps_from n (stepped a))) (step_shows a)
        ∙ append_assoc had (step_between a (stepped a)).items (items_of (steps_from n (stepped a)))
        ∙ ap (λ (ss : List TracedStep). had ++ items_of ss) (sym (steps_on n a on))
    by_test false still rest =
        ap (λ (b : TracedUser). b.user.transcript) (gone_still (suc n) a still)
        ∙ sym (append-nil had)
        ∙ ap (λ (ss : List TracedStep). had ++ items_of ss) (sym (steps_none (suc n) a still))
