-- What a console has shown is never taken back.
use Rattle.std.proofs.Common.{◌≡◌, ℕ, suc, List, [], ◌∷◌, ◌++◌, refl, sym, ◌∙◌, ap, subst, append-nil, append_assoc}
use Rattle.live_core.specs.Core.{Grows}
use Rattle.ctss_types.specs.declared.fault.RunFault.{RunFault}
use Rattle.time_sharing.specs.Machine.{Machine}
use Rattle.time_sharing.specs.System.{SystemState, World}
use Rattle.time_sharing.specs.Texts.{texts_after, sent, said}
use Rattle.time_sharing.specs.Rows.{machine}
use Rattle.user_model.specs.Session.{user_rows}
use Rattle.system_model.specs.Run.{world, Run, next}
use Rattle.system_model.specs.Joined.{joined}
use Rattle.console_texts.specs.Watching.{texts_next}
use Rattle.user_cores.specs.Backing.{Held}
use Rattle.supervisor.specs.Shows.{GoesOn, TextsGrow}
use Rattle.supervisor.specs.Steps.{Does, Fails}
use Rattle.supervisor.proofs.Serving.{fails_to}

pub grow_none : (xs : List (List ℕ)) → TextsGrow xs xs
grow_none [] = tt
grow_none (x ∷ xs) = (([], sym (append-nil x)), grow_none xs)

grows_trans : (x y z : List ℕ) → Grows x y → Grows y z → Grows x z
grows_trans x y z one two = (one.0 ++ two.0, two.1 ∙ ap (λ (l : List ℕ). l ++ two.0) one.1 ∙ append_assoc x one.0 two.0)

pub grow_trans : (xs ys zs : List (List ℕ)) → TextsGrow xs ys → TextsGrow ys zs → TextsGrow xs zs
grow_trans [] [] [] one two = tt
grow_trans [] [] (z ∷ zs) one two = absurd two
grow_trans [] (y ∷ ys) zs one two = absurd one
grow_trans (x ∷ xs) [] zs one two = absurd one
grow_trans (x ∷ xs) (y ∷ ys) [] one two = absurd two
grow_trans (x ∷ xs) (y ∷ ys) (z ∷ zs) one two = (grows_trans x y z one.0 two.0, grow_trans xs ys zs one.1 two.1)

module _ {S P F : Type 0} (m : Machine S) (w : World S P F) where
  after_grow : (c : ℕ) (s t : SystemState S P F) (texts : List (List ℕ)) → TextsGrow texts (texts_after m w c s t texts)
  after_grow c s t [] = tt
  after_grow c s t (text ∷ texts) = ((sent (said m w c s t), refl), after_grow (suc c) s t texts)

pub next_grow : (limit : ℕ) (r : Run) (texts : List (List ℕ)) → TextsGrow texts (texts_next limit r texts)
unfolding texts_next
next_grow limit r texts = after_grow (machine user_rows) (world r) 1 r.system (next limit r).system texts

-- after a step
pub step_grow : (limit : ℕ) (old new : Run) (had has : Held) (x y : List (List ℕ)) → Does (next limit) old new had has → GoesOn limit old new x y → TextsGrow x y
step_grow limit old new had has x y d goes = subst (TextsGrow x) (sym (goes d.before d.after d.is)) (next_grow limit (joined d.before old) x)

-- where a step failed nothing was shown
pub same_grow : (fault : RunFault) (x y : List (List ℕ)) → Fails fault (y ≡ x) (y ≡ x) (y ≡ x) → TextsGrow x y
same_grow fault x y h =
    let same = λ (e : y ≡ x). subst (TextsGrow x) (sym e) (grow_none x) in
    fails_to fault (y ≡ x) (y ≡ x) (y ≡ x) (TextsGrow x y) same same same h
