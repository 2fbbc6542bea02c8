-- A step at a word whose operation is known.
use Rattle.std.proofs.Common.{◌≡◌, ℕ, Bool, true, false, ◌<◌, ◌≤◌, ◌^◌, nat_lt, List, length, slice_index, Option, Some, None, Result, Ok, Err, if◌then◌else◌, refl, ap, ◌∙◌, sym, arith, lt-ltb}
use Rattle.cpu_regs.specs.declared.regs.Regs.{Regs}
use Rattle.opcode_table.specs.Table.{class_of, kind_of}
use Rattle.opcode_table.specs.Words.{decoded}
use Rattle.opcode_table.specs.declared.op.Class.{Class}
use Rattle.opcode_table.specs.declared.op.Class.TheVariants as class
use Rattle.opcode_table.specs.declared.op.Instr.{Instr}
use Rattle.machine_model.specs.Step.{Step, at, illegal, outside}
use Rattle.machine_model.specs.Machine.{step_of, instruction, executed, done, there, row, is_xec, once, place_of, place_in}
use Rattle.rule_laws.proofs.WordLaws.{code_is_back}
use Rattle.rule_laws.specs.Operations.{IsWordOf, IsAt, direct, WorksAt, IsBeyond, Executes, OperationsDo}

-- the place
placed : (c : Class) (flag : Bool) (i : Instr) (r : Regs) (core : List ℕ) (y : ℕ) → i.flag ≡ flag → WorksAt c flag i r core y → place_of c i r core ≡ Ok y
placed class.Addressed true i r core y is h = rw (is, lt-ltb _ _ h.0) (ap Ok (sym h.1))
placed class.Addressed false i r core y is h = rw is (ap Ok (sym h))
placed class.Direct flag i r core y is h = ap Ok (sym h)
placed class.Tagged flag i r core y is h = ap Ok (sym h)
placed class.Prefixed flag i r core y is h = ap Ok (sym h)
placed class.Group flag i r core y is h = ap Ok (sym h)

not_below : (n m : ℕ) → m ≤ n → nat_lt n m ≡ false
not_below n m h = grind (arith, h)

unplaced : (i : Instr) (r : Regs) (core : List ℕ) → i.flag ≡ true → length core ≤ direct i r → place_of class.Addressed i r core ≡ Err (direct i r)
unplaced i r core is h = rw (is, not_below (direct i r) (length core) h) refl

-- the instruction of a word

known : (i : Instr) (w : ℕ) → IsWordOf i w → decoded w ≡ Some i
known i w h = (code_is_back w i h.below).1 (h.fields, h.clean, h.word)

unknown_word : (w : ℕ) → w < 2 ^ 36 → ((i : Instr) → IsWordOf i w → ⊥) → decoded w ≡ None
unknown_word w below none = by_word (decoded w) refl
  where
    by_word : (d : Option Instr) → decoded w ≡ d → decoded w ≡ None
    by_word None e = e
    by_word (Some i) e =
        let h = (code_is_back w i below).0 e in absurd (none i (record { below = below; fields = h.0; clean = h.1; word = h.2 }))

-- what an instruction does

done_at : (i : Instr) (r : Regs) (core : List ℕ) (y : ℕ) → WorksAt (class_of i.op) i.flag i r core y → done i r core ≡ row (kind_of i.op) i r core y
done_at i r core y works = ap (λ (p : Result ℕ ℕ). there p (row (kind_of i.op) i r core)) (placed (class_of i.op) i.flag i r core y refl works)

done_beyond : (i : Instr) (r : Regs) (core : List ℕ) → IsBeyond i r core → done i r core ≡ outside (direct i r)
done_beyond i r core b =
    ap (λ (p : Result ℕ ℕ). there p (row (kind_of i.op) i r core)) (ap (λ (c : Class). place_of c i r core) b.addressed ∙ unplaced i r core b.flag b.beyond)

-- the step

step_is : (i : Instr) (r : Regs) (core : List ℕ) → IsAt i r.ic core → step_of r core ≡ executed i r core
step_is i r core next =
    rw (lt-ltb _ _ next.within) (ap (λ (d : Option Instr). instruction d (λ (j : Instr). executed j r core)) (known i (slice_index core r.ic) next.word))

not_xec : (i : Instr) (r : Regs) (core : List ℕ) → is_xec (kind_of i.op) ≡ false → executed i r core ≡ done i r core
not_xec i r core e = ap (λ (b : Bool). if b then there (place_of (class_of i.op) i r core) (λ y. at core y (λ w. once w r core)) else done i r core) e

-- an XEC
xec_at : (i : Instr) (r : Regs) (core : List ℕ) (y : ℕ) → Executes i r core y → step_of r core ≡ at core y (λ w. once w r core)
xec_at i r core y h =
    step_is i r core h.next
    ∙ ap (λ (b : Bool). if b then there (place_of (class_of i.op) i r core) (λ y. at core y (λ w. once w r core)) else done i r core) h.xec
    ∙ ap (λ (p : Result ℕ ℕ). there p (λ y. at core y (λ w. once w r core))) (placed (class_of i.op) i.flag i r core y refl h.works)

xec_of : (i j : Instr) (r : Regs) (core : List ℕ) (y : ℕ) → Executes i r core y → IsAt j y core
    → step_of r core ≡ (if is_xec (kind_of j.op) then illegal else done j r core)
xec_of i j r core y h there =
    xec_at i r core y h
    ∙ rw (lt-ltb _ _ there.within) (ap (λ (d : Option Instr). instruction d (λ j. if is_xec (kind_of j.op) then illegal else done j r core)) (known j (slice_index core y) there.word))

xec_plain : (i j : Instr) (r : Regs) (core : List ℕ) (y : ℕ) → Executes i r core y → IsAt j y core → is_xec (kind_of j.op) ≡ false → step_of r core ≡ done j r core
xec_plain i j r core y h there e = xec_of i j r core y h there ∙ ap (λ (b : Bool). if b then illegal else done j r core) e

pub operations_do : OperationsDo
operations_do = record {
  does = λ i r core y next plain works. step_is i r core next ∙ not_xec i r core plain ∙ done_at i r core y works;
  beyond = λ i r core next b. step_is i r core next ∙ beyond_executed i r core (is_xec (kind_of i.op)) refl b;
  unknown = λ r core within none below. rw (lt-ltb _ _ within) (ap (λ (d : Option Instr). instruction d (λ (j : Instr). executed j r core)) (unknown_word (slice_index core r.ic) below none));
  past = λ r core out. rw (not_below r.ic (length core) out) refl;
  executes = λ i j r core y z h there plain works. xec_plain i j r core y h there plain ∙ done_at j r core z works;
  executes_beyond = λ i j r core y h there plain b. xec_plain i j r core y h there plain ∙ done_beyond j r core b;
  executes_itself = λ i j r core y h there xec. xec_of i j r core y h there ∙ ap (λ (b : Bool). if b then illegal else done j r core) xec;
  executes_unknown = λ i r core y h within none below. xec_at i r core y h
      ∙ rw (lt-ltb _ _ within) (ap (λ (d : Option Instr). instruction d (λ j. if is_xec (kind_of j.op) then illegal else done j r core)) (unknown_word (slice_index core y) below none));
  executes_past = λ i r core y h out. xec_at i r core y h ∙ rw (not_below y (length core) out) refl;
}
  where
    beyond_executed : (i : Instr) (r : Regs) (core : List ℕ) (b : Bool) → is_xec (kind_of i.op) ≡ b → IsBeyond i r core → executed i r core ≡ outside (direct i r)
    beyond_executed i r core true e out =
        ap (λ (b : Bool). if b then there (place_of (class_of i.op) i r core) (λ y. at core y (λ w. once w r core)) else done i r core) e
        ∙ ap (λ (p : Result ℕ ℕ). there p (λ y. at core y (λ w. once w r core))) (ap (λ (c : Class). place_of c i r core) out.addressed ∙ unplaced i r core out.flag out.beyond)
    beyond_executed i r core false e out = not_xec i r core e ∙ done_beyond i r core out
