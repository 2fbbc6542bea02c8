use Rattle.std.proofs.Common.{◌≡◌, ◌<◌, ℕ, ◌+◌, ◌-◌, map, length, get_or}
use Rattle.step_cases.specs.Fields.{field_at, octal_of}
use Rattle.step_cases.proofs.case.registers.Given as goal

abbrev pub invariant-loop-tag : goal.invariant-loop-tag
invariant-loop-tag l =
    (l.regs.ac ≡ l.initial.regs.ac) × (l.regs.mq ≡ l.initial.regs.mq) × (l.regs.si ≡ l.initial.regs.si) × (length l.regs.index ≡ 7)
    × ((k : ℕ) → k < l.tag - 1 → get_or l.regs.index k 0 ≡ octal_of (field_at (map (λ field. field.now) l.fn.fields) (3 + k)))
