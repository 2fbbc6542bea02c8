use Rattle.std.proofs.Common.{◌≡◌, ◌<◌, ◌-◌, ◌++◌, ℕ, map, take, replicate}
use Rattle.std.specs.List.{All}
use Rattle.ctss_types.specs.Words.{code_for}
use Rattle.ctss_types.proofs.words.name_codes.Given as goal

-- the codes so far, and blanks
abbrev pub invariant-codes : goal.invariant-codes
invariant-codes l = record {
  codes : l.codes ≡ map code_for (take l.i l.text) ++ replicate (6 - l.i) 48;
  below : All (λ (code : ℕ). code < 64) l.codes;
}
