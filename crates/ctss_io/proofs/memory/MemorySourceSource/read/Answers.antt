use Rattle.std.proofs.Common.{List, ℕ, ◌+◌, ◌-◌, ◌≤◌, length, take, drop, sym, ◌∙◌, ap, arith}
use Rattle.std.specs.Prelude.{Some}
use Rattle.ctss_io.specs.Memory.{SourceState}
use Rattle.ctss_io.proofs.Pieces.{piece_moved}
use Rattle.ctss_io.proofs.memory.MemorySourceSource.read.Goals as goal

-- what was copied stood at the front of what is left
pub returns-clause-moved : goal.returns-clause-moved
returns-clause-moved c =
    let s = c.self.inside in
    let count = c.min-count.result in
    let within : s.at + count ≤ length s.bytes.items = omega arith in
    let slice = λ (bytes : List ℕ). take (s.at + count - s.at) (drop s.at bytes) in
    let copied = c.copy_from_slice.ensures.after ∙ ap slice c.deref-2.ensures.value in
    let left = sym (ap (λ (state : SourceState). state.left) c.self.view_is) in
    ap (λ (bytes : List ℕ). Some bytes) (left ∙ piece_moved _ _ c.args.into.now s.at count within copied)
