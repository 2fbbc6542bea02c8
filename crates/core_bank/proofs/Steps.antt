-- What the walks cite.
pub use Rattle.std.proofs.Common.{◌≡◌, ℕ, ◌≤◌, List, [], ◌∷◌, refl, sym, ap, ◌∙◌, arith}
pub use Rattle.std.proofs.raw_atomic.Walks.{proved}
pub use Rattle.std.proofs.VecSteps.Shapes.{after}
pub use base.Fraction.{full_share}
pub use base.Fml.{ftrue, flft}
pub use base.Logic.{id⊢}
pub use contract.Monad.{fact}
pub use contract.Running.{tables}
pub use denote.Exit.{yes, no}
pub use denote.Follow.{follows}
pub use denote.FollowSlice.{lends_Elements}
pub use denote.Laws.{shows}
pub use denote.Memory.{mem, cell_at}
pub use denote.Array.{Array}
pub use denote.ArrayMemory.{Array-apart}
pub use denote.Index.{row, whole_in}
pub use denote.Plain.{uint_vals, uint_Tells}
pub use denote.RattleType.{owns}
pub use denote.RawPtr.{Ptr, block_ptr, lies_at, in_a_block}
pub use denote.Ref.{MutRef, mut_vals, mut_Tells}
pub use denote.Signature.{plain, mut_ref_to}
pub use denote.Slice.{MutSlice, Room, slice_val}
pub use denote.Steps.{nothing, opens, heard, peeks}
pub use denote.Triple.Walked.{Stays, walk_of, says, stay_dropped, Goes-dropped, Goes-spent_ref, ends_at}
pub use mir.Syntax.{named, w64}
pub use mir.Val.{Val}
pub use types.ByLocal.{alloc_all, pass_all, free_all, look_at, get, through, sets, sets_last, env}
pub use types.Kit.{‵, raw, ◌⊛◌, some, later, at_ret, ◌$◌, ◌∵◌, !, qed, done, move, keep, use1, split, split3, join, fsplit, fsplit3, fjoin, feq_l, pick, await, rewrite, suffices, frame, group}
pub use types.Part.{whole, sub, look_in, agg}
pub use types.Run.{enter, of_opd, lit, bin, load, stop, fld, no_more, and_then, first, blocks, exec, returns}
pub use types.SemTy.{cells}
