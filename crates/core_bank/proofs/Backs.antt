-- A memory behind a `&mut` is put together again, with other words.
use Rattle.core_bank.proofs.Steps.{◌≡◌, ℕ, List, [], ◌∷◌, sym, ‵, ◌$◌, ◌∵◌, !, qed, done, move, use1, fsplit, fjoin, rewrite, full_share, mem, cell_at, row, Ptr, block_ptr, lies_at, Val, cells}
use Rattle.std.proofs.Common.{length, refl}
use base.Fml.{Fml, fsep, fex}
use base.Logic.{ent, sep}
use denote.ArrayMemory.{Array-whole}
use denote.Builtin.{u64, RawPtr}
use denote.Index.{whole_out}
use denote.Memory.{part_of, lone}
use denote.RattleType.{Valss}
use denote.Struct.Owning.{shape}
use denote.Struct.Struct.{within}
use mir.Raw.{raw as bare}
use seplogic.Ra.Ura.{Ura}
use types.Kit.{feq_i, fpack}
use types.Logic.{Logic, sem}
use Rattle.std.specs.contracts.alloc.Global as heap
use Rattle.std.specs.contracts.impls.GlobalAllocator.TheImpl.{ghosts}
use Rattle.core_bank.proofs.Memories.{Words, Heap, Memory}
use Rattle.core_bank.specs.contracts.memory.Memory as memory

module _ (h : Memory.Denot) (us : List Val) (b o : ℕ) where
  -- the right to free the block, and what the fields own
  abbrev pub Held : Fml
  Held = fsep (ghosts.dealloc_token h.alloc (bare (lone Words.mir)) h.at) (fex (Valss (RawPtr ∷ Heap ∷ [])) (within (shape memory.the_type) (h.at, (heap.the_field.into h.alloc, tt)) us))

  -- all but the words
  abbrev pub Others : Fml
  Others = fsep Held (cell_at full_share Memory.mir us b o)

  pub back : {M : Type 1} {𝓤 : Ura M} (𝓛 : Logic 𝓤) (b' o' : ℕ) → h.at ≡ block_ptr b' o' → (ws : List ℕ) → length ws ≡ 32768
      → ent 𝓤 (sep 𝓤 (sem 𝓛 (cells (mem u64) ws b' o')) (sem 𝓛 Others)) (sem 𝓛 ((mem Memory).own_at (record h { words = ws }) b o))
  unfolding part_of
  back 𝓛 b' o' e ws full =
      qed 𝓛 (‵ (cells (mem u64) ws b' o') ∷ ‵ Others ∷ []) ∵
      use1 𝓛 (‵ (row u64 full_share ws b' o')) (whole_out 𝓛 u64 ws b' o') $
      feq_i ! ℕ (length ws) 32768 full $ fjoin ! $
      use1 𝓛 (‵ (lies_at Words full_share (block_ptr b' o') ws)) (Array-whole 𝓛 u64 full_share 32768 ws b' o') $
      rewrite ! 0 (λ (r : Ptr). ‵ (lies_at Words full_share r ws)) (sym e) refl $
      move ! (1 ∷ []) $ fsplit ! $ fsplit ! $
      -- [the right to free; the fields; the struct's cell; the words]
      move ! (3 ∷ 0 ∷ []) $ fjoin ! $ move ! (1 ∷ 0 ∷ []) $ fjoin ! $ move ! (1 ∷ 0 ∷ []) $ fjoin ! $
      fpack ! (List Val) (λ vs. fsep (cell_at full_share Memory.mir vs b o) (Memory.own_val (record h { words = ws }) vs)) us $ done !
