-- A memory by value: what it owns, and its machine value.
use Rattle.std.proofs.Common.{◌≡◌, ℕ, List, [], ◌∷◌, ◌++◌, refl, subst}
use mathlib.Core.Bool.{true, ◌&&◌}
use lib.Dec.{T}
use seplogic.Ra.Ura.{Ura}
use mir.Syntax.{Ty, Dict, impl, tnil, tcons, dnil}
use mir.Raw.{raw as bare}
use mir.Val.{Val, vptr, vstruct, vcons, vnil, of_list, has_ty, WT}
use base.Logic.{never, fst∗}
use types.Logic.{Logic, sem}
use types.Kit.{Item, Goal, Seq, Step, step, ‵, ◌$◌, move, drop, fsplit, fjoin, fpick, fpack, feq_i, feq_l}
use denote.RattleType.{RattleType, Valss}
use denote.Array.{Array}
use denote.Builtin.{u64, RawPtr}
use denote.Memory.{lone}
use denote.RawPtr.{Ptr, block_ptr, null_ptr, ptr_val, in_a_block}
use denote.Steps.{nothing}
use denote.Exit.{no}
use denote.Param.{layout, arg}
use denote.Param.Laws.{Laws, arg_laws, array_laws, of_field}
use denote.Param.Shared.{copy_shared}
use denote.Struct.Field.{u64-field}
use denote.Struct.Laws.{u64-laws, u64-copy}
use denote.Struct.Struct.{within}
use denote.Struct.Owning.{shape}
use Rattle.std.proofs.alloc.Calls.{handle_tells}
use Rattle.std.specs.contracts.alloc.Global as heap
use Rattle.std.proofs.alloc.Global.TheLaws as alloc_laws
use Rattle.std.specs.contracts.impls.GlobalAllocator.TheImpl.{ghosts, dict}
use Rattle.std.specs.contracts.boxed.Box as boxed
use Rattle.std.specs.Box.Ownership.{box_owns}
use Rattle.std.proofs.BoxSteps.Form.{Bx}
use Rattle.std.proofs.ResultValues.{and_tt}
use Rattle.core_bank.specs.contracts.memory.Memory as memory

abbrev pub Words : RattleType
Words = Array u64 32768

-- the allocator, as a call passes its type
abbrev pub Heap : RattleType
Heap = arg (bare (layout heap.the_row)) no heap.the_row

pub heap_laws : Laws Heap
heap_laws = arg_laws (bare (layout heap.the_row)) no heap.the_row alloc_laws.the_row_laws refl

-- how a value of this type is dropped: nothing is done
abbrev pub dropped : RattleType → Dict
dropped R = impl ("core_bank::Destruct++none::drop" ∷ []) (tcons (layout R) tnil) dnil

abbrev pub words_laws : Laws Words
words_laws = array_laws u64 (of_field u64-field u64-laws refl (copy_shared u64-field u64-copy)) 32768

-- a box of the words
abbrev pub E : Bx
E = record { row = Words; laws = words_laws; al = record { row = Heap; laws = heap_laws; g = ghosts; d = dict; drops = dropped Heap } }

abbrev pub Boxed : RattleType
Boxed = boxed.the_row Words heap.the_row ghosts

abbrev pub Memory : RattleType
Memory = memory.the_row

-- the value has the type
abbrev pub Good : Ty → Val → Type 0
Good τ v = T (has_ty τ v) × WT v

-- a pointer and an allocator
abbrev pub both : Val → Val → Val
both v w = vstruct (vcons v (vcons w vnil))

pub both_good : (b o : ℕ) (h : Val) → Good (layout Heap) h → T (has_ty (layout Heap) h && true) × WT (both (vptr b o) h)
both_good b o h fits = (and_tt (has_ty (layout Heap) h) fits.0, (tt, (fits.1, tt)))

module _ {M : Type 1} {𝓤 : Ura M} {𝓛 : Logic 𝓤} {K : Type 0} {Γ : List (Item 𝓤)} {G : Goal 𝓤 𝓛.H} where
  pub memory_out : K → (d : Memory.Denot) (vs : List Val)
      → ((b o : ℕ) (h : Val) → d.at ≡ block_ptr b o → vs ≡ both (vptr b o) h ∷ [] → Good (layout Heap) h → Seq K 𝓛 (‵ (box_owns (ghosts.dealloc_token d.alloc) Words (block_ptr b o) d.words) ∷ ‵ (Heap.own_val d.alloc (h ∷ [])) ∷ Γ) G)
      → Seq K 𝓛 (‵ (Memory.own_val d vs) ∷ Γ) G
  memory_out t d vs k =
      fsplit t $ fpick t (λ vss. fsplit t $ feq_l t (λ ev. fsplit t $ feq_l t (λ ep. fsplit t $ handle_tells E.al t d.alloc vss.1.0 (λ h ea fits. move t (1 ∷ []) $ drop t $ move t (1 ∷ []) $
      in_a_block t d.at (λ p. box_owns (ghosts.dealloc_token d.alloc) Words p d.words) (fst∗ 𝓤 (never 𝓤) (sem 𝓛 (ghosts.dealloc_token d.alloc (bare (lone Words.mir)) null_ptr))) (λ b o e. k b o h e
      (subst (λ (p : Ptr). vs ≡ vstruct (of_list (ptr_val p ∷ h ∷ [])) ∷ []) e
      (subst (λ (ws : List Val). vs ≡ vstruct (of_list (ptr_val d.at ∷ (ws ++ []))) ∷ []) ea (subst (λ (ps : List Val). vs ≡ vstruct (of_list (ps ++ (vss.1.0 ++ []))) ∷ []) ep ev))) fits)))))

  pub memory_in : K → (b o : ℕ) (h : Val) (a : Heap.Denot) (ws : List ℕ)
      → Step K 𝓛 (‵ (Memory.own_val (record { at = block_ptr b o; alloc = a; words = ws }) (both (vptr b o) h ∷ [])) ∷ Γ) G (‵ (box_owns (ghosts.dealloc_token a) Words (block_ptr b o) ws) ∷ ‵ (Heap.own_val a (h ∷ [])) ∷ Γ) G
  memory_in t b o h a ws = step (λ s. let v : Val = both (vptr b o) h in
      nothing t $ move t (2 ∷ 0 ∷ []) $ fjoin t $ feq_i t (List Val) (vptr b o ∷ []) (vptr b o ∷ []) refl $ fjoin t $ feq_i t (List Val) (v ∷ []) (v ∷ []) refl $ fjoin t $
      fpack t (Valss (RawPtr ∷ Heap ∷ [])) (within (shape memory.the_type) (block_ptr b o, (heap.the_field.into a, tt)) (v ∷ [])) (vptr b o ∷ [], (h ∷ [], tt)) $ fjoin t $ s)
