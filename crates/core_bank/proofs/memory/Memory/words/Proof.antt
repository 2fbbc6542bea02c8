-- `words` shows the words.
use Rattle.core_bank.proofs.Steps.{ℕ, List, [], ◌∷◌, refl, proved, after, ftrue, flft, fact, tables, yes, owns, plain, nothing, heard, Stays, walk_of, says, ends_at, named, w64, Val, alloc_all, pass_all, free_all, look_at, get, through, sets, sets_last, env, ‵, raw, ◌⊛◌, at_ret, ◌$◌, ◌∵◌, !, qed, done, move, keep, use1, split, join, fsplit, fjoin, suffices, frame, enter, of_opd, stop, fld, first, blocks, exec, returns}
use Rattle.std.proofs.Common.{◌+◌}
use Rattle.std.proofs.Words.{pointer_in, pointer_out}
use seplogic.Ra.Ura.{Ura}
use types.Kit.{drop, feq_i}
use types.Run.{addr, look, hop}
use types.Logic.{Logic, sem}
use mir.Val.{vptr}
use base.Logic.{ent, sep}
use base.Fml.{Lft, fhide}
use denote.SharingLaws.{beside_shr_laws}
use denote.Array.{Array-row_laws}
use denote.Builtin.{u64}
use denote.Memory.{hidden_shr}
use denote.Opens.{shr_dup, unhide, hide}
use denote.Plain.{uint_row_laws}
use denote.RattleType.{RattleType, RowLaws}
use denote.RawPtr.{RawPtr, ptr_row_laws, block_of, count_of, InBlock}
use denote.Ref.{ShrRef, shr_vals, shr_Tells}
use denote.Struct.Struct.{Struct, Struct-row_laws}
use denote.Struct.Owning.{shape}
use denote.Struct.Lending.{lent_at, lent_at_shr_laws, in_block_says, lent_out}
use denote.Triple.Walked.{stay_none_ref, Goes-none_ref}
use Rattle.std.specs.contracts.alloc.Global as heap
use Rattle.std.proofs.alloc.Global.TheLaws as alloc_laws
use Rattle.core_bank.proofs.Memories.{Words, Memory}
use Rattle.core_bank.specs.contracts.memory.Memory.words as f
use Rattle.core_bank.proofs.memory.Memory.words.Statement.{statement}
use Rattle.core_bank.proofs.memory.Memory.words.Code as code
use Rattle.core_bank.specs.contracts.memory.Memory as C

abbrev stayed : Stays f.ended.signature.params f.ended.kept
stayed = (stay_none_ref (0 ∷ []) tt (plain (λ _. Memory)) yes, tt)

abbrev Fields : RattleType
Fields = Struct (shape C.the_type)

abbrev fields : Memory.Denot → Fields.Denot
fields d = (d.at, (heap.the_field.into d.alloc, tt))

fields_laws : RowLaws Fields
fields_laws = Struct-row_laws (shape C.the_type) (ptr_row_laws, (alloc_laws.the_field_shared.shr_laws, tt))

row_laws : RowLaws Memory
row_laws d b o = beside_shr_laws (Fields.shr_at (fields d) b o) (lent_at Words d.at d.words)
    (fields_laws (fields d) b o) (lent_at_shr_laws Words (Array-row_laws u64 (uint_row_laws w64) 32768) d.at d.words)

-- a `&` to the fields shows the pointer
shows_at : {M : Type 1} {𝓤 : Ura M} (𝓛 : Logic 𝓤) (κ : Lft) (b o : ℕ) (d : Memory.Denot)
    → ent 𝓤 (sem 𝓛 (hidden_shr Fields κ (fields d) b o)) (sep 𝓤 (sem 𝓛 (hidden_shr RawPtr κ d.at b (o + 0))) (sem 𝓛 (hidden_shr Fields κ (fields d) b o)))
shows_at 𝓛 κ b o d = qed 𝓛 (‵ (hidden_shr Fields κ (fields d) b o) ∷ []) ∵
    shr_dup ! Fields fields_laws (fields d) b o κ $ unhide ! $ fsplit ! $ fsplit ! $ hide ! $ keep ! (0 ∷ 3 ∷ []) $ done !

pub words_spec : {M : Type 1} → statement M
words_spec 𝓤 𝓛 𝓜 𝓡 wired =
    let c = f.clauses 𝓛 𝓜.mem 𝓡.returns in let W = walk_of 𝓛 f.ended stayed c in let 𝓣 = tables 𝓤 𝓛.H 𝓜 𝓡 𝓡.env in
    proved 𝓛 f.ended stayed c 𝓜 𝓡 (Goes-none_ref 𝓛 1 (0 ∷ []) tt (plain (λ _. Memory)) yes, tt)
    f.Key.name code.function (code.unfolded 𝓤 𝓛.H 𝓜 𝓡 wired)
    (λ κs. (shr_vals, tt)) (λ κs. (shr_Tells (named 0) κs.0 Memory, tt)) (λ κs qs bounds a _ are.
    let b = a.0.ref_ptr.0 in let o = a.0.ref_ptr.1 in let d = a.0.now in let κ = κs.0 in
    let y : W.Ghost = ((κs, qs, bounds, a, (shr_vals a.0, tt)), tt) in
    let to : ℕ × ℕ = (block_of d.at, count_of d.at) in
    qed 𝓛 (((‵ (flft κ qs.0) ⊛ ‵ ftrue) ⊛ ‵ (owns (ShrRef (named 0) κ Memory ∷ []) a y.0.4)) ∷ ‵ ftrue ∷ []) ∵
    split ! $ split ! $ move ! (2 ∷ 0 ∷ []) $ keep ! (0 ∷ 1 ∷ []) $ fsplit ! $ fsplit ! $ drop ! $ move ! (0 ∷ 2 ∷ []) $ keep ! (0 ∷ 1 ∷ []) $
    -- [a `&` to the memory; the token]
    shr_dup ! Memory row_laws d b o κ $
    use1 𝓛 (‵ (hidden_shr Fields κ (fields d) b o) ⊛ ‵ (fhide (C.the_lent d d.at κ))) (lent_out 𝓛 C.struct (C.the_codes heap.the_row.coded) C.the_heap C.the_lent κ d b o) $ split ! $ move ! (1 ∷ []) $
    unhide ! $ fsplit ! $ use1 𝓛 (raw (fact 𝓤 (InBlock d.at))) (in_block_says 𝓛 d.at) $ heard ! (InBlock d.at) (λ inb. hide ! $
    -- [a `&` to the words; a `&` to the fields; a `&` to the memory; the token]
    move ! (1 ∷ 3 ∷ 0 ∷ 2 ∷ []) $
    enter ! _ _ _ _ _ $ alloc_all ! (λ l. pass_all ! refl ((tt, tt), tt) $
    first ! $ blocks ! $
    pointer_in ! tt d.at inb b (o + 0) (shows_at 𝓛 κ b o d) (λ q'.
    sets_last ! (addr ! (through ! refl (fld ! refl (hop ! (look ! 1 refl) (stop !))))) refl (tt, tt) $
    exec ! 𝓣.C 𝓣.Λ (env code.Mir.locals l) (after 1 (code.function).body) (at_ret _ (W.post y)) $
    pointer_out ! tt d.at inb b (o + 0) $
    sets ! (of_opd ! (get ! refl)) refl (tt, tt) $
    returns ! (look_at ! 0 refl) $ free_all ! refl $ keep ! (0 ∷ 3 ∷ 2 ∷ []) $
    suffices ! _ (ends_at 𝓛 f.ended stayed c y (vptr to.0 to.1) (record { ref_ptr = to; now = d.words }) (tt, tt) (tt, tt)) $ says ! refl $
    nothing ! $ move ! (1 ∷ 0 ∷ []) $ join ! $ frame ! $ feq_i ! (List Val) (vptr b o ∷ []) (vptr b o ∷ []) refl $ fjoin ! $ nothing ! $ move ! (1 ∷ 0 ∷ []) $ fjoin ! $ frame ! $
    feq_i ! (List Val) (vptr to.0 to.1 ∷ []) (vptr to.0 to.1 ∷ []) refl $ fjoin ! $ done !))))
