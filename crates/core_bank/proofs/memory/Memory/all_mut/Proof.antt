-- `all_mut` lends all words.
use Rattle.core_bank.proofs.Steps.{◌≡◌, ℕ, List, [], ◌∷◌, refl, sym, ap, ◌∙◌, arith, proved, after, full_share, ftrue, flft, id⊢, tables, no, follows, lends_Elements, shows, mem, cell_at, Array, Array-apart, row, whole_in, owns, Ptr, block_ptr, lies_at, in_a_block, MutRef, mut_vals, mut_Tells, plain, mut_ref_to, MutSlice, Room, slice_val, nothing, opens, peeks, Stays, walk_of, says, stay_dropped, Goes-spent_ref, ends_at, named, Val, alloc_all, pass_all, free_all, look_at, get, through, sets, sets_last, env, ‵, ◌⊛◌, some, later, at_ret, ◌$◌, ◌∵◌, !, qed, done, move, keep, use1, split, split3, join, fsplit, fsplit3, fjoin, feq_l, pick, await, rewrite, suffices, frame, group, whole, sub, look_in, agg, enter, of_opd, load, stop, fld, no_more, and_then, first, blocks, exec, returns, cells}
use Rattle.std.proofs.Common.{length, drop}
use Rattle.std.proofs.lemmas.List.{take_at}
use seplogic.Ra.Ura.{Ura}
use types.Kit.{use2}
use types.Logic.{Logic, sem}
use base.Logic.{ent, sep, via, guard_i}
use mir.Syntax.{w64}
use mir.Val.{vint, Fits}
use base.Fml.{feq, fsep}
use denote.Builtin.{u64}
use Rattle.core_bank.specs.Parts.{with_words}
use Rattle.core_bank.proofs.Memories.{Words, Memory}
use Rattle.core_bank.proofs.Backs.{Others, back}
use Rattle.core_bank.specs.contracts.memory.Memory.all_mut as f
use Rattle.core_bank.proofs.memory.Memory.all_mut.Statement.{statement}
use Rattle.core_bank.proofs.memory.Memory.all_mut.Code as code
use Rattle.core_bank.proofs.memory.Memory.TheLaws.{lowers}

abbrev stayed : Stays f.ended.signature.params f.ended.kept
stayed = (stay_dropped (mut_ref_to (0 ∷ []) tt (plain (λ _. Memory))) no, tt)

module _ {M : Type 1} {𝓤 : Ura M} (𝓛 : Logic 𝓤) (h : Memory.Denot) (us : List Val) (b o b' o' : ℕ) (e : h.at ≡ block_ptr b' o') (len : length h.words ≡ 32768) where
  abbrev now_with : List ℕ → Memory.Denot
  now_with zs = record h { words = with_words h.words zs }

  put_back : (zs : List ℕ) → length zs ≡ length h.words → ent 𝓤 (sep 𝓤 (sem 𝓛 (cells (mem u64) zs b' o')) (sem 𝓛 (Others h us b o))) (sem 𝓛 ((mem Memory).own_at (now_with zs) b o))
  put_back zs same =
      let all : with_words h.words zs ≡ zs = take_at zs (drop (length zs) h.words) (length h.words) same in
      qed 𝓛 (‵ (cells (mem u64) zs b' o') ∷ ‵ (Others h us b o) ∷ []) ∵
      rewrite ! 0 (λ (l : List ℕ). ‵ (cells (mem u64) l b' o')) (sym all) refl $
      use2 𝓛 (‵ ((mem Memory).own_at (now_with zs) b o)) (back h us b o 𝓛 b' o' e (with_words h.words zs) (ap length all ∙ same ∙ len)) $ done !

pub all_mut_spec : {M : Type 1} → statement M
all_mut_spec 𝓤 𝓛 𝓜 𝓡 wired =
    let c = f.clauses 𝓛 𝓜.mem 𝓡.returns in let W = walk_of 𝓛 f.ended stayed c in let 𝓣 = tables 𝓤 𝓛.H 𝓜 𝓡 𝓡.env in
    proved 𝓛 f.ended stayed c 𝓜 𝓡 (Goes-spent_ref 𝓛 1 (0 ∷ []) tt (plain (λ _. Memory)), tt)
    f.Key.name code.function (code.unfolded 𝓤 𝓛.H 𝓜 𝓡 wired) (λ κs. (mut_vals, tt)) (λ κs. (mut_Tells (named 0) κs.0 Memory, tt)) (λ κs qs bounds a _ are.
    let b = a.0.ref_ptr.0 in let o = a.0.ref_ptr.1 in let h = a.0.now in let γ = a.0.ghost_name in
    let y : W.Ghost = ((κs, qs, bounds, a, (mut_vals a.0, tt)), tt) in
    let ws : List ℕ = h.words in
    let Cell = λ (us : List Val). ‵ (cell_at full_share Memory.mir us b o) in
    qed 𝓛 (((‵ (flft κs.0 qs.0) ⊛ ‵ ftrue) ⊛ ‵ (owns (MutRef (named 0) κs.0 Memory ∷ []) a y.0.4)) ∷ ‵ ftrue ∷ []) ∵
    split ! $ move ! (1 ∷ []) $ fsplit ! $ move ! (2 ∷ []) $ split ! $ move ! (2 ∷ 0 ∷ []) $ keep ! (0 ∷ 1 ∷ []) $
    -- [self; the token]
    enter ! _ _ _ _ _ $ alloc_all ! (λ l. pass_all ! refl ((tt, tt), tt) $
    fsplit3 ! $ move ! (1 ∷ 2 ∷ 3 ∷ []) $ opens ! tt Memory b o (λ us.
    move ! (1 ∷ []) $ peeks ! Memory _ (shows 𝓛 Memory) h us (λ is. fsplit ! $ move ! (1 ∷ []) $ fsplit ! $ move ! (1 ∷ 2 ∷ []) $ fjoin ! $ move ! (1 ∷ []) $
    in_a_block ! h.at (λ p. lies_at Words full_share p ws) (id⊢ 𝓤 _) (λ b' o' e.
    use1 𝓛 (‵ (fsep (feq ℕ (length ws) 32768) (row u64 full_share ws b' o'))) (Array-apart 𝓛 u64 full_share tt 32768 ws b' o') $ fsplit ! $ feq_l ! (λ len.
    let word = lowers.val_is h us is ∙ ap (λ (p : Ptr). lowers.lowered (record h { at = p }) ∷ []) e in
    rewrite ! 2 Cell word refl $
    -- [the words; what is held beside them; the struct's cell; the open borrow, in three entries]
    first ! $ blocks ! $
    sets ! (of_opd ! (load ! (through ! refl (fld ! refl (stop !))) (look_in ! 2 (sub ! 0 refl (whole !))))) refl (tt, tt) $
    sets ! (of_opd ! (get ! refl)) refl (tt, tt) $
    sets_last ! (agg ! (and_then ! (get ! refl) (and_then ! (record { go = λ K step. via 𝓤 (K (vint w64 32768)) step (guard_i 𝓤 (Fits w64 32768) (K (vint w64 32768)) (record { fits = omega arith })) }) (no_more !)))) refl (tt, (tt, (record { fits = omega arith }, tt))) $
    exec ! 𝓣.C 𝓣.Λ (env code.Mir.locals l) (after 1 (code.function).body) (at_ret _ (W.post y)) $
    sets ! (of_opd ! (get ! refl)) refl (tt, (tt, (record { fits = omega arith }, tt))) $
    rewrite ! 2 Cell (sym word) refl $
    let roomy : Room u64 (length ws) = (omega arith, omega arith) in
    use1 𝓛 (‵ (cells (mem u64) ws b' o')) (whole_in 𝓛 u64 ws b' o') $
    -- [the words; what is held; the struct's cell; the open borrow; ..]
    move ! (1 ∷ 2 ∷ []) $ fjoin ! $ move ! (2 ∷ 3 ∷ 4 ∷ 1 ∷ 0 ∷ []) $ group ! 5 $
    let F : List ℕ → Memory.Denot = now_with 𝓛 h us b o b' o' e len in
    use1 𝓛 (later (some (λ δ. ‵ ((MutSlice (named 0) κs.0 u64).own_val (record { ref_ptr = (b', o'); ghost_name = δ; now = ws }) (slice_val (b', o') (length ws) ∷ [])) ⊛ ‵ (flft κs.0 qs.0) ⊛ ‵ (follows Memory (Array u64 0) γ δ F))))
    (lends_Elements 𝓛 Memory u64 F (named 0) κs.0 qs.0 b o b' o' γ ws roomy (sem 𝓛 (Others h us b o)) (put_back 𝓛 h us b o b' o' e len) (Memory.coded.code h) (Memory.coded.code h)) $ await ! tt $ pick ! (λ δ.
    returns ! (look_at ! 0 refl) $ free_all ! refl $ keep ! (0 ∷ []) $ split3 ! $
    rewrite ! 0 (λ (k : ℕ). ‵ ((MutSlice (named 0) κs.0 u64).own_val (record { ref_ptr = (b', o'); ghost_name = δ; now = ws }) (slice_val (b', o') k ∷ []))) len refl $
    suffices ! _ (ends_at 𝓛 f.ended stayed c y (slice_val (b', o') 32768) (record { ref_ptr = (b', o'); ghost_name = δ; now = ws }) (tt, tt) (tt, tt)) $
    nothing ! $ nothing ! $ fjoin ! $ join ! $ nothing ! $ move ! (2 ∷ 0 ∷ []) $ join ! $ join ! $ frame ! $ says ! (refl, len) $ done !)))))))
