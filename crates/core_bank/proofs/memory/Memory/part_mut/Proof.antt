-- `part_mut` lends some of the words.
use Rattle.core_bank.proofs.Steps.{◌≡◌, ℕ, ◌≤◌, List, [], ◌∷◌, refl, sym, ap, ◌∙◌, arith, proved, after, full_share, ftrue, flft, id⊢, fact, tables, yes, no, follows, lends_Elements, shows, mem, cell_at, Array, Array-apart, row, whole_in, uint_vals, uint_Tells, owns, Ptr, block_ptr, lies_at, in_a_block, MutRef, mut_vals, mut_Tells, plain, mut_ref_to, MutSlice, Room, slice_val, nothing, opens, heard, peeks, Stays, walk_of, says, stay_dropped, Goes-dropped, Goes-spent_ref, ends_at, named, w64, Val, alloc_all, pass_all, free_all, look_at, get, through, sets, sets_last, env, ‵, raw, ◌⊛◌, some, later, at_ret, ◌$◌, ◌∵◌, !, qed, done, move, keep, use1, split, split3, join, fsplit, fsplit3, fjoin, feq_l, pick, await, rewrite, suffices, frame, group, whole, sub, look_in, agg, enter, of_opd, lit, bin, load, stop, fld, no_more, and_then, first, blocks, exec, returns, cells}
use Rattle.std.proofs.Common.{◌+◌, ◌-◌, ◌*◌, ◌<◌, ◌^◌, ◌++◌, length, take, length-append, length-drop, take-append-drop}
use lib.ListN.{drop as drop_list}
use seplogic.Ra.Ura.{Ura}
use types.Kit.{use2}
use types.Logic.{Logic, sem}
use base.Logic.{ent, sep}
use base.Fml.{Fml, feq, fsep}
use denote.Builtin.{u64, usize}
use borrow.Table.Elements.{at, at_mul, cut_app, join_app, length-take-le}
use Rattle.core_bank.proofs.Memories.{Words, Memory}
use Rattle.core_bank.proofs.Backs.{Others, back}
use Rattle.core_bank.specs.contracts.memory.Memory.part_mut as f
use Rattle.core_bank.proofs.memory.Memory.part_mut.Statement.{statement}
use Rattle.core_bank.proofs.memory.Memory.part_mut.Code as code
use Rattle.core_bank.proofs.memory.Memory.TheLaws.{lowers}

abbrev stayed : Stays f.ended.signature.params f.ended.kept
stayed = (stay_dropped (mut_ref_to (0 ∷ []) tt (plain (λ _. Memory))) no, (stay_dropped (plain (λ _. usize)) yes, (stay_dropped (plain (λ _. usize)) yes, tt)))

-- the words before the part and behind it, and the rest of the memory
module _ {M : Type 1} {𝓤 : Ura M} (𝓛 : Logic 𝓤) (h : Memory.Denot) (us : List Val) (b o b' o' p : ℕ) (e : h.at ≡ block_ptr b' o')
    (front mid behind : List ℕ) (len : length (front ++ (mid ++ behind)) ≡ 32768) (on : at o' 8 (length front) ≡ p) where
  abbrev around : List ℕ → List ℕ
  around zs = front ++ (zs ++ behind)

  abbrev now_with : List ℕ → Memory.Denot
  now_with zs = record h { words = around zs }

  abbrev Rest : Fml
  Rest = fsep (cells (mem u64) front b' o') (fsep (cells (mem u64) behind b' (at p 8 (length mid))) (Others h us b o))

  put_back : (zs : List ℕ) → length zs ≡ length mid → ent 𝓤 (sep 𝓤 (sem 𝓛 (cells (mem u64) zs b' p)) (sem 𝓛 Rest)) (sem 𝓛 ((mem Memory).own_at (now_with zs) b o))
  put_back zs same =
      let l1 : length (front ++ (mid ++ behind)) ≡ length front + length (mid ++ behind) = length-append front (mid ++ behind) in
      let l2 : length (mid ++ behind) ≡ length mid + length behind = length-append mid behind in
      let l3 : length (around zs) ≡ length front + length (zs ++ behind) = length-append front (zs ++ behind) in
      let l4 : length (zs ++ behind) ≡ length zs + length behind = length-append zs behind in
      qed 𝓛 (‵ (cells (mem u64) zs b' p) ∷ ‵ Rest ∷ []) ∵
      move ! (1 ∷ []) $ fsplit ! $ move ! (1 ∷ []) $ fsplit ! $
      -- [behind; the others; front; the part]
      move ! (3 ∷ 0 ∷ []) $ rewrite ! 1 (λ (k : ℕ). ‵ (cells (mem u64) behind b' (at p 8 k))) (sym same) refl $
      use2 𝓛 (‵ (cells (mem u64) (zs ++ behind) b' p)) (join_app 𝓛 (mem u64) zs behind b' p) $
      rewrite ! 0 (λ (k : ℕ). ‵ (cells (mem u64) (zs ++ behind) b' k)) (sym on) refl $ move ! (2 ∷ 0 ∷ []) $
      use2 𝓛 (‵ (cells (mem u64) (around zs) b' o')) (join_app 𝓛 (mem u64) front (zs ++ behind) b' o') $
      use2 𝓛 (‵ ((mem Memory).own_at (now_with zs) b o)) (back h us b o 𝓛 b' o' e (around zs) (omega arith)) $ done !

pub part_mut_spec : {M : Type 1} → statement M
part_mut_spec 𝓤 𝓛 𝓜 𝓡 wired =
    let c = f.clauses 𝓛 𝓜.mem 𝓡.returns in let W = walk_of 𝓛 f.ended stayed c in let 𝓣 = tables 𝓤 𝓛.H 𝓜 𝓡 𝓡.env in
    proved 𝓛 f.ended stayed c 𝓜 𝓡 (Goes-spent_ref 𝓛 1 (0 ∷ []) tt (plain (λ _. Memory)), (Goes-dropped 𝓛 1 (plain (λ _. usize)) yes (λ κs x w. refl), (Goes-dropped 𝓛 1 (plain (λ _. usize)) yes (λ κs x w. refl), tt)))
    f.Key.name code.function (code.unfolded 𝓤 𝓛.H 𝓜 𝓡 wired)
    (λ κs. (mut_vals, (uint_vals w64, (uint_vals w64, tt)))) (λ κs. (mut_Tells (named 0) κs.0 Memory, (uint_Tells w64, (uint_Tells w64, tt)))) (λ κs qs bounds a _ are.
    let b = a.0.ref_ptr.0 in let o = a.0.ref_ptr.1 in let h = a.0.now in let γ = a.0.ghost_name in
    let m : ℕ = a.1.0 in let n : ℕ = a.1.1.0 in
    let fm : m < 2 ^ 64 = are.1.0.1 in let fn : n < 2 ^ 64 = are.1.1.0.1 in
    let y : W.Ghost = ((κs, qs, bounds, a, (mut_vals a.0, (uint_vals w64 m, (uint_vals w64 n, tt)))), tt) in
    let ws : List ℕ = h.words in
    let Cell = λ (us : List Val). ‵ (cell_at full_share Memory.mir us b o) in
    qed 𝓛 (((‵ (flft κs.0 qs.0) ⊛ ‵ ftrue) ⊛ ‵ (owns (MutRef (named 0) κs.0 Memory ∷ usize ∷ usize ∷ []) a y.0.4)) ∷ (raw (fact 𝓤 (m ≤ n)) ⊛ raw (fact 𝓤 (n ≤ 32768))) ∷ []) ∵
    move ! (1 ∷ []) $ split ! $ heard ! _ (λ order. heard ! _ (λ inside.
    split ! $ move ! (1 ∷ []) $ fsplit ! $ move ! (2 ∷ []) $ split ! $ move ! (2 ∷ 0 ∷ []) $ keep ! (0 ∷ 1 ∷ []) $
    -- [self; the token]
    enter ! _ _ _ _ _ $ alloc_all ! (λ l. pass_all ! refl ((tt, tt), ((tt, record { fits = fm }), ((tt, record { fits = fn }), tt))) $
    fsplit3 ! $ move ! (1 ∷ 2 ∷ 3 ∷ []) $ opens ! tt Memory b o (λ us.
    move ! (1 ∷ []) $ peeks ! Memory _ (shows 𝓛 Memory) h us (λ is. fsplit ! $ move ! (1 ∷ []) $ fsplit ! $ move ! (1 ∷ 2 ∷ []) $ fjoin ! $ move ! (1 ∷ []) $
    in_a_block ! h.at (λ p. lies_at Words full_share p ws) (id⊢ 𝓤 _) (λ b' o' e.
    use1 𝓛 (‵ (fsep (feq ℕ (length ws) 32768) (row u64 full_share ws b' o'))) (Array-apart 𝓛 u64 full_share tt 32768 ws b' o') $ fsplit ! $ feq_l ! (λ len.
    let word = lowers.val_is h us is ∙ ap (λ (p : Ptr). lowers.lowered (record h { at = p }) ∷ []) e in
    rewrite ! 2 Cell word refl $
    -- [the words; what is held beside them; the struct's cell; the open borrow, in three entries]
    first ! $ blocks ! $
    sets ! (of_opd ! (load ! (through ! refl (fld ! refl (stop !))) (look_in ! 2 (sub ! 0 refl (whole !))))) refl (tt, tt) $
    sets ! (of_opd ! (get ! refl)) refl (tt, tt) $
    sets ! (bin ! (get ! refl) (lit ! tt) (record { fits = omega arith })) refl (tt, record { fits = omega arith }) $
    sets ! (bin ! (get ! refl) (get ! refl) tt) refl (tt, tt) $
    sets ! (bin ! (get ! refl) (get ! refl) order) refl (tt, record { fits = omega arith }) $
    sets_last ! (agg ! (and_then ! (get ! refl) (and_then ! (get ! refl) (no_more !)))) refl (tt, (tt, (record { fits = omega arith }, tt))) $
    exec ! 𝓣.C 𝓣.Λ (env code.Mir.locals l) (after 1 (code.function).body) (at_ret _ (W.post y)) $
    sets ! (of_opd ! (get ! refl)) refl (tt, (tt, (record { fits = omega arith }, tt))) $
    rewrite ! 2 Cell (sym word) refl $
    let p : ℕ = m * 8 + o' in
    let front : List ℕ = take m ws in
    let mid : List ℕ = take (n - m) (drop_list m ws) in
    let behind : List ℕ = drop_list (n - m) (drop_list m ws) in
    let lf : length front ≡ m = length-take-le m ws (omega arith) in
    let lb : length (drop_list m ws) ≡ length ws - m = length-drop m ws in
    let long : length mid ≡ n - m = length-take-le (n - m) (drop_list m ws) (omega arith) in
    let on : at o' 8 (length front) ≡ p = at_mul o' 8 (length front) ∙ ap (λ (k : ℕ). k * 8 + o') lf in
    let cut : ws ≡ front ++ (mid ++ behind) = sym (take-append-drop m ws) ∙ ap (λ (l : List ℕ). front ++ l) (sym (take-append-drop (n - m) (drop_list m ws))) in
    let full : length (front ++ (mid ++ behind)) ≡ 32768 = sym (ap length cut) ∙ len in
    let roomy : Room u64 (length mid) = (omega arith, omega arith) in
    use1 𝓛 (‵ (cells (mem u64) ws b' o')) (whole_in 𝓛 u64 ws b' o') $
    rewrite ! 0 (λ (l : List ℕ). ‵ (cells (mem u64) l b' o')) cut refl $
    use1 𝓛 (‵ (cells (mem u64) front b' o') ⊛ ‵ (cells (mem u64) (mid ++ behind) b' (at o' 8 (length front)))) (cut_app 𝓛 (mem u64) front (mid ++ behind) b' o') $ split ! $ move ! (1 ∷ []) $
    rewrite ! 0 (λ (k : ℕ). ‵ (cells (mem u64) (mid ++ behind) b' k)) on refl $
    use1 𝓛 (‵ (cells (mem u64) mid b' p) ⊛ ‵ (cells (mem u64) behind b' (at p 8 (length mid)))) (cut_app 𝓛 (mem u64) mid behind b' p) $ split ! $
    -- [the part; behind; front; what is held; the struct's cell; the open borrow; ..]
    move ! (3 ∷ 4 ∷ []) $ fjoin ! $ move ! (2 ∷ 0 ∷ []) $ fjoin ! $ move ! (2 ∷ 0 ∷ []) $ fjoin ! $ move ! (2 ∷ 3 ∷ 4 ∷ 1 ∷ 0 ∷ []) $ group ! 5 $
    let F : List ℕ → Memory.Denot = now_with 𝓛 h us b o b' o' p e front mid behind full on in
    use1 𝓛 (later (some (λ δ. ‵ ((MutSlice (named 0) κs.0 u64).own_val (record { ref_ptr = (b', p); ghost_name = δ; now = mid }) (slice_val (b', p) (length mid) ∷ [])) ⊛ ‵ (flft κs.0 qs.0) ⊛ ‵ (follows Memory (Array u64 0) γ δ F))))
    (lends_Elements 𝓛 Memory u64 F (named 0) κs.0 qs.0 b o b' p γ mid roomy (sem 𝓛 (Rest 𝓛 h us b o b' o' p e front mid behind full on)) (put_back 𝓛 h us b o b' o' p e front mid behind full on) (Memory.coded.code h) (Memory.coded.code h)) $ await ! tt $ pick ! (λ δ.
    returns ! (look_at ! 0 refl) $ free_all ! refl $ keep ! (0 ∷ []) $ split3 ! $
    rewrite ! 0 (λ (k : ℕ). ‵ ((MutSlice (named 0) κs.0 u64).own_val (record { ref_ptr = (b', p); ghost_name = δ; now = mid }) (slice_val (b', p) k ∷ []))) long refl $
    suffices ! _ (ends_at 𝓛 f.ended stayed c y (slice_val (b', p) (n - m)) (record { ref_ptr = (b', p); ghost_name = δ; now = mid }) (tt, (tt, (tt, tt))) (tt, (tt, (tt, tt)))) $
    nothing ! $ nothing ! $ fjoin ! $ nothing ! $ fjoin ! $ nothing ! $ fjoin ! $ join ! $ nothing ! $ move ! (2 ∷ 0 ∷ []) $ join ! $ join ! $ frame ! $ says ! (refl, long) $ done !)))))))))
