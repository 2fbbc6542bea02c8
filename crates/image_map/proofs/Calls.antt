-- Lists of drum calls.
use Rattle.std.specs.Prelude.{true, false, Option, None, Some, slice_set}
use Rattle.std.proofs.Common.{◌≡◌, ◌≢◌, inl, inr, ℕ, zero, suc, ◌+◌, ◌<◌, ◌≤◌, List, [], ◌∷◌, ◌++◌, length, refl, sym, ◌∙◌, ap, subst, arith, append_assoc, length-append, add-one, ◌-◌, get_or-set_same, get_or-set_other, length-set}
use Rattle.std.proofs.lemmas.Bool.{cases_eq}
use Rattle.std.proofs.lemmas.List.{append-nil}
use Rattle.medium.specs.Medium.{Call, CallList, with_call}
use Rattle.std.specs.Prelude.{Result, Ok, Err, OnErr, OnOk, IsOk, IsSome}
use Rattle.drum_slots.specs.Keys.{key}
use Rattle.drum_slots.specs.Slots.{slot_of, first_free}
use Rattle.image_map.proofs.Moves.{eq_yes, eq_no}
use Rattle.medium.specs.Medium.{read_call, write_call}
use Rattle.onion_swap.specs.Places.{owner_of, base_of}
use Rattle.image_map.specs.Loads.{BlockMap, dumped, emptied, put_to, put_calls_one, put_calls_to, block_taken, load_one, fetch_calls, dump_calls, load_to, calls_one, calls_to, with_calls, cut, FailedIn}

pub with_calls-append : (told : Option CallList) (one two : List Call) → with_calls told (one ++ two) ≡ with_calls (with_calls told one) two
with_calls-append told [] two = refl
with_calls-append told (c ∷ one) two = with_calls-append (with_call told c) one two

pub cut-append_left : (one two : List Call) (k : ℕ) → k < length one → cut (one ++ two) k ≡ cut one k
cut-append_left [] two k within = absurd (omega arith)
cut-append_left (c ∷ one) two zero within = refl
cut-append_left (c ∷ one) two (suc k) within = ap (λ (l : List Call). c ∷ l) (cut-append_left one two k (omega arith))

cut_at : (one two : List Call) (k : ℕ) → (j : ℕ) × ((j ≡ length one + k) × (cut (one ++ two) j ≡ one ++ cut two k))
cut_at [] two k = (k, (omega arith, refl))
cut_at (c ∷ one) two k =
    let rest = cut_at one two k in
    (suc rest.0, (omega (arith, rest.1.0), ap (λ (l : List Call). c ∷ l) rest.1.1))

pub on_err : {T E : Type 0} (r : Result T E) (P : Type 0) → P → OnErr r P
on_err (Ok x) P p = tt
on_err (Err e) P p = p

pub on_ok : {T E : Type 0} (r : Result T E) (A P : Type 0) → OnOk r A → (IsOk r → A → P) → OnOk r P
on_ok (Ok x) A P a f = f refl a
on_ok (Err e) A P a f = tt

pub either_way : {T E : Type 0} (r : Result T E) (A B P : Type 0) → OnOk r A → OnErr r B → (IsOk r → A → P) → (B → P) → P
either_way (Ok x) A B P a b f g = f refl a
either_way (Err e) A B P a b f g = g b

-- a fault in the first of some calls, and in those behind them

pub failed_left : (one two : List Call) (old new : Option CallList) → FailedIn old new one → FailedIn old new (one ++ two)
failed_left one two old new fault =
    let len : length (one ++ two) ≡ length one + length two = length-append one two in
    let place : fault.0 < length (one ++ two) = omega (arith, fault.1.0) in
    (fault.0, (place, fault.1.1 ∙ ap (λ (l : List Call). with_calls old l) (sym (cut-append_left one two fault.0 fault.1.0))))

pub failed_right : (one two : List Call) (old now new : Option CallList) → now ≡ with_calls old one → FailedIn now new two → FailedIn old new (one ++ two)
failed_right one two old now new so_far fault =
    let at = cut_at one two fault.0 in
    let len : length (one ++ two) ≡ length one + length two = length-append one two in
    let place : at.0 < length (one ++ two) = omega (arith, at.1.0, fault.1.0) in (
      at.0,
      (
        place,
        fault.1.1 ∙ ap (λ (o : Option CallList). with_calls o (cut two fault.0)) so_far
            ∙ sym (with_calls-append old one (cut two fault.0)) ∙ ap (λ (l : List Call). with_calls old l) (sym at.1.1),
      ),
    )

-- a dump failed
pub dump_failed : (quotas bases : List ℕ) (h : BlockMap) (u b : ℕ) (ws : List ℕ) (old new : Option CallList) → owner_of h.owners (base_of bases u + b) ≢ u → owner_of h.owners (base_of bases u + b) ≢ 0
    → FailedIn old new (write_call (first_free h.free) false ∷ []) → FailedIn old new (calls_one quotas bases h u b ws)
dump_failed quotas bases h u b ws old new other some is =
    let rest : List Call = fetch_calls (slot_of (emptied quotas bases h (base_of bases u + b)).slots (key quotas u b)) ws in
    let e : calls_one quotas bases h u b ws ≡ write_call (first_free h.free) false ∷ rest = rw (eq_no _ _ other, eq_no _ _ some) refl in
    subst (λ (l : List Call). FailedIn old new l) (sym e) (failed_left (write_call (first_free h.free) false ∷ []) rest old new is)

-- a read failed
pub fetch_failed : (quotas bases : List ℕ) (h : BlockMap) (u b : ℕ) (ws : List ℕ) (old mid new : Option CallList) (hm : BlockMap) (qm : List ℕ) → owner_of h.owners (base_of bases u + b) ≢ u
    → hm ≡ emptied quotas bases h (base_of bases u + b) → qm ≡ quotas → mid ≡ with_calls old (dump_calls h (base_of bases u + b))
    → FailedIn mid new (fetch_calls (slot_of hm.slots (key qm u b)) ws) → FailedIn old new (calls_one quotas bases h u b ws)
fetch_failed quotas bases h u b ws old mid new hm qm other held same so_far is =
    let front : List Call = dump_calls h (base_of bases u + b) in
    let rest : List Call = fetch_calls (slot_of (emptied quotas bases h (base_of bases u + b)).slots (key quotas u b)) ws in
    let e : calls_one quotas bases h u b ws ≡ front ++ rest = rw (eq_no _ _ other) refl in
    let here : FailedIn mid new rest = subst (λ (l : List Call). FailedIn mid new l) (λ j. fetch_calls (slot_of (held j).slots (key (same j) u b)) ws) is in
    subst (λ (l : List Call). FailedIn old new l) (sym e) (failed_right front rest old mid new so_far here)

-- a copy that there is was read
pub fetched_map : (quotas bases : List ℕ) (h : BlockMap) (u b : ℕ) (o : Option ℕ) (now : BlockMap) → IsSome o → now.owners ≡ slice_set h.owners (base_of bases u + b) u
    → now.slots ≡ slice_set h.slots (key quotas u b) None → ((at : ℕ) → o ≡ Some at → now.free ≡ slice_set h.free at true) → now ≡ block_taken quotas bases h u b o
fetched_map quotas bases h u b None now is owners slots free = let no : false ≡ true = is in absurd (cc)
fetched_map quotas bases h u b (Some at) now is owners slots free = λ j. record { owners = owners j; slots = slots j; free = free at refl j }

pub fetched_calls : (o : Option ℕ) (ws : List ℕ) (old new : Option CallList) → IsSome o → ((at : ℕ) → o ≡ Some at → new ≡ with_call old (read_call at false ws)) → new ≡ with_calls old (fetch_calls o ws)
fetched_calls None ws old new is made = let no : false ≡ true = is in absurd (cc)
fetched_calls (Some at) ws old new is made = made at refl

pub fetched_fault : (o : Option ℕ) (ws : List ℕ) (old new : Option CallList) → IsSome o → ((at : ℕ) → o ≡ Some at → new ≡ with_call old (read_call at true ws)) → FailedIn old new (fetch_calls o ws)
fetched_fault None ws old new is made = let no : false ≡ true = is in absurd (cc)
fetched_fault (Some at) ws old new is made = (0, (omega arith, made at refl))

-- what a dump leaves, where the block has another owner or none
pub emptied_none : (quotas bases : List ℕ) (h : BlockMap) (b : ℕ) → owner_of h.owners b ≡ 0 → emptied quotas bases h b ≡ h
emptied_none quotas bases h b is = rw (eq_yes _ _ is) refl

pub emptied_some : (quotas bases : List ℕ) (h : BlockMap) (b : ℕ) → owner_of h.owners b ≢ 0 → emptied quotas bases h b ≡ dumped quotas bases h (owner_of h.owners b) b
emptied_some quotas bases h b is = rw (eq_no _ _ is) refl

pub dump_calls_none : (h : BlockMap) (b : ℕ) → owner_of h.owners b ≡ 0 → dump_calls h b ≡ []
dump_calls_none h b is = rw (eq_yes _ _ is) refl

pub dump_calls_some : (h : BlockMap) (b : ℕ) → owner_of h.owners b ≢ 0 → dump_calls h b ≡ write_call (first_free h.free) false ∷ []
dump_calls_some h b is = rw (eq_no _ _ is) refl

-- the calls of further blocks follow
pub calls_more : (quotas bases : List ℕ) (h : BlockMap) (u m n : ℕ) (words : ℕ → List ℕ) → m ≤ n → (rest : List Call) × (calls_to quotas bases h u n words ≡ calls_to quotas bases h u m words ++ rest)
calls_more quotas bases h u m zero words le =
    let e : m ≡ 0 = omega arith in
    ([], ap (λ (k : ℕ). calls_to quotas bases h u k words) (sym e) ∙ sym (append-nil (calls_to quotas bases h u m words)))
calls_more quotas bases h u m (suc n) words le = elim (cases_eq m (suc n)) [
  | inl same ↦ ([], ap (λ (k : ℕ). calls_to quotas bases h u k words) (sym same) ∙ sym (append-nil (calls_to quotas bases h u m words)))
  | inr other ↦
      let below : m ≤ n = omega arith in
      let one = calls_more quotas bases h u m n words below in
      let last = calls_one quotas bases (load_to quotas bases h u n) u n (words (base_of bases u + n)) in
      (one.0 ++ last, ap (λ (l : List Call). l ++ last) one.1 ∙ append_assoc (calls_to quotas bases h u m words) one.0 last)
]

-- the words of places from that of block b on do not matter
pub calls_same : (quotas bases : List ℕ) (h : BlockMap) (u b : ℕ) (one two : ℕ → List ℕ) → ((c : ℕ) → c < b → one (base_of bases u + c) ≡ two (base_of bases u + c))
    → calls_to quotas bases h u b one ≡ calls_to quotas bases h u b two
calls_same quotas bases h u zero one two same = refl
calls_same quotas bases h u (suc b) one two same =
    let front = calls_same quotas bases h u b one two (λ c below. same c (omega arith)) in
    let last = same b (omega arith) in
    λ i. front i ++ calls_one quotas bases (load_to quotas bases h u b) u b (last i)

-- a fault at block b is a fault in the whole list
pub failed_on : (quotas bases : List ℕ) (h : BlockMap) (u b n : ℕ) (words : ℕ → List ℕ) (old now new : Option CallList)
    → b < n → now ≡ with_calls old (calls_to quotas bases h u b words) → FailedIn now new (calls_one quotas bases (load_to quotas bases h u b) u b (words (base_of bases u + b)))
    → FailedIn old new (calls_to quotas bases h u n words)
failed_on quotas bases h u b n words old now new below so_far fault =
    let front = calls_to quotas bases h u b words in
    let step = calls_one quotas bases (load_to quotas bases h u b) u b (words (base_of bases u + b)) in
    let more = calls_more quotas bases h u (suc b) n words (omega arith) in
    subst (λ (l : List Call). FailedIn old new l) (sym more.1) (failed_left (front ++ step) more.0 old new (failed_right front step old now new so_far fault))

-- the calls so far, seen through what they hold now
so_far_is : (quotas bases : List ℕ) (h : BlockMap) (u b : ℕ) (one two : ℕ → List ℕ) (old mid : Option CallList)
    → mid ≡ with_calls old (calls_to quotas bases h u b one) → ((c : ℕ) → c < b → two (base_of bases u + c) ≡ one (base_of bases u + c)) → mid ≡ with_calls old (calls_to quotas bases h u b two)
so_far_is quotas bases h u b one two old mid so_far same = so_far ∙ ap (λ (l : List Call). with_calls old l) (sym (calls_same quotas bases h u b two one same))

-- one more block was loaded
pub calls_step : (quotas bases : List ℕ) (h : BlockMap) (u b : ℕ) (one two : ℕ → List ℕ) (old mid new : Option CallList) (q bs : List ℕ) (hm : BlockMap)
    → q ≡ quotas → bs ≡ bases → hm ≡ load_to quotas bases h u b → mid ≡ with_calls old (calls_to quotas bases h u b one) → ((c : ℕ) → c < b → two (base_of bases u + c) ≡ one (base_of bases u + c))
    → new ≡ with_calls mid (calls_one q bs hm u b (two (base_of bs u + b))) → new ≡ with_calls old (calls_to quotas bases h u (b + 1) two)
calls_step quotas bases h u b one two old mid new q bs hm same based held so_far words is =
    is
    ∙ (λ j. with_calls (so_far_is quotas bases h u b one two old mid so_far words j) (calls_one (same j) (based j) (held j) u b (two (base_of (based j) u + b))))
    ∙ sym (with_calls-append old (calls_to quotas bases h u b two) (calls_one quotas bases (load_to quotas bases h u b) u b (two (base_of bases u + b))))
    ∙ ap (λ (n : ℕ). with_calls old (calls_to quotas bases h u n two)) (sym (add-one b))

-- the load of one more block failed
pub failed_step : (quotas bases : List ℕ) (h : BlockMap) (u b n : ℕ) (one two : ℕ → List ℕ) (old mid new : Option CallList) (q bs : List ℕ) (hm : BlockMap)
    → q ≡ quotas → bs ≡ bases → hm ≡ load_to quotas bases h u b → mid ≡ with_calls old (calls_to quotas bases h u b one) → ((c : ℕ) → c < b → two (base_of bases u + c) ≡ one (base_of bases u + c)) → b < n
    → FailedIn mid new (calls_one q bs hm u b (two (base_of bs u + b))) → FailedIn old new (calls_to quotas bases h u n two)
failed_step quotas bases h u b n one two old mid new q bs hm same based held so_far words below fault =
    failed_on quotas bases h u b n two old mid new below (so_far_is quotas bases h u b one two old mid so_far words)
    (subst (λ (l : List Call). FailedIn mid new l) step fault)
  where
    step : calls_one q bs hm u b (two (base_of bs u + b)) ≡ calls_one quotas bases (load_to quotas bases h u b) u b (two (base_of bases u + b))
    step = λ j. calls_one (same j) (based j) (held j) u b (two (base_of (based j) u + b))

-- places of a user's own that go to the drum

pub put_calls_more : (quotas bases : List ℕ) (h : BlockMap) (u m n : ℕ) → m ≤ n → (rest : List Call) × (put_calls_to quotas bases h u n ≡ put_calls_to quotas bases h u m ++ rest)
put_calls_more quotas bases h u m zero le =
    let e : m ≡ 0 = omega arith in
    ([], ap (λ (k : ℕ). put_calls_to quotas bases h u k) (sym e) ∙ sym (append-nil (put_calls_to quotas bases h u m)))
put_calls_more quotas bases h u m (suc n) le = elim (cases_eq m (suc n)) [
  | inl same ↦ ([], ap (λ (k : ℕ). put_calls_to quotas bases h u k) (sym same) ∙ sym (append-nil (put_calls_to quotas bases h u m)))
  | inr other ↦
      let below : m ≤ n = omega arith in
      let one = put_calls_more quotas bases h u m n below in
      let last = put_calls_one (put_to quotas bases h u n) u n in
      (one.0 ++ last, ap (λ (l : List Call). l ++ last) one.1 ∙ append_assoc (put_calls_to quotas bases h u m) one.0 last)
]

-- to put one failed
pub put_failed : (h : BlockMap) (u q : ℕ) (old new : Option CallList) → owner_of h.owners q ≡ u → FailedIn old new (write_call (first_free h.free) false ∷ []) → FailedIn old new (put_calls_one h u q)
put_failed h u q old new mine is =
    let e : put_calls_one h u q ≡ write_call (first_free h.free) false ∷ [] = rw (eq_yes _ _ mine) refl in
    subst (λ (l : List Call). FailedIn old new l) (sym e) is

-- one more place was put
pub put_calls_step : (quotas bases : List ℕ) (h : BlockMap) (u q : ℕ) (old mid new : Option CallList) (hm : BlockMap)
    → hm ≡ put_to quotas bases h u q → mid ≡ with_calls old (put_calls_to quotas bases h u q)
    → new ≡ with_calls mid (put_calls_one hm u q) → new ≡ with_calls old (put_calls_to quotas bases h u (q + 1))
put_calls_step quotas bases h u q old mid new hm held so_far is =
    is
    ∙ (λ j. with_calls (so_far j) (put_calls_one (held j) u q))
    ∙ sym (with_calls-append old (put_calls_to quotas bases h u q) (put_calls_one (put_to quotas bases h u q) u q))
    ∙ ap (λ (n : ℕ). with_calls old (put_calls_to quotas bases h u n)) (sym (add-one q))

-- to put one more place failed
pub put_failed_step : (quotas bases : List ℕ) (h : BlockMap) (u q n : ℕ) (old mid new : Option CallList) (hm : BlockMap)
    → hm ≡ put_to quotas bases h u q → mid ≡ with_calls old (put_calls_to quotas bases h u q) → q < n
    → FailedIn mid new (put_calls_one hm u q) → FailedIn old new (put_calls_to quotas bases h u n)
put_failed_step quotas bases h u q n old mid new hm held so_far below fault =
    let front = put_calls_to quotas bases h u q in
    let step = put_calls_one (put_to quotas bases h u q) u q in
    let more = put_calls_more quotas bases h u (suc q) n (omega arith) in
    let here : FailedIn mid new step = subst (λ (k : BlockMap). FailedIn mid new (put_calls_one k u q)) held fault in
    subst (λ (l : List Call). FailedIn old new l) (sym more.1) (failed_left (front ++ step) more.0 old new (failed_right front step old mid new so_far here))

taken_owners : (quotas bases : List ℕ) (h : BlockMap) (u b : ℕ) (o : Option ℕ) → (block_taken quotas bases h u b o).owners ≡ slice_set h.owners (base_of bases u + b) u
taken_owners quotas bases h u b None = refl
taken_owners quotas bases h u b (Some r) = refl

emptied_owners : (quotas bases : List ℕ) (h : BlockMap) (q r : ℕ) → r ≢ q → owner_of (emptied quotas bases h q).owners r ≡ owner_of h.owners r
emptied_owners quotas bases h q r other = elim (cases_eq (owner_of h.owners q) 0) [
  | inl none ↦ ap (λ (k : BlockMap). owner_of k.owners r) (emptied_none quotas bases h q none)
  | inr some ↦ ap (λ (k : BlockMap). owner_of k.owners r) (emptied_some quotas bases h q some) ∙ get_or-set_other h.owners q r 0 0 other
]

emptied_length : (quotas bases : List ℕ) (h : BlockMap) (q : ℕ) → length (emptied quotas bases h q).owners ≡ length h.owners
emptied_length quotas bases h q = elim (cases_eq (owner_of h.owners q) 0) [
  | inl none ↦ ap (λ (k : BlockMap). length k.owners) (emptied_none quotas bases h q none)
  | inr some ↦ ap (λ (k : BlockMap). length k.owners) (emptied_some quotas bases h q some) ∙ length-set h.owners q 0
]

-- the block is in core after that
pub load_one_mine : (quotas bases : List ℕ) (h : BlockMap) (u b : ℕ) → base_of bases u + b < length h.owners → owner_of (load_one quotas bases h u b).owners (base_of bases u + b) ≡ u
load_one_mine quotas bases h u b inside = elim (cases_eq (owner_of h.owners (base_of bases u + b)) u) [
  | inl mine ↦ let e : load_one quotas bases h u b ≡ h = rw (eq_yes _ _ mine) refl in ap (λ (k : BlockMap). owner_of k.owners (base_of bases u + b)) e ∙ mine
  | inr other ↦
      let o = slot_of (emptied quotas bases h (base_of bases u + b)).slots (key quotas u b) in
      let e : load_one quotas bases h u b ≡ block_taken quotas bases (emptied quotas bases h (base_of bases u + b)) u b o = rw (eq_no _ _ other) refl in
      let here : base_of bases u + b < length (emptied quotas bases h (base_of bases u + b)).owners = omega (arith, emptied_length quotas bases h (base_of bases u + b)) in
      ap (λ (k : BlockMap). owner_of k.owners (base_of bases u + b)) e ∙ ap (λ (l : List ℕ). owner_of l (base_of bases u + b)) (taken_owners quotas bases (emptied quotas bases h (base_of bases u + b)) u b o) ∙ get_or-set_same (emptied quotas bases h (base_of bases u + b)).owners (base_of bases u + b) u 0 here
]

-- the other places keep their owners
pub load_one_other : (quotas bases : List ℕ) (h : BlockMap) (u b r : ℕ) → r ≢ base_of bases u + b → owner_of (load_one quotas bases h u b).owners r ≡ owner_of h.owners r
load_one_other quotas bases h u b r away = elim (cases_eq (owner_of h.owners (base_of bases u + b)) u) [
  | inl mine ↦ let e : load_one quotas bases h u b ≡ h = rw (eq_yes _ _ mine) refl in ap (λ (k : BlockMap). owner_of k.owners r) e
  | inr other ↦
      let o = slot_of (emptied quotas bases h (base_of bases u + b)).slots (key quotas u b) in
      let e : load_one quotas bases h u b ≡ block_taken quotas bases (emptied quotas bases h (base_of bases u + b)) u b o = rw (eq_no _ _ other) refl in
      ap (λ (k : BlockMap). owner_of k.owners r) e ∙ ap (λ (l : List ℕ). owner_of l r) (taken_owners quotas bases (emptied quotas bases h (base_of bases u + b)) u b o)
      ∙ get_or-set_other (emptied quotas bases h (base_of bases u + b)).owners (base_of bases u + b) r u 0 away ∙ emptied_owners quotas bases h (base_of bases u + b) r away
]

-- where there is room, the calls are told
pub with_calls-room : (l : CallList) (cs : List Call) → length cs ≤ l.room → with_calls (Some l) cs ≡ Some (record { made = l.made ++ cs; room = l.room - length cs })
with_calls-room l [] room =
    let e : l.made ++ [] ≡ l.made = append-nil l.made in
    let f : l.room - 0 ≡ l.room = omega arith in
    λ j. Some (record { made = sym e j; room = sym f j })
with_calls-room l (c ∷ cs) room =
    let some : l.room ≢ 0 = λ e. absurd (omega arith) in
    let one : with_call (Some l) c ≡ Some (record { made = l.made ++ c ∷ []; room = l.room - 1 }) = rw (eq_no _ _ some) refl in
    let next : CallList = record { made = l.made ++ c ∷ []; room = l.room - 1 } in
    let rest = with_calls-room next cs (omega arith) in
    let e : (l.made ++ c ∷ []) ++ cs ≡ l.made ++ c ∷ cs = append_assoc l.made (c ∷ []) cs in
    let f : l.room - 1 - length cs ≡ l.room - length (c ∷ cs) = omega arith in
    ap (λ (o : Option CallList). with_calls o cs) one ∙ rest ∙ (λ j. Some (record { made = e j; room = f j }))

cut_length : (cs : List Call) (k : ℕ) → length (cut cs k) ≤ length cs
cut_length [] k = omega arith
cut_length (c ∷ cs) zero = omega arith
cut_length (c ∷ cs) (suc k) = omega (arith, cut_length cs k)

-- where there was room for all, the calls of a load that failed are told: a prefix whose last call failed
pub failed-room : (l : CallList) (new : Option CallList) (all : List Call) → length all ≤ l.room → FailedIn (Some l) new all
    → (k : ℕ) × ((k < length all) × (new ≡ Some (record { made = l.made ++ cut all k; room = l.room - length (cut all k) })))
failed-room l new all room fault = (fault.0, (fault.1.0, fault.1.1 ∙ with_calls-room l (cut all fault.0) (omega (arith, cut_length all fault.0))))

-- what an answer says

pub given_ok : {T E : Type 0} (r : Result T E) (A : Type 0) → OnOk r A → IsOk r → A
given_ok (Ok x) A a is = a
given_ok (Err e) A a is = let never : false ≡ true = is in absurd (cc)

pub on_err_from : {T E : Type 0} (r : Result T E) (A P : Type 0) → OnErr r A → (A → P) → OnErr r P
on_err_from (Ok x) A P a f = tt
on_err_from (Err e) A P a f = f a
