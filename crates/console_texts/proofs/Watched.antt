-- The consoles' texts after each step of a run, and along whole runs.
use Rattle.std.proofs.Common.{◌≡◌, ℕ, zero, suc, ◌<◌, ◌≤◌, Bool, true, false, nat_eq, Option, Some, None, List, [], ◌∷◌, ◌++◌, All, length, map, drop, cond, refl, sym, ◌∙◌, ap, subst, arith, lt-ltb, le-ltb}
use Rattle.std.specs.Option.{is_some}
use Rattle.std.proofs.lemmas.List.{length-append}
use Rattle.std.proofs.Math.ListN.{get_or-map}
use Rattle.std.proofs.Math.Seq.{drop-append_seam}
use Rattle.ctss_types.specs.declared.file.FileBody.{FileBody}
use Rattle.time_sharing.specs.Machine.{Line, Item}
use Rattle.time_sharing.specs.Rows.{machine}
use Rattle.time_sharing.specs.System as theory
use Rattle.time_sharing.specs.System.{SystemState, Timed, Console, Off, On, Password, Session, Entry, at}
use Rattle.time_sharing.specs.Record as whole
use Rattle.time_sharing.specs.Repeat.{repeat}
use Rattle.time_sharing.specs.Texts.{Watched, user_in, shows, asks_password, refusals, said, newly, sent, texts_after, next_watched, watched_to}
use Rattle.time_sharing.proofs.RepeatLaws as laws
use Rattle.time_sharing.proofs.Ending as ending
use Rattle.user_model.specs.User.{User}
use Rattle.user_model.specs.Session.{user_rows, nobody}
use Rattle.plan_model.specs.Plan.{Plan}
use Rattle.system_model.specs.Run.{world, Run, State, next, due_of}
use Rattle.system_model.specs.Sound.{Sound}
use Rattle.system_model.proofs.RunLaws.{ends}
use Rattle.console_texts.specs.Parts.{Shown, Transcripts, text_of, Fits, Extends, AreLengths, wrote, refusal_lines, said_by}
use Rattle.console_texts.specs.Following.{asks, closed_by, closed, begun, login_answered, goes_on, turned, settled, followed, settled_in, Numbered, AreShown}
use Rattle.console_texts.specs.Watching.{transcripts_of, watch, texts_next, texts_to, AfterShown, refused_by}
use Rattle.console_texts.proofs.Laws.{step_text, text_grown, fit_grown}
use Rattle.console_texts.proofs.Steps.{next_tells, next_rests}

abbrev W : Run → theory.World User Plan (List FileBody)
W r = world r

-- what a console newly shows is said by the transcripts

at_transcript : (users : List User) (u : ℕ) → at [] (transcripts_of users) u ≡ (at nobody users u).transcript
at_transcript users zero = refl
at_transcript users (suc n) = get_or-map (λ (p : User). p.transcript) users n nobody

newly_is : (r : Run) (s t : State) (u : ℕ) → newly (machine user_rows) (W r) u s t ≡ wrote u (transcripts_of s.users) (transcripts_of t.users)
newly_is r s t u = λ i. wrote_of (sym (at_transcript s.users u) i) (sym (at_transcript t.users u) i)
  where
    wrote_of : List Item → List Item → List Line
    wrote_of xs ys = Rattle.time_sharing.specs.Texts.written (drop (length xs) ys)

said_is : (r : Run) (c : ℕ) (s t : State) (more : List Entry) (refused : Bool) → t.entries ≡ s.entries ++ more → refusals c more ≡ refusal_lines refused
    → said (machine user_rows) (W r) c s t ≡ said_by refused (at Off s.consoles c) (at Off t.consoles c) (transcripts_of s.users) (transcripts_of t.users)
said_is r c s t more refused is says =
    ap (λ (ls : List Line). asks_password (at Off s.consoles c) (at Off t.consoles c) ++ (ls ++ newly (machine user_rows) (W r) (shows (at Off s.consoles c) (at Off t.consoles c)) s t))
    (ap (λ (es : List Entry). refusals c (drop (length s.entries) es)) is ∙ ap (refusals c) (drop-append_seam s.entries more) ∙ says)
    ∙ ap (λ (ls : List Line). asks_password (at Off s.consoles c) (at Off t.consoles c) ++ (refusal_lines refused ++ ls)) (newly_is r s t (shows (at Off s.consoles c) (at Off t.consoles c)))

-- rows, one after another

head_of : {X : Type 0} (P : X → Type 0) (x : X) (xs : List X) → All P (x ∷ xs) → P x
head_of P x xs h = h 0 x (omega arith)

tail_of : {X : Type 0} (P : X → Type 0) (x : X) (xs : List X) → All P (x ∷ xs) → All P xs
tail_of P x xs h = λ k d i. h (suc k) d (omega arith)

all_of : {X : Type 0} (P : X → Type 0) (x : X) (xs : List X) → P x → All P xs → All P (x ∷ xs)
all_of P x xs h k zero d i = h
all_of P x xs h k (suc n) d i = k n d (omega arith)

-- each row shows more by what its console newly says, and is then that of the console after the step
module _ (r : Run) (s t : State) (f : Shown → Shown) where
  abbrev Row : Shown → Type 0
  Row x = (x.console ≡ at Off s.consoles x.number) → Fits (transcripts_of s.users) (user_in x.console) x → 0 < x.number →
      (text_of (transcripts_of t.users) (f x) ≡ text_of (transcripts_of s.users) x ++ sent (said (machine user_rows) (W r) x.number s t))
      × ((f x).number ≡ x.number) × ((f x).console ≡ at Off t.consoles x.number) × Fits (transcripts_of t.users) (user_in (f x).console) (f x)

  texts_are : (each : (x : Shown) → Row x) (c : ℕ) (rows : List Shown) → 0 < c → Numbered c rows → All (λ (x : Shown). x.console ≡ at Off s.consoles x.number) rows
      → All (λ (x : Shown). Fits (transcripts_of s.users) (user_in x.console) x) rows
      → texts_after (machine user_rows) (W r) c s t (map (text_of (transcripts_of s.users)) rows) ≡ map (text_of (transcripts_of t.users)) (map f rows)
  texts_are each c [] h numbered are fit = refl
  texts_are each c (x ∷ rows) h numbered are fit =
      let k = each x (head_of (λ (y : Shown). y.console ≡ at Off s.consoles y.number) x rows are) (head_of (λ (y : Shown). Fits (transcripts_of s.users) (user_in y.console) y) x rows fit) (let n = numbered.0 in omega (arith, h, n)) in
      ap (λ (xs : List ℕ). xs ∷ texts_after (machine user_rows) (W r) (suc c) s t (map (text_of (transcripts_of s.users)) rows))
      (ap (λ (n : ℕ). text_of (transcripts_of s.users) x ++ sent (said (machine user_rows) (W r) n s t)) (sym numbered.0) ∙ sym k.0)
      ∙ ap (λ (ys : List (List ℕ)). text_of (transcripts_of t.users) (f x) ∷ ys)
      (texts_are each (suc c) rows (omega arith) numbered.1 (tail_of (λ (y : Shown). y.console ≡ at Off s.consoles y.number) x rows are) (tail_of (λ (y : Shown). Fits (transcripts_of s.users) (user_in y.console) y) x rows fit))

  numbered_still : (each : (x : Shown) → Row x) (c : ℕ) (rows : List Shown) → 0 < c → Numbered c rows → All (λ (x : Shown). x.console ≡ at Off s.consoles x.number) rows
      → All (λ (x : Shown). Fits (transcripts_of s.users) (user_in x.console) x) rows
      → Numbered c (map f rows) × All (λ (x : Shown). x.console ≡ at Off t.consoles x.number) (map f rows) × All (λ (x : Shown). Fits (transcripts_of t.users) (user_in x.console) x) (map f rows)
  numbered_still each c [] h numbered are fit = (tt, (λ k d i. absurd (omega arith)), (λ k d i. absurd (omega arith)))
  numbered_still each c (x ∷ rows) h numbered are fit =
      let k = each x (head_of (λ (y : Shown). y.console ≡ at Off s.consoles y.number) x rows are) (head_of (λ (y : Shown). Fits (transcripts_of s.users) (user_in y.console) y) x rows fit) (let n = numbered.0 in omega (arith, h, n)) in
      let rest = numbered_still each (suc c) rows (omega arith) numbered.1 (tail_of (λ (y : Shown). y.console ≡ at Off s.consoles y.number) x rows are) (tail_of (λ (y : Shown). Fits (transcripts_of s.users) (user_in y.console) y) x rows fit) in (
        (k.1 ∙ numbered.0, rest.0),
        all_of (λ (y : Shown). y.console ≡ at Off t.consoles y.number) (f x) (map f rows) (k.2 ∙ ap (at Off t.consoles) (sym k.1)) rest.1,
        all_of (λ (y : Shown). Fits (transcripts_of t.users) (user_in y.console) y) (f x) (map f rows) k.3 rest.2,
      )

  rows_still : (each : (x : Shown) → Row x) (rows : List Shown) → AreShown s.consoles (transcripts_of s.users) rows → AreShown t.consoles (transcripts_of t.users) (map f rows)
  rows_still each rows h =
      let k = numbered_still each 1 rows (omega arith) h.numbered h.are h.fit in
      record { numbered = k.0; are = k.1; fit = k.2 }

-- a row keeps its number

closed_number : (lens : List ℕ) (x : Shown) → (closed lens x).number ≡ x.number
unfolding closed
closed_number lens x = by_tail x.tail
  where
    by_tail : (o : Option Rattle.console_texts.specs.declared.row.Tail.Tail) → (closed_by o lens x).number ≡ x.number
    by_tail None = refl
    by_tail (Some t) = refl

begun_number : (u : ℕ) (lens : List ℕ) (x : Shown) → (begun u lens x).number ≡ x.number
unfolding begun
begun_number u lens x = by_test (nat_eq u 0)
  where
    by_test : (b : Bool) → (cond b x (record x { tail = Some (record { user = u; from = at 0 lens u }) })).number ≡ x.number
    by_test true = refl
    by_test false = refl

told_number : (asked refused : Bool) (x : Shown) → (login_answered asked refused x).number ≡ x.number
unfolding login_answered
told_number asked refused x = refl

turned_number : (was now : Console) (refused : Bool) (before : List ℕ) (x : Shown) → (turned was now refused before x).number ≡ x.number
unfolding turned
turned_number was now refused before x = by_test (goes_on was now refused)
  where
    by_test : (b : Bool) → (cond b x (begun (shows was now) before (login_answered (asks was now) refused (closed before x)))).number ≡ x.number
    by_test true = refl
    by_test false = begun_number (shows was now) before (login_answered (asks was now) refused (closed before x)) ∙ told_number (asks was now) refused (closed before x) ∙ closed_number before x

settled_number : (now : Console) (after : List ℕ) (x : Shown) → (settled now after x).number ≡ x.number
unfolding settled
settled_number now after x = by_test (nat_eq (user_in now) 0)
  where
    by_test : (b : Bool) → (record (cond b (closed after x) x) { console = now }).number ≡ x.number
    by_test true = closed_number after x
    by_test false = refl

settled_console : (now : Console) (after : List ℕ) (x : Shown) → (settled now after x).console ≡ now
unfolding settled
settled_console now after x = refl

-- an event

by_event : (r : Run) (s t : State) (before after : List ℕ) (more : List Entry) (refused : ℕ) → Extends (transcripts_of s.users) (transcripts_of t.users)
    → AreLengths before (transcripts_of s.users) → AreLengths after (transcripts_of t.users) → t.entries ≡ s.entries ++ more
    → ((c : ℕ) → 0 < c → refusals c more ≡ refusal_lines (nat_eq refused c)) → (x : Shown) → Row r s t (followed t.consoles refused before after) x
unfolding followed
by_event r s t before after more refused grown areb area entries says x is fits pos =
    let now : Console = at Off t.consoles x.number in
    let b : Bool = nat_eq refused x.number in
    let turn : Shown = turned x.console now b before x in
    let k = step_text (transcripts_of s.users) (transcripts_of t.users) before after grown areb area x.console now b x fits in (
      k.0
          ∙ ap (λ (c : Console). text_of (transcripts_of s.users) x ++ sent (said_by b c now (transcripts_of s.users) (transcripts_of t.users))) is
          ∙ ap (λ (ls : List Line). text_of (transcripts_of s.users) x ++ sent ls) (sym (said_is r x.number s t more b entries (says x.number pos))),
      settled_number now after turn ∙ turned_number x.console now b before x,
      settled_console now after turn,
      subst (λ (c : Console). Fits (transcripts_of t.users) (user_in c) (settled now after turn)) (sym (settled_console now after turn)) k.1,
    )

pub shown_event : (limit : ℕ) (r : Run) (e : Timed) (before after : List ℕ) (rows : List Shown) → due_of r.system.events r.system.clock ≡ Some e → Sound r
    → AreLengths before (transcripts_of r.system.users) → AreLengths after (transcripts_of (next limit r).system.users) → AreShown r.system.consoles (transcripts_of r.system.users) rows
    → (texts_next limit r (map (text_of (transcripts_of r.system.users)) rows)
    ≡ map (text_of (transcripts_of (next limit r).system.users)) (map (followed (next limit r).system.consoles (refused_by (next limit r).system.entries) before after) rows))
    × AreShown (next limit r).system.consoles (transcripts_of (next limit r).system.users) (map (followed (next limit r).system.consoles (refused_by (next limit r).system.entries) before after) rows)
unfolding texts_next
shown_event limit r e before after rows due sound areb area h =
    let k = next_tells limit r e due sound in
    let t : State = (next limit r).system in
    let f : Shown → Shown = followed t.consoles (refused_by t.entries) before after in
    let each = by_event r r.system t before after k.grows.more (refused_by t.entries) k.grows.grown areb area k.grows.entries k.refused in
    (texts_are r r.system t f each 1 rows (omega arith) h.numbered h.are h.fit, rows_still r r.system t f each rows h)

-- any other step

lengths_are : (ts : Transcripts) → AreLengths (map (λ (is : List Item). length is) ts) ts
lengths_are ts zero = refl
lengths_are ts (suc n) = get_or-map (λ (is : List Item). length is) ts n []

turned_still : (was now : Console) (before : List ℕ) (x : Shown) → goes_on was now false ≡ true → turned was now false before x ≡ x
unfolding turned
turned_still was now before x e = ap (λ (b : Bool). cond b x (begun (shows was now) before (login_answered (asks was now) false (closed before x)))) e

by_rest : (r : Run) (s t : State) (after : List ℕ) (more : List Entry) → Extends (transcripts_of s.users) (transcripts_of t.users) → AreLengths after (transcripts_of t.users)
    → t.entries ≡ s.entries ++ more → ((c : ℕ) → refusals c more ≡ []) → ((c : ℕ) → goes_on (at Off s.consoles c) (at Off t.consoles c) false ≡ true)
    → (x : Shown) → Row r s t (settled_in t.consoles after) x
unfolding settled_in
by_rest r s t after more grown area entries none leaves x is fits pos =
    let now : Console = at Off t.consoles x.number in
    let before : List ℕ = map (λ (is : List Item). length is) (transcripts_of s.users) in
    let still = turned_still x.console now before x (subst (λ (c : Console). goes_on c now false ≡ true) (sym is) (leaves x.number)) in
    let k = step_text (transcripts_of s.users) (transcripts_of t.users) before after grown (lengths_are (transcripts_of s.users)) area x.console now false x fits in (
      ap (λ (y : Shown). text_of (transcripts_of t.users) (settled now after y)) (sym still) ∙ k.0
          ∙ ap (λ (c : Console). text_of (transcripts_of s.users) x ++ sent (said_by false c now (transcripts_of s.users) (transcripts_of t.users))) is
          ∙ ap (λ (ls : List Line). text_of (transcripts_of s.users) x ++ sent ls) (sym (said_is r x.number s t more false entries (none x.number))),
      settled_number now after x,
      settled_console now after x,
      subst (λ (c : Console). Fits (transcripts_of t.users) (user_in c) (settled now after x)) (sym (settled_console now after x)) (subst (λ (y : Shown). Fits (transcripts_of t.users) (user_in now) (settled now after y)) still k.1),
    )

pub shown_rest : (limit : ℕ) (r : Run) (after : List ℕ) (rows : List Shown) → due_of r.system.events r.system.clock ≡ None → Sound r
    → AreLengths after (transcripts_of (next limit r).system.users) → AreShown r.system.consoles (transcripts_of r.system.users) rows
    → (texts_next limit r (map (text_of (transcripts_of r.system.users)) rows)
    ≡ map (text_of (transcripts_of (next limit r).system.users)) (map (settled_in (next limit r).system.consoles after) rows))
    × AreShown (next limit r).system.consoles (transcripts_of (next limit r).system.users) (map (settled_in (next limit r).system.consoles after) rows)
unfolding texts_next
shown_rest limit r after rows quiet sound area h =
    let k = next_rests limit r quiet sound in
    let t : State = (next limit r).system in
    let f : Shown → Shown = settled_in t.consoles after in
    let each = by_rest r r.system t after k.grows.more k.grows.grown area k.grows.entries k.none k.leaves in
    (texts_are r r.system t f each 1 rows (omega arith) h.numbered h.are h.fit, rows_still r r.system t f each rows h)

-- a step that leaves the consoles as they are

said_still : (k : Console) (ts us : Transcripts) → said_by false k k ts us ≡ wrote (user_in k) ts us
said_still Off ts us = refl
said_still On ts us = refl
said_still (Password name) ts us = refl
said_still (Session u) ts us = by_test (nat_eq u 0)
  where
    by_test : (b : Bool) → wrote (cond b u u) ts us ≡ wrote u ts us
    by_test true = refl
    by_test false = refl

by_same : (r : Run) (s t : State) (more : List Entry) → Extends (transcripts_of s.users) (transcripts_of t.users) → t.entries ≡ s.entries ++ more → ((c : ℕ) → refusals c more ≡ [])
    → t.consoles ≡ s.consoles → (x : Shown) → Row r s t (λ (y : Shown). y) x
by_same r s t more grown entries none same x is fits pos =
    let ts : Transcripts = transcripts_of s.users in
    let us : Transcripts = transcripts_of t.users in
    let now : at Off t.consoles x.number ≡ x.console = ap (λ (cs : List Console). at Off cs x.number) same ∙ sym is in (
      text_grown ts us grown (user_in x.console) x fits
          ∙ ap (λ (ls : List Line). text_of ts x ++ sent ls) (sym (said_is r x.number s t more false entries (none x.number) ∙ ap (λ (c : Console). said_by false c (at Off t.consoles x.number) ts us) (sym is) ∙ ap (λ (c : Console). said_by false x.console c ts us) now ∙ said_still x.console ts us)),
      refl,
      sym now,
      fit_grown ts us grown (user_in x.console) x fits,
    )

same_list : {X : Type 0} (f : X → X) (xs : List X) → ((x : X) → f x ≡ x) → map f xs ≡ xs
same_list f [] h = refl
same_list f (x ∷ xs) h = λ i. h x i ∷ same_list f xs h i

none_more : (xs ys more : List Entry) → ys ≡ xs ++ more → length ys ≡ length xs → more ≡ []
none_more xs ys [] e n = refl
none_more xs ys (m ∷ more) e n = let k = ap (λ (es : List Entry). length es) e in let l = length-append xs (m ∷ more) in absurd (omega (arith, k, l, n))

shown_same : (limit : ℕ) (r : Run) (rows : List Shown) → due_of r.system.events r.system.clock ≡ None → Sound r → (next limit r).system.consoles ≡ r.system.consoles
    → AreShown r.system.consoles (transcripts_of r.system.users) rows
    → (texts_next limit r (map (text_of (transcripts_of r.system.users)) rows) ≡ map (text_of (transcripts_of (next limit r).system.users)) rows)
    × AreShown (next limit r).system.consoles (transcripts_of (next limit r).system.users) rows
unfolding texts_next
shown_same limit r rows quiet sound same h =
    let k = next_rests limit r quiet sound in
    let t : State = (next limit r).system in
    let each = by_same r r.system t k.grows.more k.grows.grown k.grows.entries k.none same in
    let id : Shown → Shown = λ y. y in
    let is : map id rows ≡ rows = same_list id rows (λ x. refl) in (
      texts_are r r.system t id each 1 rows (omega arith) h.numbered h.are h.fit ∙ ap (map (text_of (transcripts_of t.users))) is,
      subst (AreShown t.consoles (transcripts_of t.users)) is (rows_still r r.system t id each rows h),
    )

-- a step that writes no entry
pub shown_still : (limit : ℕ) (r : Run) (rows : List Shown) → due_of r.system.events r.system.clock ≡ None → Sound r → length (next limit r).system.entries ≡ length r.system.entries
    → AreShown r.system.consoles (transcripts_of r.system.users) rows
    → (texts_next limit r (map (text_of (transcripts_of r.system.users)) rows) ≡ map (text_of (transcripts_of (next limit r).system.users)) rows)
    × AreShown (next limit r).system.consoles (transcripts_of (next limit r).system.users) rows
shown_still limit r rows quiet sound same h =
    let k = next_rests limit r quiet sound in
    shown_same limit r rows quiet sound (k.still (none_more r.system.entries (next limit r).system.entries k.grows.more k.grows.entries same)) h

-- a step behind which a service is open
pub shown_served : (limit : ℕ) (r : Run) (rows : List Shown) → due_of r.system.events r.system.clock ≡ None → Sound r → is_some (next limit r).system.service ≡ true
    → AreShown r.system.consoles (transcripts_of r.system.users) rows
    → (texts_next limit r (map (text_of (transcripts_of r.system.users)) rows) ≡ map (text_of (transcripts_of (next limit r).system.users)) rows)
    × AreShown (next limit r).system.consoles (transcripts_of (next limit r).system.users) rows
shown_served limit r rows quiet sound opened h = shown_same limit r rows quiet sound ((next_rests limit r quiet sound).served opened) h

-- whole runs

module _ (limit : ℕ) (r : Run) where
  abbrev Watching : Type 0
  Watching = Watched User Plan (List FileBody)

  abbrev before : Watching → Bool
  before y = whole.clock_is_below (machine user_rows) (W r) limit y.system

  abbrev step : Watching → Watching
  step = next_watched (machine user_rows) (W r) limit

  abbrev measure : Watching → ℕ
  measure y = whole.measure (machine user_rows) (W r) limit y.system

  abbrev falls : (y : Watching) → before y ≡ true → measure (step y) < measure y
  falls y up = ending.falls (machine user_rows) (W r) (ends r.swap r.common r.accounts) limit y.system up

  goes_along : (n : ℕ) (y : Watching) → (repeat before step n y).system ≡ whole.iterate (machine user_rows) (W r) limit n y.system
  goes_along zero y = refl
  goes_along (suc n) y = by_test (before y) (goes_along n (step y))
    where
      by_test : (b : Bool) → (repeat before step n (step y)).system ≡ whole.iterate (machine user_rows) (W r) limit n (step y).system
          → (elim b as (λ v. Watching) [ true ↦ repeat before step n (step y) | false ↦ y ]).system
          ≡ (elim b as (λ v. State) [ true ↦ whole.iterate (machine user_rows) (W r) limit n (theory.next (machine user_rows) (W r) limit y.system) | false ↦ y.system ])
      by_test true ih = ih
      by_test false ih = refl

pub texts_on : (limit : ℕ) (r : Run) (texts : List (List ℕ)) → r.system.clock < limit → texts_to limit (next limit r) (texts_next limit r texts) ≡ texts_to limit r texts
unfolding texts_to texts_next next
texts_on limit r texts up = ap (λ (y : Watched User Plan (List FileBody)). y.texts) (laws.whole-step (before limit r) (step limit r) (measure limit r) (falls limit r) (watch r texts) (lt-ltb r.system.clock limit up))

pub texts_done : (limit : ℕ) (r : Run) (texts : List (List ℕ)) → limit ≤ r.system.clock → texts_to limit r texts ≡ texts
unfolding texts_to
texts_done limit r texts up = ap (λ (y : Watched User Plan (List FileBody)). y.texts) (laws.whole-done (before limit r) (step limit r) (measure limit r) (falls limit r) (watch r texts) (le-ltb r.system.clock limit up))

pub shown_none : (limit : ℕ) (r : Run) (texts : List (List ℕ)) → AfterShown limit r r texts texts
unfolding AfterShown
shown_none limit r texts = (0, refl, refl)

pub shown_on : (limit : ℕ) (old r : Run) (shown texts : List (List ℕ)) → AfterShown limit old r shown texts → r.system.clock < limit → AfterShown limit old (next limit r) shown (texts_next limit r texts)
unfolding AfterShown next texts_next
shown_on limit old r shown texts h up =
    let y : Watched User Plan (List FileBody) = repeat (before limit old) (step limit old) h.0 (watch old shown) in
    let along : y.system ≡ whole.iterate (machine user_rows) (W old) limit h.0 old.system = goes_along limit old h.0 (watch old shown) in
    let here : y.system ≡ r.system = along ∙ sym (ap (λ (q : Run). q.system) h.1) in
    let runs : before limit old y ≡ true = ap (λ (s : State). whole.clock_is_below (machine user_rows) (W old) limit s) here ∙ lt-ltb r.system.clock limit up in
    let last = laws.repeat-last (before limit old) (step limit old) (measure limit old) (falls limit old) h.0 (watch old shown) runs in
    let once : whole.iterate (machine user_rows) (W old) limit (suc h.0) old.system ≡ theory.next (machine user_rows) (W old) limit (whole.iterate (machine user_rows) (W old) limit h.0 old.system) =
    sym (goes_along limit old (suc h.0) (watch old shown)) ∙ ap (λ (z : Watched User Plan (List FileBody)). z.system) last ∙ ap (theory.next (machine user_rows) (W old) limit) along in (
      suc h.0,
      ap (next limit) h.1 ∙ (λ i. record old { system = sym once i }),
      ap (λ (q : Run). texts_next limit q texts) h.1
          ∙ ap (λ (s : State). texts_next limit (record old { system = s }) texts) (sym along)
          ∙ ap (λ (xs : List (List ℕ)). texts_next limit (record old { system = y.system }) xs) h.2
          ∙ sym (ap (λ (z : Watched User Plan (List FileBody)). z.texts) last),
    )
