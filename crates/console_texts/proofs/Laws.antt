-- What a row shows, after one step.
use Rattle.std.proofs.Common.{◌≡◌, ℕ, zero, suc, ◌-◌, ◌≤◌, Bool, true, false, not, ◌&&◌, cond, nat_eq, Option, Some, None, List, [], ◌∷◌, ◌++◌, All, length, take, drop, get_or, append_assoc, refl, sym, ◌∙◌, ap, subst, arith}
use Rattle.std.specs.List.{flat_map}
use Rattle.std.proofs.lemmas.List.{append-nil, length-append, drop-append-le, take-append-le, length-drop}
use Rattle.std.proofs.lemmas.Bool.{false≢true}
use Rattle.std.proofs.lemmas.List.Elements.{All-append}
use Rattle.std.proofs.lemmas.Grind.{flat_map-append}
use Rattle.std.proofs.Math.Seq.{drop-append_seam, take-length, drop-length}
use Rattle.time_sharing.specs.Machine.{Line, Item, In, Out, Quitted, Hung}
use Rattle.time_sharing.specs.System.{Console, Off, On, Password, Session, at}
use Rattle.time_sharing.specs.Texts.{written, sent, user_in, shows, asks_password}
use Rattle.console_texts.specs.declared.row.Piece.{Piece}
use Rattle.console_texts.specs.declared.row.Piece.TheVariants.{PasswordAsked, LoginRefused, Wrote}
use Rattle.console_texts.specs.declared.row.Tail.{Tail}
use Rattle.console_texts.specs.Parts.{Shown, Transcripts, piece_text, tail_text, text_of, IsPiece, IsTail, Fits, Extends, AreLengths, wrote, refusal_lines, password_lines, said_by}
use Rattle.console_texts.specs.Following.{asks, closed_by, closed, begun, login_answered, piece_if, goes_on, turned, settled}

same_number : (m n : ℕ) → nat_eq m n ≡ true → m ≡ n
same_number m n e = grind (arith, e)

-- lines

pub written-append : (xs ys : List Item) → written (xs ++ ys) ≡ written xs ++ written ys
written-append [] ys = refl
written-append (Out l ∷ xs) ys = ap (λ (ls : List Line). l ∷ ls) (written-append xs ys)
written-append (In l ∷ xs) ys = written-append xs ys
written-append (Quitted ∷ xs) ys = written-append xs ys
written-append (Hung ∷ xs) ys = written-append xs ys

pub sent-append : (xs ys : List Line) → sent (xs ++ ys) ≡ sent xs ++ sent ys
sent-append xs ys = flat_map-append (λ (l : Line). l ++ 13 ∷ 10 ∷ []) xs ys

-- what is sent of some more items
sent_more : (n : ℕ) (xs more : List Item) → n ≤ length xs → sent (written (drop n (xs ++ more))) ≡ sent (written (drop n xs)) ++ sent (written more)
sent_more n xs more h = ap (λ (is : List Item). sent (written is)) (drop-append-le n xs more h) ∙ ap sent (written-append (drop n xs) more) ∙ sent-append (written (drop n xs)) (written more)

-- what a user newly wrote is what its transcript gained
wrote_is : (u : ℕ) (ts us : Transcripts) (e : Extends ts us) → wrote u ts us ≡ written (e u).0
wrote_is u ts us e = ap (λ (is : List Item). written (drop (length (at [] ts u)) is)) (e u).1 ∙ ap written (drop-append_seam (at [] ts u) (e u).0)

-- parts that stand for good, as the transcripts grow

piece_grown : (ts us : Transcripts) → Extends ts us → (p : Piece) → IsPiece ts p → piece_text us p ≡ piece_text ts p
piece_grown ts us e PasswordAsked h = refl
piece_grown ts us e LoginRefused h = refl
piece_grown ts us e (Wrote u from count) h =
    ap (λ (is : List Item). sent (written is))
    (ap (λ (is : List Item). take count (drop from is)) (e u).1
    ∙ ap (take count) (drop-append-le from (at [] ts u) (e u).0 (omega arith))
    ∙ take-append-le count (drop from (at [] ts u)) (e u).0 (let n = length-drop from (at [] ts u) in omega (arith, n, h)))

length_grown : (ts us : Transcripts) (e : Extends ts us) (u : ℕ) → length (at [] ts u) ≤ length (at [] us u)
length_grown ts us e u = let n = ap (λ (is : List Item). length is) (e u).1 in let k = length-append (at [] ts u) (e u).0 in omega (arith, n, k)

fits_grown : (ts us : Transcripts) → Extends ts us → (p : Piece) → IsPiece ts p → IsPiece us p
fits_grown ts us e PasswordAsked h = tt
fits_grown ts us e LoginRefused h = tt
fits_grown ts us e (Wrote u from count) h = let n = length_grown ts us e u in omega (arith, n, h)

-- the parts of one row

pieces_grown : (ts us : Transcripts) → Extends ts us → (ps : List Piece) → All (IsPiece ts) ps → flat_map (piece_text us) ps ≡ flat_map (piece_text ts) ps
pieces_grown ts us e [] h = refl
pieces_grown ts us e (p ∷ ps) h =
    ap (λ (xs : List ℕ). xs ++ flat_map (piece_text us) ps) (piece_grown ts us e p (h 0 p (omega arith)))
    ∙ ap (λ (xs : List ℕ). piece_text ts p ++ xs) (pieces_grown ts us e ps (λ k d i. h (suc k) d (omega arith)))

all_grown : (ts us : Transcripts) → Extends ts us → (ps : List Piece) → All (IsPiece ts) ps → All (IsPiece us) ps
all_grown ts us e ps h = λ k d i. fits_grown ts us e (get_or ps k d) (h k d i)

tail_grown : (ts us : Transcripts) → Extends ts us → (u : ℕ) (t : Option Tail) → IsTail ts u t → tail_text us t ≡ tail_text ts t ++ sent (wrote u ts us)
tail_grown ts us e u None h = ap (λ (n : ℕ). sent (wrote n ts us)) (sym h)
tail_grown ts us e u (Some t) h =
    ap (λ (is : List Item). sent (written (drop t.from is))) (e t.user).1
    ∙ sent_more t.from (at [] ts t.user) (e t.user).0 h.2
    ∙ ap (λ (ls : List Line). tail_text ts (Some t) ++ sent ls) (sym (wrote_is t.user ts us e) ∙ ap (λ (n : ℕ). wrote n ts us) h.0)

pub text_grown : (ts us : Transcripts) → Extends ts us → (u : ℕ) (s : Shown) → Fits ts u s → text_of us s ≡ text_of ts s ++ sent (wrote u ts us)
text_grown ts us e u s h =
    ap (λ (xs : List ℕ). xs ++ tail_text us s.tail) (pieces_grown ts us e s.pieces h.pieces)
    ∙ ap (λ (xs : List ℕ). flat_map (piece_text ts) s.pieces ++ xs) (tail_grown ts us e u s.tail h.tail)
    ∙ sym (append_assoc (flat_map (piece_text ts) s.pieces) (tail_text ts s.tail) (sent (wrote u ts us)))

tail_fits_grown : (ts us : Transcripts) → Extends ts us → (u : ℕ) (t : Option Tail) → IsTail ts u t → IsTail us u t
tail_fits_grown ts us e u None h = h
tail_fits_grown ts us e u (Some t) h = (h.0, h.1, let n = length_grown ts us e t.user in let m = h.2 in omega (arith, n, m))

pub fit_grown : (ts us : Transcripts) → Extends ts us → (u : ℕ) (s : Shown) → Fits ts u s → Fits us u s
fit_grown ts us e u s h = record { pieces = all_grown ts us e s.pieces h.pieces; tail = tail_fits_grown ts us e u s.tail h.tail }

-- a part more

text_with : (ts : Transcripts) (s : Shown) (p : Piece) → flat_map (piece_text ts) (s.pieces ++ p ∷ []) ≡ flat_map (piece_text ts) s.pieces ++ piece_text ts p
text_with ts s p = flat_map-append (piece_text ts) s.pieces (p ∷ []) ∙ ap (λ (xs : List ℕ). flat_map (piece_text ts) s.pieces ++ xs) (append-nil (piece_text ts p))

all_append : (ts : Transcripts) (ps qs : List Piece) → All (IsPiece ts) ps → All (IsPiece ts) qs → All (IsPiece ts) (ps ++ qs)
all_append ts ps qs h k = All-append (IsPiece ts) ps qs h k

one_all : (ts : Transcripts) (p : Piece) → IsPiece ts p → All (IsPiece ts) (p ∷ [])
one_all ts p h zero d i = h
one_all ts p h (suc k) d i = absurd (omega arith)

-- the session that is shown ends

pub closed_text : (ts : Transcripts) (lens : List ℕ) → AreLengths lens ts → (u : ℕ) (s : Shown) → Fits ts u s → text_of ts (closed lens s) ≡ text_of ts s
unfolding closed
closed_text ts lens are u s h = by_tail s.tail refl h.tail
  where
    by_tail : (t : Option Tail) → s.tail ≡ t → IsTail ts u t → text_of ts (closed_by t lens s) ≡ text_of ts s
    by_tail None is fits = refl
    by_tail (Some t) is fits =
        let n : at 0 lens t.user - t.from ≡ length (drop t.from (at [] ts t.user)) = ap (λ (k : ℕ). k - t.from) (are t.user) ∙ sym (length-drop t.from (at [] ts t.user)) in
        append-nil (flat_map (piece_text ts) (s.pieces ++ Wrote t.user t.from (at 0 lens t.user - t.from) ∷ []))
        ∙ text_with ts s (Wrote t.user t.from (at 0 lens t.user - t.from))
        ∙ ap (λ (k : ℕ). flat_map (piece_text ts) s.pieces ++ sent (written (take k (drop t.from (at [] ts t.user))))) n
        ∙ ap (λ (is : List Item). flat_map (piece_text ts) s.pieces ++ sent (written is)) (take-length (drop t.from (at [] ts t.user)))
        ∙ ap (λ (o : Option Tail). flat_map (piece_text ts) s.pieces ++ tail_text ts o) (sym is)

pub closed_fits : (ts : Transcripts) (lens : List ℕ) → AreLengths lens ts → (u : ℕ) (s : Shown) → Fits ts u s → Fits ts 0 (closed lens s)
unfolding closed
closed_fits ts lens are u s h = by_tail s.tail refl h.tail
  where
    by_tail : (t : Option Tail) → s.tail ≡ t → IsTail ts u t → Fits ts 0 (closed_by t lens s)
    by_tail None is fits = record { pieces = h.pieces; tail = subst (IsTail ts 0) (sym is) refl }
    by_tail (Some t) is fits =
        let n = are t.user in
        let m = fits.2 in
        record {
          pieces = all_append ts s.pieces (Wrote t.user t.from (at 0 lens t.user - t.from) ∷ []) h.pieces (one_all ts (Wrote t.user t.from (at 0 lens t.user - t.from)) (omega (arith, n, m)));
          tail = refl;
        }

pub closed_tail : (lens : List ℕ) (s : Shown) → (closed lens s).tail ≡ None
unfolding closed
closed_tail lens s = by_tail s.tail refl
  where
    by_tail : (t : Option Tail) → s.tail ≡ t → (closed_by t lens s).tail ≡ None
    by_tail None is = is
    by_tail (Some t) is = refl

-- the texts of a login

asks_is : (was now : Console) → asks_password was now ≡ password_lines (asks was now)
asks_is (Password was) now = refl
asks_is Off (Password name) = refl
asks_is Off Off = refl
asks_is Off On = refl
asks_is Off (Session u) = refl
asks_is On (Password name) = refl
asks_is On Off = refl
asks_is On On = refl
asks_is On (Session u) = refl
asks_is (Session u) (Password name) = refl
asks_is (Session u) Off = refl
asks_is (Session u) On = refl
asks_is (Session u) (Session v) = refl

told_pieces : (ts : Transcripts) (asked refused : Bool) → flat_map (piece_text ts) (piece_if asked PasswordAsked ++ piece_if refused LoginRefused) ≡ sent (password_lines asked ++ refusal_lines refused)
told_pieces ts false false = refl
told_pieces ts false true = refl
told_pieces ts true false = refl
told_pieces ts true true = refl

told_text : (ts : Transcripts) (asked refused : Bool) (s : Shown) → s.tail ≡ None → text_of ts (login_answered asked refused s) ≡ text_of ts s ++ sent (password_lines asked ++ refusal_lines refused)
unfolding login_answered
told_text ts asked refused s none =
    ap (λ (t : Option Tail). flat_map (piece_text ts) (s.pieces ++ (piece_if asked PasswordAsked ++ piece_if refused LoginRefused)) ++ tail_text ts t) none
    ∙ append-nil (flat_map (piece_text ts) (s.pieces ++ (piece_if asked PasswordAsked ++ piece_if refused LoginRefused)))
    ∙ flat_map-append (piece_text ts) s.pieces (piece_if asked PasswordAsked ++ piece_if refused LoginRefused)
    ∙ ap (λ (xs : List ℕ). flat_map (piece_text ts) s.pieces ++ xs) (told_pieces ts asked refused)
    ∙ ap (λ (xs : List ℕ). xs ++ sent (password_lines asked ++ refusal_lines refused)) (sym (append-nil (flat_map (piece_text ts) s.pieces)) ∙ ap (λ (t : Option Tail). flat_map (piece_text ts) s.pieces ++ tail_text ts t) (sym none))

told_all : (ts : Transcripts) (asked refused : Bool) → All (IsPiece ts) (piece_if asked PasswordAsked ++ piece_if refused LoginRefused)
told_all ts false false = λ k d i. absurd (omega arith)
told_all ts false true = one_all ts LoginRefused tt
told_all ts true false = one_all ts PasswordAsked tt
told_all ts true true = all_append ts (PasswordAsked ∷ []) (LoginRefused ∷ []) (one_all ts PasswordAsked tt) (one_all ts LoginRefused tt)

told_fits : (ts : Transcripts) (asked refused : Bool) (u : ℕ) (s : Shown) → Fits ts u s → Fits ts u (login_answered asked refused s)
unfolding login_answered
told_fits ts asked refused u s h = record { pieces = all_append ts s.pieces (piece_if asked PasswordAsked ++ piece_if refused LoginRefused) h.pieces (told_all ts asked refused); tail = h.tail }

told_tail : (asked refused : Bool) (s : Shown) → s.tail ≡ None → (login_answered asked refused s).tail ≡ None
unfolding login_answered
told_tail asked refused s none = none

-- a session is shown

begun_text : (ts : Transcripts) (lens : List ℕ) → AreLengths lens ts → (u : ℕ) (s : Shown) → s.tail ≡ None → text_of ts (begun u lens s) ≡ text_of ts s
unfolding begun
begun_text ts lens are u s none = by_test (nat_eq u 0)
  where
    by_test : (b : Bool) → text_of ts (cond b s (record s { tail = Some (record { user = u; from = at 0 lens u }) })) ≡ text_of ts s
    by_test true = refl
    by_test false =
        ap (λ (k : ℕ). flat_map (piece_text ts) s.pieces ++ sent (written (drop k (at [] ts u)))) (are u)
        ∙ ap (λ (is : List Item). flat_map (piece_text ts) s.pieces ++ sent (written is)) (drop-length (at [] ts u))
        ∙ ap (λ (t : Option Tail). flat_map (piece_text ts) s.pieces ++ tail_text ts t) (sym none)

begun_fits : (ts : Transcripts) (lens : List ℕ) → AreLengths lens ts → (u : ℕ) (s : Shown) → Fits ts 0 s → Fits ts u (begun u lens s)
unfolding begun
begun_fits ts lens are u s h = by_test (nat_eq u 0) refl
  where
    by_test : (b : Bool) → nat_eq u 0 ≡ b → Fits ts u (cond b s (record s { tail = Some (record { user = u; from = at 0 lens u }) }))
    by_test true e = subst (λ (k : ℕ). Fits ts k s) (sym (same_number u 0 e)) h
    by_test false e = record { pieces = h.pieces; tail = (refl, grind (arith, e), let k = are u in omega (arith, k)) }

-- before what users newly wrote

turned_both : (ts : Transcripts) (before : List ℕ) → AreLengths before ts → (was now : Console) (refused : Bool) (s : Shown) → Fits ts (user_in was) s
    → (text_of ts (turned was now refused before s) ≡ text_of ts s ++ sent (asks_password was now ++ refusal_lines refused)) × Fits ts (shows was now) (turned was now refused before s)
unfolding turned
turned_both ts before are was now refused s h = by_going (goes_on was now refused) refl
  where
    c : Shown
    c = closed before s

    t : Shown
    t = login_answered (asks was now) refused c

    none : c.tail ≡ None
    none = closed_tail before s

    still : (asked refuses : Bool) → not asked && (not refuses && nat_eq (shows was now) (user_in was)) ≡ true → (password_lines asked ++ refusal_lines refuses ≡ []) × (shows was now ≡ user_in was)
    still false false e = (refl, same_number (shows was now) (user_in was) e)
    still false true e = absurd (false≢true e)
    still true refuses e = absurd (false≢true e)

    by_going : (b : Bool) → goes_on was now refused ≡ b
        → (text_of ts (cond b s (begun (shows was now) before t)) ≡ text_of ts s ++ sent (asks_password was now ++ refusal_lines refused)) × Fits ts (shows was now) (cond b s (begun (shows was now) before t))
    by_going true e =
        let k = still (asks was now) refused e in (
          sym (append-nil (text_of ts s)) ∙ ap (λ (ls : List Line). text_of ts s ++ sent ls) (sym (ap (λ (ls : List Line). ls ++ refusal_lines refused) (asks_is was now) ∙ k.0)),
          subst (λ (u : ℕ). Fits ts u s) (sym k.1) h,
        )
    by_going false e = (
      begun_text ts before are (shows was now) t (told_tail (asks was now) refused c none)
          ∙ told_text ts (asks was now) refused c none
          ∙ ap (λ (xs : List ℕ). xs ++ sent (password_lines (asks was now) ++ refusal_lines refused)) (closed_text ts before are (user_in was) s h)
          ∙ ap (λ (ls : List Line). text_of ts s ++ sent (ls ++ refusal_lines refused)) (sym (asks_is was now)),
      begun_fits ts before are (shows was now) t (told_fits ts (asks was now) refused 0 c (closed_fits ts before are (user_in was) s h)),
    )

-- behind what users newly wrote

settled_text : (us : Transcripts) (after : List ℕ) → AreLengths after us → (now : Console) (u : ℕ) (s : Shown) → Fits us u s → text_of us (settled now after s) ≡ text_of us s
unfolding settled
settled_text us after are now u s h = by_test (nat_eq (user_in now) 0)
  where
    by_test : (b : Bool) → text_of us (record (cond b (closed after s) s) { console = now }) ≡ text_of us s
    by_test true = closed_text us after are u s h
    by_test false = refl

settled_fits : (us : Transcripts) (after : List ℕ) → AreLengths after us → (was now : Console) (s : Shown) → Fits us (shows was now) s → Fits us (user_in now) (settled now after s)
unfolding settled
settled_fits us after are was now s h = by_test (nat_eq (user_in now) 0) refl h
  where
    by_test : (b : Bool) → nat_eq (user_in now) 0 ≡ b → Fits us (cond b (user_in was) (user_in now)) s → Fits us (user_in now) (record (cond b (closed after s) s) { console = now })
    by_test true e k =
        let zero_is : user_in now ≡ 0 = same_number (user_in now) 0 e in
        let f = closed_fits us after are (user_in was) s k in
        subst (λ (u : ℕ). Fits us u (record (closed after s) { console = now })) (sym zero_is) (record { pieces = f.pieces; tail = f.tail })
    by_test false e k = record { pieces = k.pieces; tail = k.tail }

-- a whole step

joined_texts : (xs : List ℕ) (ls bs cs : List Line) → (xs ++ sent (ls ++ bs)) ++ sent cs ≡ xs ++ sent (ls ++ (bs ++ cs))
joined_texts xs ls bs cs =
    append_assoc xs (sent (ls ++ bs)) (sent cs)
    ∙ ap (λ (ys : List ℕ). xs ++ ys) (sym (sent-append (ls ++ bs) cs) ∙ ap sent (append_assoc ls bs cs))

pub step_text : (ts us : Transcripts) (before after : List ℕ) → Extends ts us → AreLengths before ts → AreLengths after us → (was now : Console) (refused : Bool) (s : Shown) → Fits ts (user_in was) s
    → (text_of us (settled now after (turned was now refused before s)) ≡ text_of ts s ++ sent (said_by refused was now ts us)) × Fits us (user_in now) (settled now after (turned was now refused before s))
step_text ts us before after e areb area was now refused s h =
    let k = turned_both ts before areb was now refused s h in
    let t : Shown = turned was now refused before s in
    let g = fit_grown ts us e (shows was now) t k.1 in (
      settled_text us after area now (shows was now) t g
          ∙ text_grown ts us e (shows was now) t k.1
          ∙ ap (λ (xs : List ℕ). xs ++ sent (wrote (shows was now) ts us)) k.0
          ∙ joined_texts (text_of ts s) (asks_password was now) (refusal_lines refused) (wrote (shows was now) ts us),
      settled_fits us after area was now t g,
    )
