-- A core made by storing words, and what is known of a program that is run alone.
use Rattle.std.proofs.Common.{◌≡◌, ℕ, zero, suc, ◌+◌, ◌-◌, ◌*◌, ◌<◌, ◌≤◌, true, get_or, List, [], ◌∷◌, ◌++◌, length, take, replicate, refl, sym, ap, ◌∙◌, arith, append_assoc, append-nil, length-append}
use Rattle.std.specs.Prelude.{fold, codes}
use Rattle.std.proofs.Math.Seq.{set-append_seam}
use Rattle.std.proofs.lemmas.List.{set_past, length-take, length-replicate, take_more, take_all}
use Rattle.std.proofs.lemmas.List.Sums.{fold-append}
use Rattle.ctss_types.specs.declared.file.FileBody.{FileBody}
use Rattle.time_sharing.specs.Machine.{Line, Ending, Went, Stopped, Resized, Replaced, LoggedOut}
use Rattle.time_sharing.specs.Rows.{some_line}
use Rattle.program_model.specs.Lines.{with_words}
use Rattle.program_model.specs.declared.ProgramState.TheVariants.{Dead}
use Rattle.user_model.specs.Inner.{Inner, Stored, recut}
use Rattle.user_model.specs.Session.{first_state, works_in}
use Rattle.user_model.specs.User.{User, typed, opened, can_step, step, core_after, in_store}
use Rattle.user_model.proofs.StepLaws.{command_can}
use Rattle.program_trace.specs.Lone.{TracedUser, tracer, deck_files, begun, stepped}

-- words behind the end are passed over
beyond : (core words : List ℕ) (at : ℕ) → length core ≤ at → with_words core at words ≡ core
beyond core [] at h = refl
beyond core (w ∷ ws) at h =
    ap (λ (c : List ℕ). with_words c (suc at) ws) (set_past core at w h) ∙ beyond core ws (suc at) (omega (arith, h))

-- words stored behind others, over zeros
zeros_by : (m n : ℕ) → m ≡ n → replicate {A = ℕ} m 0 ≡ replicate {A = ℕ} n 0
zeros_by m n e = ap (λ (k : ℕ). replicate {A = ℕ} k 0) e

over_zeros : (done : List ℕ) (n : ℕ) (words : List ℕ)
    → with_words (done ++ replicate n 0) (length done) words ≡ done ++ (take n words ++ replicate (n - length words) 0)
over_zeros done zero [] = refl
over_zeros done (suc n) [] = ap (λ (zs : List ℕ). done ++ zs) (zeros_by (suc n) (suc n - 0) (omega arith))
over_zeros done zero (w ∷ ws) =
    beyond (done ++ []) (w ∷ ws) (length done) (omega (arith, ap length (append-nil done)))
    ∙ ap (λ (zs : List ℕ). done ++ zs) (zeros_by 0 (0 - length (w ∷ ws)) (omega arith))
over_zeros done (suc n) (w ∷ ws) =
    ap (λ (c : List ℕ). with_words c (suc (length done)) ws) (set-append_seam done 0 (replicate n 0) w ∙ sym (append_assoc done (w ∷ []) (replicate n 0)))
    ∙ ap (λ (at : ℕ). with_words ((done ++ w ∷ []) ++ replicate n 0) at ws) (omega (arith, length-append done (w ∷ [])))
    ∙ over_zeros (done ++ w ∷ []) n ws
    ∙ append_assoc done (w ∷ []) (take n ws ++ replicate (n - length ws) 0)
    ∙ ap (λ (zs : List ℕ). done ++ w ∷ (take n ws ++ zs)) (zeros_by (n - length ws) (suc n - length (w ∷ ws)) (omega arith))

pub recut_by_words : (blocks : ℕ) (core : List ℕ) → with_words (replicate (256 * blocks) 0) 0 core ≡ recut blocks core
recut_by_words blocks core = over_zeros [] (256 * blocks) core

-- a step counts as one
pub own_rises : (a : TracedUser) → (stepped a).user.own ≡ suc a.user.own
unfolding stepped step
own_rises a = refl

-- a line unread at least, in a session of a user without a program
pub record IsListening (p : User) : Type 0 where
  pub on : p.on ≡ true
  pub dead : p.inner.state ≡ Dead
  pub some : some_line p.unread ≡ true

some_more : (ls : List Line) (l : Line) → some_line (ls ++ l ∷ []) ≡ true
some_more [] l = refl
some_more (x ∷ ls) l = refl

typed_listens : (p : User) (l : Line) → p.on ≡ true → p.inner.state ≡ Dead → IsListening (typed l p)
unfolding typed
typed_listens p l on dead = record { on = on; dead = dead; some = some_more p.unread l }

all_listen : (p : User) (ls : List Line) → IsListening p → IsListening (fold (λ (q : User) (l : Line). typed l q) p ls)
all_listen p [] h = h
all_listen p (l ∷ ls) h = all_listen (typed l p) ls (typed_listens p l h.on h.dead)

opened_on : (p : User) → (opened p).on ≡ true
unfolding opened
opened_on p = refl

opened_dead : (p : User) → p.inner.state ≡ Dead → (opened p).inner.state ≡ Dead
unfolding opened
opened_dead p h = h

listens : (deck : List ℕ) (lines : List Line) → IsListening (begun deck lines).user
listens deck lines =
    let p = opened (first_state tracer (deck_files deck)) in
    all_listen (typed (codes "LOADGO PROGRM") p) lines
    (typed_listens p (codes "LOADGO PROGRM") (opened_on (first_state tracer (deck_files deck))) (opened_dead (first_state tracer (deck_files deck)) refl))

can_listen : (p : User) → IsListening p → can_step p ≡ true
can_listen p h = command_can p (ap works_in h.dead) ∙ rw (h.on, h.some) refl

pub begun_can : (deck : List ℕ) (lines : List Line) → can_step (begun deck lines).user ≡ true
begun_can deck lines = can_listen (begun deck lines).user (listens deck lines)

recut_length : (blocks : ℕ) (core : List ℕ) → length (recut blocks core) ≡ 256 * blocks
recut_length blocks core =
    omega (arith, length-append (take (256 * blocks) core) (replicate (256 * blocks - length core) 0), length-take (256 * blocks) core, length-replicate {A = ℕ} (256 * blocks - length core) 0)

-- the core behind a step has the blocks that the step left
pub settled_length : (e : Ending) (blocks : ℕ) (core : List ℕ) → length (core_after e blocks core) ≡ 256 * blocks
settled_length Replaced blocks core = length-replicate {A = ℕ} (256 * blocks) 0
settled_length Went blocks core = recut_length blocks core
settled_length Stopped blocks core = recut_length blocks core
settled_length Resized blocks core = recut_length blocks core
settled_length LoggedOut blocks core = recut_length blocks core

-- no step was done when all was typed
typed_own : (p : User) (l : Line) → (typed l p).own ≡ p.own
unfolding typed
typed_own p l = refl

opened_own : (p : User) → (opened p).own ≡ p.own
unfolding opened
opened_own p = refl

all_own : (p : User) (ls : List Line) → (fold (λ (q : User) (l : Line). typed l q) p ls).own ≡ p.own
all_own p [] = refl
all_own p (l ∷ ls) = all_own (typed l p) ls ∙ typed_own p l

pub begun_own : (deck : List ℕ) (lines : List Line) → (begun deck lines).user.own ≡ 0
begun_own deck lines =
    let first = first_state tracer (deck_files deck) in
    all_own (opened first) (codes "LOADGO PROGRM" ∷ lines) ∙ opened_own first

-- what is typed changes nothing of a user's inner state
typed_inner : (p : User) (l : Line) → (typed l p).inner ≡ p.inner
unfolding typed
typed_inner p l = refl

-- lines typed one after another
pub all_typed : User → List Line → User
all_typed p ls = fold (λ (q : User) (l : Line). typed l q) p ls

pub all_inner : (p : User) (ls : List Line) → (all_typed p ls).inner ≡ p.inner
unfolding all_typed
all_inner p [] = refl
all_inner p (l ∷ ls) = all_inner (typed l p) ls ∙ typed_inner p l

pub one_typed : (p : User) (ls : List Line) (i : ℕ) (l : Line) → i < length ls → l ≡ get_or ls i l → typed l (all_typed p (take i ls)) ≡ all_typed p (take (i + 1) ls)
unfolding all_typed
one_typed p ls i l within is =
    let f : User → Line → User = λ q x. typed x q in
    ap (λ (x : Line). typed x (fold f p (take i ls))) is
    ∙ sym (fold-append f p (take i ls) (get_or ls i l ∷ []))
    ∙ sym (ap (λ (xs : List Line). fold f p xs) (take_more ls i l within))

pub each_typed : (p : User) (ls : List Line) (i : ℕ) → length ls ≤ i → all_typed p (take i ls) ≡ all_typed p ls
each_typed p ls i past = ap (λ (xs : List Line). all_typed p xs) (take_all i ls past)

-- each line that is typed counts as one
pub opened_lines : (p : User) → (opened p).lines ≡ 0
unfolding opened
opened_lines p = refl

typed_lines : (p : User) (l : Line) → (typed l p).lines ≡ suc p.lines
unfolding typed
typed_lines p l = refl

all_lines : (p : User) (ls : List Line) → (all_typed p ls).lines ≡ p.lines + length ls
unfolding all_typed
all_lines p [] = omega arith
all_lines p (l ∷ ls) = omega (arith, all_lines (typed l p) ls, typed_lines p l)

-- a session in which LOADGO was typed, without its files
pub asked : User
asked = typed (codes "LOADGO PROGRM") (opened (first_state tracer []))

pub asked_inner : asked.inner ≡ (first_state tracer []).inner
unfolding asked typed opened
asked_inner = refl

asked_lines : asked.lines ≡ 1
unfolding asked
asked_lines =
    let first = opened (first_state tracer []) in
    omega (arith, typed_lines first (codes "LOADGO PROGRM"), opened_lines (first_state tracer []))

-- a session takes LOADGO, and 2047 lines behind it
pub takes_line : (s : User) (ls : List Line) (i : ℕ) → s ≡ all_typed asked (take i ls) → i < length ls → length ls ≤ 2047 → s.lines < 2048
takes_line s ls i is within few =
    omega (arith, within, few, ap (λ (p : User). p.lines) is, all_lines asked (take i ls), asked_lines, length-take i ls)

stored_typed : (c : Stored) (p : User) (l : Line) → in_store c (typed l p) ≡ typed l (in_store c p)
unfolding typed
stored_typed c p l = refl

stored_all : (c : Stored) (p : User) (ls : List Line) → in_store c (all_typed p ls) ≡ all_typed (in_store c p) ls
unfolding all_typed
stored_all c p [] = refl
stored_all c p (l ∷ ls) = stored_all c (typed l p) ls ∙ ap (λ (q : User). all_typed q ls) (stored_typed c p l)

stored_asked : (files : List FileBody) → in_store (record { core = []; files = files }) asked ≡ typed (codes "LOADGO PROGRM") (opened (first_state tracer files))
unfolding asked typed opened
stored_asked files = refl

pub is_begun : (deck : List ℕ) (lines : List Line)
    → record { user = in_store (record { core = []; files = deck_files deck }) (all_typed asked lines); common = [] } ≡ begun deck lines
unfolding all_typed
is_begun deck lines =
    ap (λ (p : User). record { user = p; common = [] })
    (stored_all (record { core = []; files = deck_files deck }) asked lines ∙ ap (λ (q : User). all_typed q lines) (stored_asked (deck_files deck)))

pub asked_is : (s t u : User) (l : Line) → s ≡ first_state tracer [] → t ≡ opened s → l ≡ codes "LOADGO PROGRM" → u ≡ typed l t
    → u ≡ typed (codes "LOADGO PROGRM") (opened (first_state tracer []))
asked_is s t u l first on is then = then ∙ (λ j. typed (is j) ((on ∙ ap opened first) j))

pub none_typed : (s : User) (lines : List Line) → s ≡ typed (codes "LOADGO PROGRM") (opened (first_state tracer [])) → s ≡ all_typed asked (take 0 lines)
unfolding asked all_typed
none_typed s lines is = is

pub no_blocks : (s : User) (ls : List Line) → s ≡ all_typed asked ls → (s.inner.blocks ≡ 0) × (s.inner.account ≡ tracer)
no_blocks s ls is =
    let inner = ap (λ (p : User). p.inner) is ∙ all_inner asked ls ∙ asked_inner in
    (ap (λ (i : Inner). i.blocks) inner, ap (λ (i : Inner). i.account) inner)

pub begins : (s : User) (lines : List Line) (deck core : List ℕ) (files common : List FileBody) → s ≡ all_typed asked lines → core ≡ [] → files ≡ deck_files deck → common ≡ []
    → record { user = in_store (record { core = core; files = files }) s; common = common } ≡ begun deck lines
begins s lines deck core files common is none has others =
    (λ j. record { user = in_store (record { core = none j; files = has j }) (is j); common = others j }) ∙ is_begun deck lines
