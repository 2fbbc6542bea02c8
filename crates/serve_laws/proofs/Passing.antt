-- What passes over a connection in a turn.
use Rattle.std.specs.Prelude.{Bool, true, false, nat_eq, ◌||◌, if◌then◌else◌, map, get_or, Option, Some, None}
use Rattle.std.specs.List.{list_any}
use Rattle.std.proofs.Common.{◌≡◌, ◌≢◌, ℕ, zero, suc, List, [], ◌∷◌, ◌++◌, refl, sym, ◌∙◌, ap, subst, arith}
use Rattle.std.proofs.lemmas.List.Folds.{list_any-append}
use Rattle.std.proofs.lemmas.List.{append_assoc, append-nil}
use Rattle.console_link.specs.declared.link.Accepted.TheVariants as accepted
use Rattle.console_link.specs.Links.{LinkSeen, Passed, Done, Did, DidAccept, DidClose, passed_after, numbers_after, accepts}
use Rattle.console_server.specs.Readings.{Gave, bytes_of, did_read, DidAll, Nothing, Then}
use Rattle.console_server.specs.Turns.{Talk, HeardOf, Told, Wrote, sent_of, if_over, calls_heard, all_calls_heard, all_seats_after, seat_after, put_first, calls_told, all_calls_told, all_seats_told, seat_told, AreTold}
use Rattle.console_server.specs.Writings.{did_write}
use Rattle.console_server.proofs.DeskLaws.{false_is}
use Rattle.serve_laws.specs.ConsoleLaws.{ReadsAreTaken, WritesAreSent}
use Rattle.serve_laws.proofs.Watching.{none_heard, none_told}
use Rattle.serve_laws.proofs.AtConsole.{same, other}

-- after calls

abbrev pub passed_all : List Done → ℕ → Passed → Passed
passed_all [] k p = p
passed_all (d ∷ ds) k p = passed_all ds k (passed_after d k p)

pub passed_both : (ds es : List Done) (k : ℕ) (p : Passed) → passed_all (ds ++ es) k p ≡ passed_all es k (passed_all ds k p)
passed_both [] es k p = refl
passed_both (d ∷ ds) es k p = passed_both ds es k (passed_after d k p)

pub passed_is : (ds : List Done) (k : ℕ) (a b : LinkSeen) → a.tells ≡ true → DidAll ds a b → b.passed k ≡ passed_all ds k (a.passed k)
passed_is [] k a b tells (Nothing _) = refl
passed_is (d ∷ ds) k a b tells (Then _ _ _ m _ did rest) = passed_is ds k m b (did.tells ∙ tells) rest ∙ ap (passed_all ds k) ((did.bytes tells).passed k)

pub tells_still : (ds : List Done) (a b : LinkSeen) → a.tells ≡ true → DidAll ds a b → b.tells ≡ true
tells_still [] a b tells (Nothing _) = tells
tells_still (d ∷ ds) a b tells (Then _ _ _ m _ did rest) = tells_still ds m b (did.tells ∙ tells) rest

pub tells_same : (ds : List Done) (a b : LinkSeen) → DidAll ds a b → b.tells ≡ a.tells
tells_same [] a b (Nothing _) = refl
tells_same (d ∷ ds) a b (Then _ _ _ m _ did rest) = tells_same ds m b rest ∙ did.tells

pub did_split : (ds es : List Done) (a c : LinkSeen) → DidAll (ds ++ es) a c → (b : LinkSeen) × DidAll ds a b × DidAll es b c
did_split [] es a c all = (a, Nothing a, all)
did_split (d ∷ ds) es a c (Then _ _ _ m _ did rest) =
    let more = did_split ds es m c rest in
    (more.0, Then d ds a m more.0 did more.1, more.2)

-- numbers that were given

abbrev pub WasGiven : LinkSeen → ℕ → Type 0
WasGiven s k = list_any (λ (n : ℕ). nat_eq n k) s.numbers ≡ true

any_more : (p : ℕ → Bool) (xs ys : List ℕ) → list_any p xs ≡ true → list_any p (xs ++ ys) ≡ true
any_more p xs ys h = list_any-append p xs ys ∙ ap (λ (t : Bool). t || list_any p ys) h

any_last : (k : ℕ) (xs : List ℕ) → list_any (λ (n : ℕ). nat_eq n k) (xs ++ k ∷ []) ≡ true
any_last k xs = list_any-append (λ (n : ℕ). nat_eq n k) xs (k ∷ []) ∙ ap (λ (t : Bool). list_any (λ (n : ℕ). nat_eq n k) xs || (t || false)) (same k) ∙ or_true (list_any (λ (n : ℕ). nat_eq n k) xs)
  where
    or_true : (t : Bool) → (t || true) ≡ true
    or_true true = refl
    or_true false = refl

after_more : (k : ℕ) (given : Option ℕ) (was : List ℕ) → list_any (λ (n : ℕ). nat_eq n k) was ≡ true → list_any (λ (n : ℕ). nat_eq n k) (numbers_after given was) ≡ true
after_more k None was h = h
after_more k (Some id) was h = any_more (λ (n : ℕ). nat_eq n k) was (id ∷ []) h

pub given_one : (d : Done) (k : ℕ) (a b : LinkSeen) → a.tells ≡ true → Did d a b → WasGiven a k → WasGiven b k
given_one d k a b tells did h = subst (λ (l : List ℕ). list_any (λ (n : ℕ). nat_eq n k) l ≡ true) (sym (did.bytes tells).numbers) (after_more k (accepts d) a.numbers h)

pub given_still : (ds : List Done) (k : ℕ) (a b : LinkSeen) → a.tells ≡ true → DidAll ds a b → WasGiven a k → WasGiven b k
given_still [] k a b tells (Nothing _) h = h
given_still (d ∷ ds) k a b tells (Then _ _ _ m _ did rest) h = given_still ds k m b (did.tells ∙ tells) rest (given_one d k a m tells did h)

pub new_given : (id : ℕ) (a b : LinkSeen) → a.tells ≡ true → Did (DidAccept (accepted.New id)) a b → WasGiven b id
new_given id a b tells did = subst (λ (l : List ℕ). list_any (λ (n : ℕ). nat_eq n id) l ≡ true) (sym (did.bytes tells).numbers) (any_last id a.numbers)

pub new_differs : (id k : ℕ) (a b : LinkSeen) → a.tells ≡ true → Did (DidAccept (accepted.New id)) a b → WasGiven a k → id ≢ k
new_differs id k a b tells did h is = false_is (sym (subst (λ (n : ℕ). WasGiven a n) (sym is) h) ∙ did.fresh.1 tells)

-- reads

reads_on : (id : ℕ) (reads : List Gave) (p : Passed) → passed_all (map (did_read id) reads) id p ≡ record p { taken = p.taken ++ bytes_of reads }
reads_on id [] p = λ i. record p { taken = sym (append-nil p.taken) i }
reads_on id (r ∷ reads) p =
    ap (λ (t : Bool). passed_all (map (did_read id) reads) id (if t then record p { taken = p.taken ++ r.bytes } else p)) (same id)
    ∙ reads_on id reads (record p { taken = p.taken ++ r.bytes })
    ∙ (λ i. record p { taken = append_assoc p.taken r.bytes (bytes_of reads) i })

reads_off : (id k : ℕ) (reads : List Gave) (p : Passed) → id ≢ k → passed_all (map (did_read id) reads) k p ≡ p
reads_off id k [] p ne = refl
reads_off id k (r ∷ reads) p ne =
    ap (λ (t : Bool). passed_all (map (did_read id) reads) k (if t then record p { taken = p.taken ++ r.bytes } else p)) (other k id (λ e. ne (sym e)))
    ∙ reads_off id k reads p ne

close_quiet : (over : Bool) (id k : ℕ) (p : Passed) → passed_all (if_over over (DidClose id ∷ [])) k p ≡ p
close_quiet true id k p = refl
close_quiet false id k p = refl

-- the number of a seat's connection
abbrev pub OnSeat : (ℕ → Type 0) → Option Talk → Type 0
OnSeat Q None = Unit {0}
OnSeat Q (Some t) = Q t.id

abbrev pub IsApart : ℕ → Option Talk → Type 0
IsApart k s = OnSeat (λ (id : ℕ). id ≢ k) s

heard_off : (k : ℕ) (s : Option Talk) (reads : List Gave) (over : Bool) (p : Passed) → IsApart k s → passed_all (calls_heard s reads over) k p ≡ p
heard_off k None reads over p apart = refl
heard_off k (Some t) reads over p apart =
    passed_both (map (did_read t.id) reads) (if_over over (DidClose t.id ∷ [])) k p ∙ close_quiet over t.id k (passed_all (map (did_read t.id) reads) k p) ∙ reads_off t.id k reads p apart

heard_on : (t : Talk) (reads : List Gave) (over : Bool) (p : Passed) → passed_all (calls_heard (Some t) reads over) t.id p ≡ record p { taken = p.taken ++ bytes_of reads }
heard_on t reads over p =
    passed_both (map (did_read t.id) reads) (if_over over (DidClose t.id ∷ [])) t.id p ∙ close_quiet over t.id t.id (passed_all (map (did_read t.id) reads) t.id p) ∙ reads_on t.id reads p

pub all_heard_off : (k : ℕ) (seats : List (Option Talk)) (hs : List HeardOf) (p : Passed) → ((j : ℕ) → IsApart k (get_or seats j None)) → passed_all (all_calls_heard seats hs) k p ≡ p
all_heard_off k [] hs p apart = refl
all_heard_off k (s ∷ seats) [] p apart = refl
all_heard_off k (s ∷ seats) (h ∷ hs) p apart =
    passed_both (calls_heard s h.reads h.over) (all_calls_heard seats hs) k p
    ∙ all_heard_off k seats hs (passed_all (calls_heard s h.reads h.over) k p) (λ j. apart (suc j))
    ∙ heard_off k s h.reads h.over p (apart 0)

not_some : (t : Talk) → None ≡ Some t → ⊥
not_some t is = cc

pub reads_are_taken : ReadsAreTaken
reads_are_taken id reads a b tells did = ap (λ (p : Passed). p.taken) (passed_is (map (did_read id) reads) id a b tells did ∙ reads_on id reads (a.passed id))

abbrev with_taken : Passed → List ℕ → Passed
with_taken p bytes = record p { taken = p.taken ++ bytes }

pub all_heard_on : (i : ℕ) (t : Talk) (seats : List (Option Talk)) (hs : List HeardOf) (p : Passed) → get_or seats i None ≡ Some t → ((j : ℕ) → j ≢ i → IsApart t.id (get_or seats j None)) →
    passed_all (all_calls_heard seats hs) t.id p ≡ record p { taken = p.taken ++ bytes_of (get_or hs i none_heard).reads }
all_heard_on i t [] hs p is apart = absurd (not_some t is)
all_heard_on i t (s ∷ seats) [] p is apart = λ j. record p { taken = sym (append-nil p.taken) j }
all_heard_on zero t (s ∷ seats) (h ∷ hs) p is apart =
    passed_both (calls_heard s h.reads h.over) (all_calls_heard seats hs) t.id p
    ∙ all_heard_off t.id seats hs (passed_all (calls_heard s h.reads h.over) t.id p) (λ j. apart (suc j) (λ e. absurd (omega (arith, e))))
    ∙ ap (λ (o : Option Talk). passed_all (calls_heard o h.reads h.over) t.id p) is
    ∙ heard_on t h.reads h.over p
all_heard_on (suc i) t (s ∷ seats) (h ∷ hs) p is apart =
    passed_both (calls_heard s h.reads h.over) (all_calls_heard seats hs) t.id p
    ∙ all_heard_on i t seats hs (passed_all (calls_heard s h.reads h.over) t.id p) is (λ j ne. apart (suc j) (λ e. ne (omega (arith, e))))
    ∙ ap (λ (q : Passed). with_taken q (bytes_of (get_or hs i none_heard).reads)) (heard_off t.id s h.reads h.over p (apart 0 (λ e. absurd (omega (arith, e)))))

-- writes

puts_on : (id : ℕ) (puts : List Wrote) (p : Passed) → passed_all (map (did_write id) puts) id p ≡ record p { sent = p.sent ++ sent_of puts }
puts_on id [] p = λ i. record p { sent = sym (append-nil p.sent) i }
puts_on id (r ∷ puts) p =
    ap (λ (t : Bool). passed_all (map (did_write id) puts) id (if t then record p { sent = p.sent ++ r.bytes } else p)) (same id)
    ∙ puts_on id puts (record p { sent = p.sent ++ r.bytes })
    ∙ (λ i. record p { sent = append_assoc p.sent r.bytes (sent_of puts) i })

puts_off : (id k : ℕ) (puts : List Wrote) (p : Passed) → id ≢ k → passed_all (map (did_write id) puts) k p ≡ p
puts_off id k [] p ne = refl
puts_off id k (r ∷ puts) p ne =
    ap (λ (t : Bool). passed_all (map (did_write id) puts) k (if t then record p { sent = p.sent ++ r.bytes } else p)) (other k id (λ e. ne (sym e)))
    ∙ puts_off id k puts p ne

told_off : (k : ℕ) (s : Option Talk) (puts : List Wrote) (lost : Bool) (p : Passed) → IsApart k s → passed_all (calls_told s puts lost) k p ≡ p
told_off k None puts lost p apart = refl
told_off k (Some t) puts lost p apart =
    passed_both (map (did_write t.id) puts) (if_over lost (DidClose t.id ∷ [])) k p ∙ close_quiet lost t.id k (passed_all (map (did_write t.id) puts) k p) ∙ puts_off t.id k puts p apart

told_on : (t : Talk) (puts : List Wrote) (lost : Bool) (p : Passed) → passed_all (calls_told (Some t) puts lost) t.id p ≡ record p { sent = p.sent ++ sent_of puts }
told_on t puts lost p =
    passed_both (map (did_write t.id) puts) (if_over lost (DidClose t.id ∷ [])) t.id p ∙ close_quiet lost t.id t.id (passed_all (map (did_write t.id) puts) t.id p) ∙ puts_on t.id puts p

pub all_told_off : (k : ℕ) (seats : List (Option Talk)) (ts : List Told) (p : Passed) → ((j : ℕ) → IsApart k (get_or seats j None)) → passed_all (all_calls_told seats ts) k p ≡ p
all_told_off k [] ts p apart = refl
all_told_off k (s ∷ seats) [] p apart = refl
all_told_off k (s ∷ seats) (t ∷ ts) p apart =
    passed_both (calls_told s t.puts t.lost) (all_calls_told seats ts) k p
    ∙ all_told_off k seats ts (passed_all (calls_told s t.puts t.lost) k p) (λ j. apart (suc j))
    ∙ told_off k s t.puts t.lost p (apart 0)

pub writes_are_sent : WritesAreSent
writes_are_sent id puts a b tells did = ap (λ (p : Passed). p.sent) (passed_is (map (did_write id) puts) id a b tells did ∙ puts_on id puts (a.passed id))

abbrev with_sent : Passed → List ℕ → Passed
with_sent p bytes = record p { sent = p.sent ++ bytes }

pub all_told_on : (texts : List (List ℕ)) (place i : ℕ) (t : Talk) (seats : List (Option Talk)) (ts : List Told) (p : Passed) → AreTold texts place seats ts → get_or seats i None ≡ Some t → ((j : ℕ) → j ≢ i → IsApart t.id (get_or seats j None)) →
    passed_all (all_calls_told seats ts) t.id p ≡ record p { sent = p.sent ++ sent_of (get_or ts i none_told).puts }
all_told_on texts place i t [] ts p are is apart = absurd (not_some t is)
all_told_on texts place i t (s ∷ seats) [] p are is apart = false_is are
all_told_on texts place zero t (s ∷ seats) (x ∷ ts) p are is apart =
    passed_both (calls_told s x.puts x.lost) (all_calls_told seats ts) t.id p
    ∙ all_told_off t.id seats ts (passed_all (calls_told s x.puts x.lost) t.id p) (λ j. apart (suc j) (λ e. absurd (omega (arith, e))))
    ∙ ap (λ (o : Option Talk). passed_all (calls_told o x.puts x.lost) t.id p) is
    ∙ told_on t x.puts x.lost p
all_told_on texts place (suc i) t (s ∷ seats) (x ∷ ts) p are is apart =
    passed_both (calls_told s x.puts x.lost) (all_calls_told seats ts) t.id p
    ∙ all_told_on texts (suc place) i t seats ts (passed_all (calls_told s x.puts x.lost) t.id p) are.1 is (λ j ne. apart (suc j) (λ e. ne (omega (arith, e))))
    ∙ ap (λ (q : Passed). with_sent q (sent_of (get_or ts i none_told).puts)) (told_off t.id s x.puts x.lost p (apart 0 (λ e. absurd (omega (arith, e)))))

-- what holds of a seat's number goes on to hold

heard_seat : (Q : ℕ → Type 0) (s : Option Talk) (reads : List Gave) (over : Bool) → OnSeat Q s → OnSeat Q (seat_after s reads over)
heard_seat Q None reads over h = tt
heard_seat Q (Some t) reads true h = tt
heard_seat Q (Some t) reads false h = h

pub on_heard : (Q : ℕ → Type 0) (j : ℕ) (seats : List (Option Talk)) (hs : List HeardOf) → OnSeat Q (get_or seats j None) → OnSeat Q (get_or (all_seats_after seats hs) j None)
on_heard Q j [] hs h = h
on_heard Q j (s ∷ seats) [] h = h
on_heard Q zero (s ∷ seats) (x ∷ hs) h = heard_seat Q s x.reads x.over h
on_heard Q (suc j) (s ∷ seats) (x ∷ hs) h = on_heard Q j seats hs h

told_seat : (Q : ℕ → Type 0) (s : Option Talk) (puts : List Wrote) (lost : Bool) → OnSeat Q s → OnSeat Q (seat_told s puts lost)
told_seat Q None puts lost h = tt
told_seat Q (Some t) puts true h = tt
told_seat Q (Some t) puts false h = h

pub on_told : (Q : ℕ → Type 0) (j : ℕ) (seats : List (Option Talk)) (ts : List Told) → OnSeat Q (get_or seats j None) → OnSeat Q (get_or (all_seats_told seats ts) j None)
on_told Q j [] ts h = h
on_told Q j (s ∷ seats) [] h = h
on_told Q zero (s ∷ seats) (x ∷ ts) h = told_seat Q s x.puts x.lost h
on_told Q (suc j) (s ∷ seats) (x ∷ ts) h = on_told Q j seats ts h

pub on_put : (Q : ℕ → Type 0) (j : ℕ) (t : Talk) (seats : List (Option Talk)) → Q t.id → OnSeat Q (get_or seats j None) → OnSeat Q (get_or (put_first t seats) j None)
on_put Q j t [] q h = h
on_put Q zero t (None ∷ seats) q h = q
on_put Q (suc j) t (None ∷ seats) q h = h
on_put Q zero t (Some u ∷ seats) q h = h
on_put Q (suc j) t (Some u ∷ seats) q h = on_put Q j t seats q h
