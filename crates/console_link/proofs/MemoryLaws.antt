-- A link in memory is a link.
use Rattle.std.specs.Prelude.{Bool, true, false, ◌&&◌, ◌^◌, ◌||◌, nat_lt, nat_le, nat_eq, get_or, set, map, if◌then◌else◌}
use Rattle.std.specs.List.{list_any}
use Rattle.std.proofs.Common.{◌≡◌, ◌≢◌, ℕ, zero, suc, ◌+◌, ◌<◌, ◌≤◌, List, [], ◌∷◌, ◌++◌, length, take, drop, refl, sym, ◌∙◌, ap, subst, arith, inl, inr, ltb-true}
use Rattle.std.proofs.lemmas.Bool.{cases_Bool, false≢true}
use Rattle.std.proofs.lemmas.Bool.Decides.{nat_tests}
use Rattle.std.proofs.lemmas.List.{length-map, length-take, take_all, get_or-set_same, get_or-set_other}
use Rattle.faults.specs.Faults.{one_further}
use Rattle.console_link.specs.declared.link.Accepted.{Accepted}
use Rattle.console_link.specs.declared.link.Accepted.TheVariants as accepted
use Rattle.console_link.specs.declared.link.LinkGot.{LinkGot}
use Rattle.console_link.specs.declared.link.LinkGot.TheVariants as got
use Rattle.console_link.specs.declared.link.LinkTook.{LinkTook}
use Rattle.console_link.specs.declared.memory.LinkCall.TheVariants as kind
use Rattle.console_link.specs.declared.memory.Peer.{Peer}
use Rattle.console_link.specs.Links.{Done, DidOpen, DidAccept, DidRead, DidWrite, DidClose, DidWait, Did, Counted, Rises, IsFresh, IsOver, accepts, names, is_failed, not_yet, is_none, is_accept, call_of, with_call, numbers_after, open_after, passed_after, nothing_passed, got_failed, got_waits, took_failed, took_waits}
use Rattle.console_link.specs.Memory.{ConnectionState, LinkState, connection_at, no_connection, after_read, after_write, with_open, next_if, count_given, counts_of_connection, passed_of, memory_seen, numbers_below, link_after_read, link_after_write, link_after_close, after_open, open_fails, is_listed, accept_answer, connection_of, after_wait, wait_fails, after_accept, OverAtEnd}
use Rattle.console_link.specs.Fields.{Changes, IsNew, AreCounts, IsListening}
use Rattle.console_link.proofs.Muted.{is_of, not_of, nat_eq-self}

rise : (b : Bool) (n : ℕ) → n < 2 ^ 64 → Rises true b n (next_if b n)
rise true n h = (omega arith, omega arith)
rise false n h = omega arith

rise_if : (may b : Bool) (n : ℕ) → may ≡ true → n < 2 ^ 64 → Rises may b n (next_if b n)
rise_if may b n is h = subst (λ (m : Bool). Rises m b n (next_if b n)) (sym is) (rise b n h)

rest_if : (may b : Bool) (n : ℕ) → b ≡ false → Rises may b n n
rest_if true b n is = subst (λ (c : Bool). Rises true c n n) (sym is) (omega arith)
rest_if false b n is = refl

-- at a test that holds, and at one that doesn't
chosen : {X : Type 0} (b : Bool) (x y : X) → b ≡ true → (if b then x else y) ≡ x
chosen b x y is = ap (λ (t : Bool). if t then x else y) is

passed_by : {X : Type 0} (b : Bool) (x y : X) → b ≡ false → (if b then x else y) ≡ y
passed_by b x y is = ap (λ (t : Bool). if t then x else y) is

not_self : (k id : ℕ) → k ≢ id → nat_eq k id ≡ false
not_self k id h = grind (arith, nat_tests)

take_more : (n m : ℕ) (xs : List ℕ) → take (n + m) xs ≡ take n xs ++ take m (drop n xs)
take_more zero m xs = let is : 0 + m ≡ m = omega arith in ap (λ (k : ℕ). take k xs) is
take_more (suc n) zero [] = let is : suc n + 0 ≡ suc n = omega arith in ap (λ (k : ℕ). take k []) is
take_more (suc n) (suc m) [] = let is : suc n + suc m ≡ suc (n + suc m) = omega arith in ap (λ (k : ℕ). take k []) is
take_more (suc n) m (x ∷ xs) =
    let is : suc n + m ≡ suc (n + m) = omega arith in
    ap (λ (k : ℕ). take k (x ∷ xs)) is ∙ ap (λ (l : List ℕ). x ∷ l) (take_more n m xs)

still_over : (ends : Bool) (size at more : ℕ) → (ends && nat_le size at) ≡ true → (ends && nat_le size (at + more)) ≡ true
still_over true size at more h = grind (arith, nat_tests)
still_over false size at more h = h

pub read_changes : (id : ℕ) (answer : LinkGot) (bytes : List ℕ) (c : ConnectionState) → c.faults < 2 ^ 64 → c.read_waits < 2 ^ 64 →
    bytes ≡ take (count_given answer) (drop c.at c.bytes) → Changes (DidRead id answer bytes) id c (after_read answer c)
read_changes id answer bytes c f w is = record {
  opens = refl;
  counts = record {
    faults = rise_if _ (got_failed answer) c.faults (nat_eq-self id) f;
    read_waits = rise_if _ (got_waits answer) c.read_waits (nat_eq-self id) w;
    write_waits = refl;
  };
  passed =
      ap (λ (l : List ℕ). record (passed_of c) { taken = l }) (take_more c.at (count_given answer) c.bytes ∙ ap (λ (l : List ℕ). take c.at c.bytes ++ l) (sym is))
      ∙ sym (chosen (nat_eq id id) (record (passed_of c) { taken = take c.at c.bytes ++ bytes }) (passed_of c) (nat_eq-self id));
  over = λ h. still_over c.ends (length c.bytes) c.at (count_given answer) h;
}

pub write_changes : (id : ℕ) (answer : LinkTook) (bytes : List ℕ) (c : ConnectionState) → c.faults < 2 ^ 64 → c.write_waits < 2 ^ 64 →
    Changes (DidWrite id answer bytes) id c (after_write answer bytes c)
write_changes id answer bytes c f w = record {
  opens = refl;
  counts = record {
    faults = rise_if _ (took_failed answer) c.faults (nat_eq-self id) f;
    read_waits = refl;
    write_waits = rise_if _ (took_waits answer) c.write_waits (nat_eq-self id) w;
  };
  passed = sym (chosen (nat_eq id id) (record (passed_of c) { sent = c.sent ++ bytes }) (passed_of c) (nat_eq-self id));
  over = λ h. h;
}

-- what holds of each place, where one was changed
at_set : {X : Type 0} (P : ℕ → X → X → Type 0) (none : X) (xs : List X) (id : ℕ) (x : X) → id < length xs → P id (get_or xs id none) x → ((k : ℕ) (y : X) → k ≢ id → P k y y) → (k : ℕ) → P k (get_or xs k none) (get_or (set xs id x) k none)
at_set {X} P none xs id x lt here others k =
    elim (cases_Bool (nat_eq k id)) [
      | inl q ↦
          subst (λ (n : ℕ). P n (get_or xs n none) (get_or (set xs id x) n none)) (sym (is_of k id q))
          (subst (λ (y : X). P id (get_or xs id none) y) (sym (get_or-set_same xs id x none lt)) here)
      | inr q ↦
          subst (λ (y : X). P k (get_or xs k none) y) (sym (get_or-set_other xs id k x none (not_of k id q))) (others k _ (not_of k id q))
    ]

pub open_within : (cs : List ConnectionState) (id : ℕ) → (get_or cs id no_connection).opened ≡ true → id < length cs
open_within [] id h = absurd (false≢true h)
open_within (c ∷ cs) zero h = omega arith
open_within (c ∷ cs) (suc id) h = omega (arith, open_within cs id h)

link_did : (d : Done) (old new : LinkState) → ((k : ℕ) → Changes d k (connection_at old k) (connection_at new k)) →
    IsFresh (accepts d) (memory_seen old) →
    Rises (is_none (names d)) (is_failed d) old.faults new.faults →
    Rises (is_accept d) (not_yet d) old.waits new.waits →
    new.calls ≡ with_call old.calls (call_of d) →
    numbers_below new.accepted ≡ numbers_after (accepts d) (numbers_below old.accepted) →
    IsOver d (memory_seen new) →
    Did d (memory_seen old) (memory_seen new)
link_did d old new each fresh faults waits calls numbers ended = record {
  opens = λ k. (each k).opens;
  fresh = fresh;
  counts = λ k. (each k).counts;
  faults = faults;
  waits = waits;
  calls = calls;
  tells = refl;
  bytes = λ h. record { numbers = numbers; passed = λ k. (each k).passed; over = λ k. (each k).over; ended = ended };
}

-- another connection than the one that a call names
other_read : (id : ℕ) (answer : LinkGot) (bytes : List ℕ) (k : ℕ) (c : ConnectionState) → k ≢ id → Changes (DidRead id answer bytes) k c c
other_read id answer bytes k c h = record {
  opens = refl;
  counts = record {
    faults = subst (λ (b : Bool). Rises b (got_failed answer) c.faults c.faults) (sym (not_self k id h)) refl;
    read_waits = subst (λ (b : Bool). Rises b (got_waits answer) c.read_waits c.read_waits) (sym (not_self k id h)) refl;
    write_waits = refl;
  };
  passed = sym (passed_by (nat_eq k id) (record (passed_of c) { taken = (passed_of c).taken ++ bytes }) (passed_of c) (not_self k id h));
  over = λ h. h;
}

other_write : (id : ℕ) (answer : LinkTook) (bytes : List ℕ) (k : ℕ) (c : ConnectionState) → k ≢ id → Changes (DidWrite id answer bytes) k c c
other_write id answer bytes k c h = record {
  opens = refl;
  counts = record {
    faults = subst (λ (b : Bool). Rises b (took_failed answer) c.faults c.faults) (sym (not_self k id h)) refl;
    read_waits = refl;
    write_waits = subst (λ (b : Bool). Rises b (took_waits answer) c.write_waits c.write_waits) (sym (not_self k id h)) refl;
  };
  passed = sym (passed_by (nat_eq k id) (record (passed_of c) { sent = (passed_of c).sent ++ bytes }) (passed_of c) (not_self k id h));
  over = λ h. h;
}

ended_here : (id : ℕ) (answer : LinkGot) (bytes : List ℕ) (s : LinkState) → OverAtEnd answer (connection_at s id) → IsOver (DidRead id answer bytes) (memory_seen s)
ended_here id (got.Bytes n) bytes s h = tt
ended_here id got.End bytes s h = h
ended_here id got.NotYet bytes s h = tt
ended_here id got.Failed bytes s h = tt

pub read_did : (s s' : LinkState) (id : ℕ) (answer : LinkGot) (bytes : List ℕ) → (connection_at s id).opened ≡ true → AreCounts (connection_at s id) →
    bytes ≡ take (count_given answer) (drop (connection_at s id).at (connection_at s id).bytes) →
    OverAtEnd answer (after_read answer (connection_at s id)) → s' ≡ link_after_read id answer s →
    Did (DidRead id answer bytes) (memory_seen s) (memory_seen s')
read_did s s' id answer bytes ours counts is over state =
    let lt : id < length s.connections = open_within s.connections id ours in
    let now : connection_at (link_after_read id answer s) id ≡ after_read answer (connection_at s id) = get_or-set_same s.connections id (after_read answer (connection_at s id)) no_connection lt in
    subst (λ (x : LinkState). Did (DidRead id answer bytes) (memory_seen s) (memory_seen x)) (sym state) (link_did (DidRead id answer bytes) s (link_after_read id answer s)
    (at_set (Changes (DidRead id answer bytes)) no_connection s.connections id (after_read answer (connection_at s id)) lt
    (read_changes id answer bytes (connection_at s id) counts.faults counts.read_waits is) (other_read id answer bytes))
    tt refl refl refl refl
    (ended_here id answer bytes (link_after_read id answer s) (subst (λ (x : ConnectionState). OverAtEnd answer x) (sym now) over)))

pub write_did : (s s' : LinkState) (id : ℕ) (answer : LinkTook) (bytes : List ℕ) → (connection_at s id).opened ≡ true → AreCounts (connection_at s id) →
    s' ≡ link_after_write id answer bytes s →
    Did (DidWrite id answer bytes) (memory_seen s) (memory_seen s')
write_did s s' id answer bytes ours counts state =
    let lt : id < length s.connections = open_within s.connections id ours in
    subst (λ (x : LinkState). Did (DidWrite id answer bytes) (memory_seen s) (memory_seen x)) (sym state) (link_did (DidWrite id answer bytes) s (link_after_write id answer bytes s)
    (at_set (Changes (DidWrite id answer bytes)) no_connection s.connections id (after_write answer bytes (connection_at s id)) lt
    (write_changes id answer bytes (connection_at s id) counts.faults counts.write_waits) (other_write id answer bytes))
    tt refl refl refl refl tt)

close_here : (id : ℕ) (c : ConnectionState) → Changes (DidClose id) id c (with_open false c)
close_here id c = record {
  opens = sym (chosen (nat_eq id id) false c.opened (nat_eq-self id));
  counts = record { faults = rest_if _ false c.faults refl; read_waits = refl; write_waits = refl };
  passed = refl;
  over = λ h. h;
}

close_other : (id k : ℕ) (c : ConnectionState) → k ≢ id → Changes (DidClose id) k c c
close_other id k c h = record {
  opens = sym (passed_by (nat_eq k id) false c.opened (not_self k id h));
  counts = record { faults = rest_if _ false c.faults refl; read_waits = refl; write_waits = refl };
  passed = refl;
  over = λ h. h;
}

pub close_did : (s : LinkState) (id : ℕ) → (connection_at s id).opened ≡ true → Did (DidClose id) (memory_seen s) (memory_seen (link_after_close id s))
close_did s id ours =
    let lt : id < length s.connections = open_within s.connections id ours in
    link_did (DidClose id) s (link_after_close id s)
    (at_set (Changes (DidClose id)) no_connection s.connections id (with_open false (connection_at s id)) lt (close_here id (connection_at s id)) (close_other id))
    tt refl refl refl refl tt

-- a call that names no connection
same_all : (d : Done) (c : ConnectionState) (k : ℕ) → ((b : Bool) → open_after d k b ≡ b) → Counted d k (counts_of_connection c) (counts_of_connection c) → passed_after d k (passed_of c) ≡ passed_of c → Changes d k c c
same_all d c k opens counts passed = record { opens = sym (opens c.opened); counts = counts; passed = sym passed; over = λ h. h }

pub open_did : (s : LinkState) (port : ℕ) → s.faults < 2 ^ 64 → Did (DidOpen port (open_fails s)) (memory_seen s) (memory_seen (after_open port s))
open_did s port f = link_did (DidOpen port (open_fails s)) s (after_open port s)
    (λ k. same_all (DidOpen port (open_fails s)) (connection_at s k) k (λ b. refl) (record { faults = refl; read_waits = refl; write_waits = refl }) refl)
    tt (rise (open_fails s) s.faults f) refl refl refl tt

pub wait_did : (s : LinkState) (millis : ℕ) → s.faults < 2 ^ 64 → Did (DidWait millis (wait_fails s)) (memory_seen s) (memory_seen (after_wait millis s))
wait_did s millis f = link_did (DidWait millis (wait_fails s)) s (after_wait millis s)
    (λ k. same_all (DidWait millis (wait_fails s)) (connection_at s k) k (λ b. refl) (record { faults = refl; read_waits = refl; write_waits = refl }) refl)
    tt (rise (wait_fails s) s.faults f) refl refl refl tt

any_of_both : (p : ℕ → Bool) (xs ys : List ℕ) → list_any p xs ≡ false → list_any p ys ≡ false → list_any p (xs ++ ys) ≡ false
any_of_both p [] ys h k = k
any_of_both p (x ∷ xs) ys h k = elim (cases_Bool (p x)) [
  | inl q ↦ absurd (false≢true (sym h ∙ ap (λ (b : Bool). b || list_any p xs) q))
  | inr q ↦ ap (λ (b : Bool). b || list_any p (xs ++ ys)) q ∙ any_of_both p xs ys (sym (ap (λ (b : Bool). b || list_any p xs) q) ∙ h) k
]

never_given : (n id : ℕ) → n ≤ id → list_any (λ m. nat_eq m id) (numbers_below n) ≡ false
never_given zero id h = refl
never_given (suc n) id h =
    any_of_both (λ m. nat_eq m id) (numbers_below n) (n ∷ []) (never_given n id (omega arith))
    (ap (λ (b : Bool). b || false) (not_self n id (grind (arith, nat_tests))))

new_here : (id : ℕ) (c : ConnectionState) → IsNew c → Changes (DidAccept (accepted.New id)) id c (with_open true c)
new_here id c is = record {
  opens = sym (chosen (nat_eq id id) true c.opened (nat_eq-self id));
  counts = record { faults = refl; read_waits = refl; write_waits = refl };
  passed =
      (λ i. record { taken = take (is.at i) c.bytes; sent = is.sent i })
      ∙ sym (chosen (nat_eq id id) nothing_passed (passed_of c) (nat_eq-self id));
  over = λ h. h;
}

new_other : (id k : ℕ) (c : ConnectionState) → k ≢ id → Changes (DidAccept (accepted.New id)) k c c
new_other id k c h = record {
  opens = sym (passed_by (nat_eq k id) true c.opened (not_self k id h));
  counts = record { faults = refl; read_waits = refl; write_waits = refl };
  passed = sym (passed_by (nat_eq k id) nothing_passed (passed_of c) (not_self k id h));
  over = λ h. h;
}

pub accept_new : (s : LinkState) → s.accepted < length s.connections → IsNew (connection_at s s.accepted) →
    Did (DidAccept (accepted.New s.accepted)) (memory_seen s) (memory_seen (after_accept (accepted.New s.accepted) s))
accept_new s lt is =
    link_did (DidAccept (accepted.New s.accepted)) s (after_accept (accepted.New s.accepted) s)
    (at_set (Changes (DidAccept (accepted.New s.accepted))) no_connection s.connections s.accepted (with_open true (connection_at s s.accepted)) lt (new_here s.accepted (connection_at s s.accepted) is) (new_other s.accepted))
    (is.opened, λ h. never_given s.accepted s.accepted (omega arith)) (omega arith) (omega arith) refl refl tt

pub accept_waiting : (s : LinkState) → s.waits < 2 ^ 64 → Did (DidAccept accepted.NotYet) (memory_seen s) (memory_seen (after_accept accepted.NotYet s))
accept_waiting s w = link_did (DidAccept accepted.NotYet) s (after_accept accepted.NotYet s)
    (λ k. same_all (DidAccept accepted.NotYet) (connection_at s k) k (λ b. refl) (record { faults = refl; read_waits = refl; write_waits = refl }) refl)
    tt (omega arith) (rise true s.waits w) refl refl tt

pub accept_failing : (s : LinkState) → s.faults < 2 ^ 64 → Did (DidAccept accepted.Failed) (memory_seen s) (memory_seen (after_accept accepted.Failed s))
accept_failing s f = link_did (DidAccept accepted.Failed) s (after_accept accepted.Failed s)
    (λ k. same_all (DidAccept accepted.Failed) (connection_at s k) k (λ b. refl) (record { faults = refl; read_waits = refl; write_waits = refl }) refl)
    tt (rise true s.faults f) (omega arith) refl refl tt

-- whichever answer an accept gives
accept_by : (s : LinkState) → IsListening s → (fails waits left : Bool) → (left ≡ true → s.accepted < length s.connections) →
    let answer : Accepted = (if fails then accepted.Failed else (if waits then accepted.NotYet else (if left then accepted.New s.accepted else accepted.NotYet))) in
    Did (DidAccept answer) (memory_seen s) (memory_seen (after_accept answer s))
accept_by s is true waits left h = accept_failing s is.faults
accept_by s is false true left h = accept_waiting s is.waits
accept_by s is false false true h = accept_new s (h refl) is.next
accept_by s is false false false h = accept_waiting s is.waits

pub accept_did : (s s' : LinkState) (answer : Accepted) → IsListening s → answer ≡ accept_answer s → s' ≡ after_accept answer s → Did (DidAccept answer) (memory_seen s) (memory_seen s')
accept_did s s' answer is answers state =
    subst (λ (x : LinkState). Did (DidAccept answer) (memory_seen s) (memory_seen x)) (sym state)
    (subst (λ (a : Accepted). Did (DidAccept a) (memory_seen s) (memory_seen (after_accept a s))) (sym answers)
    (accept_by s is (is_listed s.fails kind.Accept (one_further s.accepts)) (is_listed s.not_ready kind.Accept (one_further s.accepts)) (nat_lt s.accepted (length s.connections)) (ltb-true s.accepted (length s.connections))))

-- connections that nothing was done with

new_peer : (room : ℕ) (peers : List Peer) (k : ℕ) → IsNew (get_or (map (connection_of room) peers) k no_connection)
new_peer room [] k = record { at = refl; sent = refl; opened = refl }
new_peer room (p ∷ peers) zero = record { at = refl; sent = refl; opened = refl }
new_peer room (p ∷ peers) (suc k) = new_peer room peers k

pub all_peers : (room i : ℕ) (peers : List Peer) → length peers ≤ i → map (connection_of room) (take i peers) ≡ map (connection_of room) peers
all_peers room i peers le = ap (map (connection_of room)) (take_all i peers le)

pub all_new : (room i : ℕ) (peers : List Peer) (cs : List ConnectionState) → cs ≡ map (connection_of room) (take i peers) → (k : ℕ) → IsNew (get_or cs k no_connection)
all_new room i peers cs is k = subst (λ (l : List ConnectionState). IsNew (get_or l k no_connection)) (sym is) (new_peer room (take i peers) k)

-- an open connection is none of those that are new
pub news_kept : (cs : List ConnectionState) (id accepted : ℕ) (c : ConnectionState) → (get_or cs id no_connection).opened ≡ true →
    ((k : ℕ) → accepted ≤ k → IsNew (get_or cs k no_connection)) → (k : ℕ) → accepted ≤ k → IsNew (get_or (set cs id c) k no_connection)
news_kept cs id accepted c ours news k le =
    subst (λ (y : ConnectionState). IsNew y)
    (sym (get_or-set_other cs id k c no_connection (λ is. false≢true (sym (news k le).opened ∙ ap (λ (n : ℕ). (get_or cs n no_connection).opened) is ∙ ours))))
    (news k le)

pub news_left : (cs : List ConnectionState) (accepted : ℕ) (c : ConnectionState) →
    ((k : ℕ) → accepted ≤ k → IsNew (get_or cs k no_connection)) → (k : ℕ) → accepted + 1 ≤ k → IsNew (get_or (set cs accepted c) k no_connection)
news_left cs accepted c news k le =
    subst (λ (y : ConnectionState). IsNew y) (sym (get_or-set_other cs accepted k c no_connection (λ is. absurd (omega (arith, is))))) (news k (omega arith))

pub all_few : (room i most : ℕ) (peers : List Peer) (cs : List ConnectionState) → cs ≡ map (connection_of room) (take i peers) → length peers < most → length cs < most
all_few room i most peers cs is lt =
    let size : length cs ≡ length (take i peers) = ap length is ∙ simp length-map in
    omega (arith, length-take i peers)
