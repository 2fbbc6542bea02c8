-- What people typed and were sent, by the calls of their link.
use Rattle.std.proofs.Common.{◌≡◌, ◌≤◌, ◌-◌, ◌*◌, ℕ, true, false, List, [], ◌∷◌, ◌++◌, length, take, get_or, Option, Some, None, refl, sym, ap, ◌∙◌, subst, arith}
use Rattle.std.specs.List.{All}
use Rattle.std.proofs.lemmas.List.{take_all}
use Rattle.ctss_types.specs.declared.script.Script.{Script}
use Rattle.ctss_types.specs.declared.script.Timed.{Timed}
use Rattle.system_model.specs.Record.{start_of}
use Rattle.console_texts.specs.Watching.{texts_to}
use Rattle.console_link.specs.Links.{LinkSeen, Passed, Done, DidOpen}
use Rattle.console_server.specs.Readings.{DidAll, Nothing, Then}
use Rattle.console_server.specs.Turns.{Talk}
use Rattle.console_server.specs.Visits.{Visit, events_at, IsSentFrom}
use Rattle.console_server.specs.Conversation.{calls_of_turns, desk_behind, texts_behind}
use Rattle.live_run.specs.Parts.{live_script}
use Rattle.live_serve.specs.Talks.{IsTalk, calls_of_talk, closes_of_desk, close_of, empty_desk, silent}
use Rattle.serve_laws.specs.VisitLaws.{EventsAreVisits}
use Rattle.promises.specs.Sentences.{IsServedAt}

-- calls in two parts
record Parts (first second : List Done) (a c : LinkSeen) : Type 0 where
  pub mid : LinkSeen
  pub before : DidAll first a mid
  pub behind : DidAll second mid c

parts : (first second : List Done) (a c : LinkSeen) → DidAll (first ++ second) a c → Parts first second a c
parts [] second a c did = record { mid = a; before = Nothing a; behind = did }
parts (d ∷ first) second a c (Then _ _ _ b _ one rest) =
    let p = parts first second b c rest in record { mid = p.mid; before = Then d first a b p.mid one p.before; behind = p.behind }

-- no byte passes where connections are closed
record PassesNone (a b : LinkSeen) : Type 0 where
  pub tells : b.tells ≡ a.tells
  pub passed : a.tells ≡ true → (k : ℕ) → b.passed k ≡ a.passed k

none_pass : (a b c : LinkSeen) → PassesNone a b → PassesNone b c → PassesNone a c
none_pass a b c one two = record { tells = two.tells ∙ one.tells; passed = λ told k. two.passed (one.tells ∙ told) k ∙ one.passed told k }

close_passes : (seat : Option Talk) (a b : LinkSeen) → DidAll (close_of seat) a b → PassesNone a b
close_passes None a b (Nothing _) = record { tells = refl; passed = λ told k. refl }
close_passes (Some t) a b (Then _ _ _ _ _ one (Nothing _)) = record { tells = one.tells; passed = λ told k. (one.bytes told).passed k }

closes_pass : (seats : List (Option Talk)) (a b : LinkSeen) → DidAll (closes_of_desk seats) a b → PassesNone a b
closes_pass [] a b (Nothing _) = record { tells = refl; passed = λ told k. refl }
closes_pass (seat ∷ seats) a b did =
    let p = parts (close_of seat) (closes_of_desk seats) a b did in
    none_pass a p.mid b (close_passes seat a p.mid p.before) (closes_pass seats p.mid b p.behind)

opened : (port : ℕ) (ds : List Done) (a c : LinkSeen) → DidAll (DidOpen port false ∷ ds) a c → (b : LinkSeen) × DidAll ds b c
opened port ds a c (Then _ _ _ b _ one rest) = (b, rest)

module _ (mid last : LinkSeen) (same : PassesNone mid last) (told : mid.tells ≡ true) where
  taken_later : (visits : List Visit) → All (λ (v : Visit). (mid.passed v.id).taken ≡ v.bytes) visits → All (λ (v : Visit). (last.passed v.id).taken ≡ v.bytes) visits
  taken_later visits h = λ i d within. ap (λ (p : Passed). p.taken) (same.passed told (get_or visits i d).id) ∙ h i d within

  sent_later : (text shown : List ℕ) → text ≡ shown → (visits : List Visit) → All (λ (v : Visit). IsSentFrom v.place text (mid.passed v.id).sent) visits
      → All (λ (v : Visit). IsSentFrom v.place shown (last.passed v.id).sent) visits
  sent_later text shown is visits h = λ i d within.
      let v = get_or visits i d in
      subst (λ (t : List ℕ). IsSentFrom v.place t (last.passed v.id).sent) is
      (subst (λ (p : Passed). IsSentFrom v.place text p.sent) (sym (same.passed told v.id)) (h i d within))

pub served_at : EventsAreVisits → (base : Script) (port count : ℕ) (events : List Timed) (a c : LinkSeen) → IsTalk base true port count events a c → (console : ℕ) → 1 ≤ console
    → IsServedAt (live_script base events (1000 * count)) count console c
served_at law base port count events a c talk console lowest =
    let o = opened port (calls_of_talk silent talk.turns) a c talk.link in
    let p = parts (calls_of_turns silent empty_desk talk.turns) (closes_of_desk (desk_behind silent empty_desk talk.turns).seats) o.0 c o.1 in
    let v = law console silent empty_desk talk.turns o.0 p.mid lowest refl refl talk.lawful p.before in
    let none = closes_pass (desk_behind silent empty_desk talk.turns).seats p.mid c p.behind in
    let all : take (length talk.turns) talk.turns ≡ talk.turns = take_all (length talk.turns) talk.turns (omega arith) in
    let start = start_of (live_script base events (1000 * count)) in
    let shown : texts_behind silent talk.turns ≡ texts_to (1000 * count) start silent =
    ap (texts_behind silent) (sym all) ∙ talk.shown refl (length talk.turns) (omega arith) ∙ ap (λ (n : ℕ). texts_to (1000 * n) start silent) talk.many in
    record {
      visits = v.0;
      heard = ap (events_at console) talk.events_are ∙ v.1.heard;
      taken = λ told. taken_later p.mid c none (sym none.tells ∙ told) v.0 (v.1.taken (sym none.tells ∙ told));
      sent = λ told.
          sent_later p.mid c none (sym none.tells ∙ told) (get_or (texts_behind silent talk.turns) (console - 1) []) (get_or (texts_to (1000 * count) start silent) (console - 1) [])
          (ap (λ (ts : List (List ℕ)). get_or ts (console - 1) []) shown) v.0 (v.1.sent (sym none.tells ∙ told));
    }
