-- What a console's connection is sent in a turn.
use Rattle.std.specs.Prelude.{Bool, true, false, min, ◌^◌, map, take, drop, length, Option, Some, None}
use Rattle.std.proofs.Common.{◌≡◌, ℕ, ◌+◌, ◌-◌, List, [], ◌∷◌, ◌++◌, refl, sym, ◌∙◌, ap, subst, arith, length-drop}
use Rattle.std.proofs.lemmas.List.{append-nil, take_min, take_at, length-take-le}
use Rattle.console_link.specs.Links.{LinkSeen, Done, Did, DidClose}
use Rattle.console_server.specs.declared.tasks.Task.{Task}
use Rattle.console_server.specs.Readings.{DidAll, Nothing}
use Rattle.console_server.specs.Turns.{Talk, IsPutting}
use Rattle.console_server.specs.Writings.{did_write, IsSent}
use Rattle.console_server.specs.Seats.{Stands, SeatIsTold}
use Rattle.console_server.proofs.Following.{did_one}

pub told_none : (text : List ℕ) (talk : Option Talk) (a : LinkSeen) → Stands None talk → SeatIsTold text talk false a a None
told_none text None a s = record { puts = []; lawful = (refl, refl); link = Nothing a; stands = tt }
told_none text (Some t) a s = absurd s

-- what was copied from a place on
pub window_is : (text old : List ℕ) (from count : ℕ) → count ≡ min 4096 (length text - from) → take count (take count (drop from text) ++ drop count old) ≡ take 4096 (drop from text)
window_is text old from count is =
    let len : length (drop from text) ≡ length text - from = length-drop from text in
    let front : length (take count (drop from text)) ≡ count = length-take-le count (drop from text) (omega (arith, is, len)) in
    take_at (take count (drop from text)) (drop count old) count front ∙ ap (λ (n : ℕ). take n (drop from text)) (is ∙ ap (λ (n : ℕ). min 4096 n) (sym len)) ∙ take_min 4096 (drop from text)

pub told_lost : (text : List ℕ) (task : Task) (talk : Option Talk) (count : ℕ) (lost : Bool) (a b c : LinkSeen) → Stands (Some task) talk → IsSent task.id (drop task.place text) lost count a b → lost ≡ true → Did (DidClose task.id) b c → SeatIsTold text talk true a c None
told_lost text task None count lost a b c s sent is did = absurd s
told_lost text task (Some t) count lost a b c s sent is did =
    record {
      puts = sent.puts;
      lawful = subst (λ (o : Bool). IsPutting o sent.puts 4096 (drop t.place text)) is (subst (λ (n : ℕ). IsPutting lost sent.puts 4096 (drop n text)) s.place sent.lawful);
      link = subst (λ (n : ℕ). DidAll (map (did_write n) sent.puts ++ DidClose n ∷ []) a c) s.id (did_one (map (did_write task.id) sent.puts) (DidClose task.id) a b c sent.link did);
      stands = tt;
    }

pub told_on : (text : List ℕ) (task : Task) (talk : Option Talk) (count place : ℕ) (lost : Bool) (a b : LinkSeen) → Stands (Some task) talk → IsSent task.id (drop task.place text) lost count a b → lost ≡ false → place ≡ min (task.place + count) (2 ^ 64 - 1) → SeatIsTold text talk false a b (Some (record task { place = place }))
told_on text task None count place lost a b s sent is at = absurd s
told_on text task (Some t) count place lost a b s sent is at =
    record {
      puts = sent.puts;
      lawful = subst (λ (o : Bool). IsPutting o sent.puts 4096 (drop t.place text)) is (subst (λ (n : ℕ). IsPutting lost sent.puts 4096 (drop n text)) s.place sent.lawful);
      link = subst (λ (ds : List Done). DidAll ds a b) (sym (append-nil (map (did_write t.id) sent.puts))) (subst (λ (n : ℕ). DidAll (map (did_write n) sent.puts) a b) s.id sent.link);
      stands = record { id = s.id; wire = s.wire; place = at ∙ (λ i. min (s.place i + sym sent.sent_is i) (2 ^ 64 - 1)) };
    }
