-- Writing to a connection, write by write.
use Rattle.std.specs.Prelude.{Bool, true, false, map, take, drop, length, min}
use Rattle.std.proofs.Common.{◌≡◌, ℕ, zero, suc, ◌+◌, ◌-◌, ◌<◌, ◌≤◌, List, [], ◌∷◌, ◌++◌, refl, sym, ◌∙◌, ap, subst, arith, length-append, length-take, length-drop}
use Rattle.std.proofs.lemmas.Bool.{true≢false}
use Rattle.std.proofs.lemmas.List.{append-nil, map-append, length-take-le}
use Rattle.console_link.specs.declared.link.LinkTook.{LinkTook}
use Rattle.console_link.specs.declared.link.LinkTook.TheVariants as took
use Rattle.console_link.specs.Links.{LinkSeen, Done, Did, DidWrite}
use Rattle.console_server.specs.Readings.{DidAll, Nothing}
use Rattle.console_server.specs.Turns.{Wrote, sent_of, MayPut, IsPutting}
use Rattle.console_server.specs.Writings.{did_write, PutGoes, PutsOn, SentSoFar, IsSent}
use Rattle.console_server.proofs.Following.{did_one}

abbrev no_bytes : List ℕ
no_bytes = []

abbrev no_puts : List Wrote
no_puts = []

false_gives : {X : Type 0} → true ≡ false → X
false_gives h = absurd (true≢false h)

plus_none : (n : ℕ) → n ≡ 0 + n
plus_none n = omega arith

plus_suc : (s n : ℕ) → suc (s + n) ≡ suc s + n
plus_suc s n = omega arith

sent_more : (puts : List Wrote) (p : Wrote) → length (sent_of (puts ++ p ∷ [])) ≡ length (sent_of puts) + length p.bytes
sent_more [] p = ap length (append-nil p.bytes) ∙ plus_none (length p.bytes)
sent_more (x ∷ puts) p = length-append x.bytes (sent_of (puts ++ p ∷ [])) ∙ more (length-append x.bytes (sent_of puts)) (sent_more puts p)
  where
    more : length (x.bytes ++ sent_of puts) ≡ length x.bytes + length (sent_of puts) → length (sent_of (puts ++ p ∷ [])) ≡ length (sent_of puts) + length p.bytes →
        length x.bytes + length (sent_of (puts ++ p ∷ [])) ≡ length (x.bytes ++ sent_of puts) + length p.bytes
    more one two = omega (arith, one, two)

put_goes : (answer : LinkTook) (may : ℕ) (rest bytes : List ℕ) (P Q : ℕ → List ℕ → Type 0) → ((m : ℕ) (r : List ℕ) → P m r → Q m r) → PutGoes answer may rest bytes P → PutGoes answer may rest bytes Q
put_goes (took.Bytes n) may rest bytes P Q f h = (h.0, h.1, h.2, f (may - n) (drop n rest) h.3)
put_goes took.NotYet may rest bytes P Q f h = h
put_goes took.Failed may rest bytes P Q f h = h

put_stops : (answer : LinkTook) (may : ℕ) (rest bytes : List ℕ) (P Q : ℕ → List ℕ → Type 0) (stops : Type 0) (lost : Bool) → ((m : ℕ) (r : List ℕ) → P m r → Q m r) → PutGoes answer may rest bytes P → MayPut answer may rest bytes Q stops lost
put_stops (took.Bytes n) may rest bytes P Q stops lost f h = (h.0, h.1, h.2, f (may - n) (drop n rest) h.3)
put_stops took.NotYet may rest bytes P Q stops lost f h = false_gives h
put_stops took.Failed may rest bytes P Q stops lost f h = false_gives h

puts_more : (puts more : List Wrote) (may mid left : ℕ) (rest now end : List ℕ) → PutsOn puts may rest mid now → PutsOn more mid now left end → PutsOn (puts ++ more) may rest left end
puts_more [] more may mid left rest now end is h = subst (λ (m : ℕ). PutsOn more m rest left end) (sym is.0) (subst (λ (r : List ℕ). PutsOn more mid r left end) (sym is.1) h)
puts_more (p ∷ puts) more may mid left rest now end h then = (h.0, put_goes p.answer may rest p.bytes _ _ (λ m r k. puts_more puts more m mid left r now end k then) h.1)

puts_stop : (lost : Bool) (puts more : List Wrote) (may mid : ℕ) (rest now : List ℕ) → PutsOn puts may rest mid now → IsPutting lost more mid now → IsPutting lost (puts ++ more) may rest
puts_stop lost [] more may mid rest now is h = subst (λ (m : ℕ). IsPutting lost more m rest) (sym is.0) (subst (λ (r : List ℕ). IsPutting lost more mid r) (sym is.1) h)
puts_stop lost (p ∷ puts) more may mid rest now h then = (h.0, put_stops p.answer may rest p.bytes _ _ _ lost (λ m r k. puts_stop lost puts more m mid r now k then) h.1)

calls_more : (id : ℕ) (puts : List Wrote) (p : Wrote) (a b c : LinkSeen) → DidAll (map (did_write id) puts) a b → Did (did_write id p) b c → DidAll (map (did_write id) (puts ++ p ∷ [])) a c
calls_more id puts p a b c sofar did = subst (λ (ds : List Done). DidAll ds a c) (sym (map-append (did_write id) puts (p ∷ []))) (did_one _ _ a b c sofar did)

take_of_take : (n k : ℕ) (xs : List ℕ) → n ≤ k → take n (take k xs) ≡ take n xs
take_of_take zero k xs le = refl
take_of_take (suc n) zero xs le = absurd (omega (arith, le))
take_of_take (suc n) (suc k) [] le = refl
take_of_take (suc n) (suc k) (x ∷ xs) le = ap (λ (l : List ℕ). x ∷ l) (take_of_take n k xs (omega (arith, le)))

-- a piece of the front of a text is that piece of the text
piece_of : (k sent n : ℕ) (rest : List ℕ) → n ≤ k - sent → take n (drop sent (take k rest)) ≡ take n (drop sent rest)
piece_of k zero n rest le = take_of_take n k rest (omega (arith, le))
piece_of zero (suc s) n rest le = ap (λ (m : ℕ). take m (drop (suc s) (take zero rest))) none ∙ sym (ap (λ (m : ℕ). take m (drop (suc s) rest)) none)
  where
    none : n ≡ 0
    none = omega (arith, le)
piece_of (suc k) (suc s) n [] le = refl
piece_of (suc k) (suc s) n (x ∷ rest) le = piece_of k s n rest (omega (arith, le))

drop_none : (n : ℕ) → drop n no_bytes ≡ []
drop_none zero = refl
drop_none (suc n) = refl

drop_more : (s n : ℕ) (rest : List ℕ) → drop n (drop s rest) ≡ drop (s + n) rest
drop_more zero n rest = ap (λ (m : ℕ). drop m rest) (plus_none n)
drop_more (suc s) n [] = drop_none n ∙ sym (drop_none (suc s + n))
drop_more (suc s) n (x ∷ rest) = drop_more s n rest ∙ ap (λ (m : ℕ). drop m (x ∷ rest)) (plus_suc s n)

pub send_none : (id : ℕ) (rest : List ℕ) (a : LinkSeen) → SentSoFar id rest 0 a a
send_none id rest a = record { puts = []; goes_on = (refl, refl); link = Nothing a; sent_is = refl }

module _ (id : ℕ) (rest text : List ℕ) (count : ℕ) (a b : LinkSeen) (is : text ≡ take 4096 rest) (sofar : SentSoFar id rest count a b) where
  all_len : length text ≡ min 4096 (length rest)
  all_len = ap length is ∙ length-take 4096 rest

  rest_len : length (drop count rest) ≡ length rest - count
  rest_len = length-drop count rest

  -- a write took bytes
  pub send_on : (n : ℕ) (c : LinkSeen) → count < length text → 1 ≤ n → n ≤ length text - count → Did (DidWrite id (took.Bytes n) (take n (drop count text))) b c → SentSoFar id rest (count + n) a c
  send_on n c some one within did =
      let bytes : take n (drop count text) ≡ take n (drop count rest) = ap (λ (l : List ℕ). take n (drop count l)) is ∙ piece_of 4096 count n rest (omega (arith, within, all_len)) in
      let last : Wrote = record { answer = took.Bytes n; bytes = take n (drop count text) } in
      let may : 0 < min (4096 - count) (length (drop count rest)) = omega (arith, some, all_len, rest_len) in
      let fits : n ≤ min (4096 - count) (length (drop count rest)) = omega (arith, within, all_len, rest_len) in
      let left : 4096 - count - n ≡ 4096 - (count + n) = omega arith in
      let size : length (take n (drop count text)) ≡ n = ap length bytes ∙ length-take-le n (drop count rest) (omega (arith, fits)) in
      record {
        puts = sofar.puts ++ last ∷ [];
        goes_on = puts_more sofar.puts (last ∷ []) 4096 (4096 - count) (4096 - (count + n)) rest (drop count rest) (drop (count + n) rest) sofar.goes_on (may, (one, fits, bytes, (left, drop_more count n rest)));
        link = calls_more id sofar.puts last a b c sofar.link did;
        sent_is = sent_more sofar.puts last ∙ (λ i. sofar.sent_is i + size i);
      }

  -- a write took nothing
  pub send_stops : (answer : LinkTook) (lost : Bool) (c : LinkSeen) → count < length text → MayPut answer (4096 - count) (drop count rest) [] (IsPutting lost []) (no_puts ≡ []) lost → Did (DidWrite id answer []) b c → IsSent id rest lost count a c
  send_stops answer lost c some stops did =
      let last : Wrote = record { answer = answer; bytes = [] } in
      let may : 0 < min (4096 - count) (length (drop count rest)) = omega (arith, some, all_len, rest_len) in
      let none : count + 0 ≡ count = omega arith in
      record {
        puts = sofar.puts ++ last ∷ [];
        lawful = puts_stop lost sofar.puts (last ∷ []) 4096 (4096 - count) rest (drop count rest) sofar.goes_on (may, stops);
        link = calls_more id sofar.puts last a b c sofar.link did;
        sent_is = sent_more sofar.puts last ∙ ap (λ (n : ℕ). n + 0) sofar.sent_is ∙ none;
      }

  -- all was sent that may be
  pub send_all : length text ≤ count → IsSent id rest false count a b
  send_all whole =
      let none : min (4096 - count) (length (drop count rest)) ≡ 0 = omega (arith, whole, all_len, rest_len) in
      record {
        puts = sofar.puts;
        lawful = subst (λ (l : List Wrote). IsPutting false l 4096 rest) (append-nil sofar.puts) (puts_stop false sofar.puts [] 4096 (4096 - count) rest (drop count rest) sofar.goes_on (none, refl));
        link = sofar.link;
        sent_is = sofar.sent_is;
      }
