-- Why writing a connection stops.
use Rattle.std.specs.Prelude.{Bool, true, false, min, take, drop, length, map}
use Rattle.std.proofs.Common.{◌≡◌, ℕ, ◌+◌, ◌-◌, ◌≤◌, List, [], ◌∷◌, ◌++◌, refl, sym, ◌∙◌, ap, subst, arith, inl, inr, ◌⊎◌, length-append, length-take}
use Rattle.std.proofs.lemmas.List.{take-append-drop, nil_from_length}
use Rattle.console_link.specs.declared.link.LinkTook.{LinkTook}
use Rattle.console_link.specs.declared.link.LinkTook.TheVariants as took
use Rattle.console_link.specs.Links.{LinkSeen, Did, DidWrite, Rises, is_failed, not_yet}
use Rattle.console_server.specs.Readings.{DidAll, Nothing, Then}
use Rattle.console_server.specs.Turns.{Wrote, sent_of, MayPut, IsPutting}
use Rattle.console_server.specs.Writings.{did_write}
use Rattle.serve_laws.specs.Stops.{WhyWritingStopped, AllSent, FullSent, WriteNotReady, WriteFaulty}
use Rattle.faults.proofs.Rises.{rose_later}
use Rattle.serve_laws.proofs.StopLaws.{same_number, rises}

-- a write on a connection: its counts of faults and of writes that were not ready
faults_of : (id : ℕ) (answer : LinkTook) (bytes : List ℕ) (a b : LinkSeen) → Did (DidWrite id answer bytes) a b → Rises true (is_failed (DidWrite id answer bytes)) (a.counts id).faults (b.counts id).faults
faults_of id answer bytes a b did = subst (λ (t : Bool). Rises t (is_failed (DidWrite id answer bytes)) (a.counts id).faults (b.counts id).faults) (same_number id) ((did.counts id).faults)

waits_of : (id : ℕ) (answer : LinkTook) (bytes : List ℕ) (a b : LinkSeen) → Did (DidWrite id answer bytes) a b → Rises true (not_yet (DidWrite id answer bytes)) (a.counts id).write_waits (b.counts id).write_waits
waits_of id answer bytes a b did = subst (λ (t : Bool). Rises t (not_yet (DidWrite id answer bytes)) (a.counts id).write_waits (b.counts id).write_waits) (same_number id) ((did.counts id).write_waits)

-- what came of a write, and then of more
later : (id may n : ℕ) (rest : List ℕ) (puts : List Wrote) (p : Wrote) (a b c : LinkSeen) → n ≤ min may (length rest) → p.bytes ≡ take n rest → Did (DidWrite id (took.Bytes n) p.bytes) a b → WhyWritingStopped id puts (may - n) (drop n rest) b c → WhyWritingStopped id (p ∷ puts) may rest a c
later id may n rest puts p a b c le is did (AllSent all) = AllSent ((λ i. is i ++ all i) ∙ take-append-drop n rest)
later id may n rest puts p a b c le is did (FullSent all) = FullSent (length-append p.bytes (sent_of puts) ∙ total)
  where
    total : length p.bytes + length (sent_of puts) ≡ may
    total = omega (arith, all, ap length is, length-take n rest, le)
later id may n rest puts p a b c le is did (WriteNotReady rose) = WriteNotReady (rose_later _ _ _ (rises false _ _ (waits_of id (took.Bytes n) p.bytes a b did)) rose)
later id may n rest puts p a b c le is did (WriteFaulty rose) = WriteFaulty (rose_later _ _ _ (rises false _ _ (faults_of id (took.Bytes n) p.bytes a b did)) rose)

ended : (puts : List Wrote) (id : ℕ) (b c : LinkSeen) → puts ≡ [] → DidAll (map (did_write id) puts) b c → b ≡ c
ended [] id b c is (Nothing _) = refl
ended (p ∷ puts) id b c is more = absurd (subst IsCons is tt)
  where
    IsCons : List Wrote → Type 0
    IsCons [] = ⊥
    IsCons (x ∷ xs) = Unit {0}

one_is_none : (may size : ℕ) → min may size ≡ 0 → (may ≡ 0) ⊎ (size ≡ 0)
one_is_none may size is = grind arith

at_end : (id may : ℕ) (rest : List ℕ) (a b : LinkSeen) → (may ≡ 0) ⊎ (length rest ≡ 0) → WhyWritingStopped id [] may rest a b
at_end id may rest a b (inl is) = FullSent (sym is)
at_end id may rest a b (inr is) = AllSent (sym (nil_from_length rest is))

-- writing stops only there
pub why_writing_stopped : (id : ℕ) (lost : Bool) (puts : List Wrote) (may : ℕ) (rest : List ℕ) (a b : LinkSeen) → IsPutting lost puts may rest → DidAll (map (did_write id) puts) a b → WhyWritingStopped id puts may rest a b
why_writing_stopped id lost [] may rest a b lawful follows = at_end id may rest a b (one_is_none may (length rest) lawful.0)
why_writing_stopped id lost (p ∷ puts) may rest a b lawful (Then _ _ _ m _ did more) = by_answer (λ k r h. why_writing_stopped id lost puts k r m b h more) p.answer refl lawful.1
  where
    by_answer : ((k : ℕ) (r : List ℕ) → IsPutting lost puts k r → WhyWritingStopped id puts k r m b) → (answer : LinkTook) → p.answer ≡ answer → MayPut answer may rest p.bytes (IsPutting lost puts) (puts ≡ []) lost → WhyWritingStopped id (p ∷ puts) may rest a b
    by_answer goes_on (took.Bytes n) is h =
        later id may n rest puts p a m b h.1 h.2 (subst (λ (g : LinkTook). Did (DidWrite id g p.bytes) a m) is did) (goes_on (may - n) (drop n rest) h.3)
    by_answer goes_on took.NotYet is h =
        let here : Did (DidWrite id took.NotYet p.bytes) a m = subst (λ (g : LinkTook). Did (DidWrite id g p.bytes) a m) is did in
        subst (λ (s : LinkSeen). WhyWritingStopped id (p ∷ puts) may rest a s) (ended puts id m b h.2 more) (WriteNotReady ((waits_of id took.NotYet p.bytes a m here).1))
    by_answer goes_on took.Failed is h =
        let here : Did (DidWrite id took.Failed p.bytes) a m = subst (λ (g : LinkTook). Did (DidWrite id g p.bytes) a m) is did in
        subst (λ (s : LinkSeen). WhyWritingStopped id (p ∷ puts) may rest a s) (ended puts id m b h.2 more) (WriteFaulty ((faults_of id took.Failed p.bytes a m here).1))
