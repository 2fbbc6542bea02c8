-- Why reading a connection stops.
use Rattle.std.specs.Prelude.{Bool, true, false, nat_eq, length, map}
use Rattle.std.proofs.Common.{◌≡◌, ℕ, ◌+◌, ◌-◌, ◌≤◌, List, [], ◌∷◌, refl, sym, ◌∙◌, ap, subst, arith, length-append}
use Rattle.std.proofs.lemmas.Bool.Decides.{nat_tests}
use Rattle.console_link.specs.declared.link.LinkGot.{LinkGot}
use Rattle.console_link.specs.declared.link.LinkGot.TheVariants as got
use Rattle.faults.proofs.Rises.{rose_later}
use Rattle.console_link.specs.Links.{LinkSeen, Did, DidRead, Rises, is_failed, not_yet}
use Rattle.console_server.specs.Readings.{Gave, bytes_of, did_read, DidAll, Nothing, Then, MayStop, IsReading}
use Rattle.serve_laws.specs.Stops.{WhyStopped, Full, NotReady, Faulty, IsOver}

pub same_number : (n : ℕ) → nat_eq n n ≡ true
same_number n = grind (arith, nat_tests)

pub rises : (must : Bool) (old new : ℕ) → Rises true must old new → old ≤ new
rises true old new h = h.0
rises false old new h = h

-- a read on a connection: its counts of faults and of reads that were not ready
faults_of : (id : ℕ) (answer : LinkGot) (bytes : List ℕ) (a b : LinkSeen) → Did (DidRead id answer bytes) a b → Rises true (is_failed (DidRead id answer bytes)) (a.counts id).faults (b.counts id).faults
faults_of id answer bytes a b did = subst (λ (t : Bool). Rises t (is_failed (DidRead id answer bytes)) (a.counts id).faults (b.counts id).faults) (same_number id) ((did.counts id).faults)

waits_of : (id : ℕ) (answer : LinkGot) (bytes : List ℕ) (a b : LinkSeen) → Did (DidRead id answer bytes) a b → Rises true (not_yet (DidRead id answer bytes)) (a.counts id).read_waits (b.counts id).read_waits
waits_of id answer bytes a b did = subst (λ (t : Bool). Rises t (not_yet (DidRead id answer bytes)) (a.counts id).read_waits (b.counts id).read_waits) (same_number id) ((did.counts id).read_waits)

-- what came of a read, and then of more
later : (id n k : ℕ) (bytes : List ℕ) (reads : List Gave) (r : Gave) (a b c : LinkSeen) → k ≤ n → length bytes ≡ k → r.bytes ≡ bytes → Did (DidRead id (got.Bytes k) bytes) a b → WhyStopped id reads (n - k) b c → WhyStopped id (r ∷ reads) n a c
later id n k bytes reads r a b c le len is did (Full all) = Full (length-append r.bytes (bytes_of reads) ∙ total)
  where
    total : length r.bytes + length (bytes_of reads) ≡ n
    total = omega (arith, all, len, ap length is, le)
later id n k bytes reads r a b c le len is did (NotReady rose) = NotReady (rose_later _ _ _ (rises false _ _ (waits_of id (got.Bytes k) bytes a b did)) rose)
later id n k bytes reads r a b c le len is did (Faulty rose) = Faulty (rose_later _ _ _ (rises false _ _ (faults_of id (got.Bytes k) bytes a b did)) rose)
later id n k bytes reads r a b c le len is did (IsOver over) = IsOver (λ tells. over (did.tells ∙ tells))

ended : (reads : List Gave) (id : ℕ) (b c : LinkSeen) → reads ≡ [] → DidAll (map (did_read id) reads) b c → b ≡ c
ended [] id b c is (Nothing _) = refl
ended (r ∷ reads) id b c is more = absurd (subst IsCons is tt)
  where
    IsCons : List Gave → Type 0
    IsCons [] = ⊥
    IsCons (x ∷ xs) = Unit {0}

-- reading stops only there
pub why_stopped : (id : ℕ) (over : Bool) (reads : List Gave) (n : ℕ) (a b : LinkSeen) → IsReading over reads n → DidAll (map (did_read id) reads) a b → WhyStopped id reads n a b
why_stopped id over [] n a b lawful follows = Full (sym lawful.0)
why_stopped id over (r ∷ reads) n a b lawful (Then _ _ _ m _ did rest) = by_answer (λ k h. why_stopped id over reads k m b h rest) r.answer refl lawful.1
  where
    by_answer : ((k : ℕ) → IsReading over reads k → WhyStopped id reads k m b) → (answer : LinkGot) → r.answer ≡ answer → MayStop answer n r.bytes (IsReading over reads) (reads ≡ []) over → WhyStopped id (r ∷ reads) n a b
    by_answer more (got.Bytes k) is h =
        later id n k r.bytes reads r a m b h.1 h.2 refl (subst (λ (g : LinkGot). Did (DidRead id g r.bytes) a m) is did) (more (n - k) h.3)
    by_answer more got.NotYet is h =
        let here : Did (DidRead id got.NotYet r.bytes) a m = subst (λ (g : LinkGot). Did (DidRead id g r.bytes) a m) is did in
        subst (λ (s : LinkSeen). WhyStopped id (r ∷ reads) n a s) (ended reads id m b h.2 rest) (NotReady ((waits_of id got.NotYet r.bytes a m here).1))
    by_answer more got.Failed is h =
        let here : Did (DidRead id got.Failed r.bytes) a m = subst (λ (g : LinkGot). Did (DidRead id g r.bytes) a m) is did in
        subst (λ (s : LinkSeen). WhyStopped id (r ∷ reads) n a s) (ended reads id m b h.2 rest) (Faulty ((faults_of id got.Failed r.bytes a m here).1))
    by_answer more got.End is h =
        let here : Did (DidRead id got.End r.bytes) a m = subst (λ (g : LinkGot). Did (DidRead id g r.bytes) a m) is did in
        subst (λ (s : LinkSeen). WhyStopped id (r ∷ reads) n a s) (ended reads id m b h.2 rest) (IsOver (λ tells. (here.bytes tells).ended))
