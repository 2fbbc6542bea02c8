-- Whose counts a call moves.
use Rattle.std.specs.Prelude.{Bool, true, false, nat_eq, if◌then◌else◌, Option, Some, None}
use Rattle.std.proofs.Common.{◌≡◌, ℕ, suc, ◌≤◌, [], ◌∷◌, ◌++◌, refl, ◌∙◌, ap, arith}
use Rattle.console_link.specs.Links.{LinkSeen, Passed, Counts, Done, Did, DidOpen, DidAccept, DidRead, DidWrite, DidClose, DidWait, Rises, is_at, names, accepts, reads_at, writes_at, is_failed, not_yet, passed_after, if_new, new_of, nothing_passed}
use Rattle.console_server.specs.Readings.{Nothing, Then}
use Rattle.console_server.proofs.DeskLaws.{false_is}
use Rattle.serve_laws.specs.ConsoleLaws.{is_on, OthersLeaveIt, AtMost, CountsNeverFall}

-- a count that may not rise, or may
kept : (may must : Bool) (old new : ℕ) → may ≡ false → Rises may must old new → new ≡ old
kept true must old new is h = false_is is
kept false must old new is h = h

at_most : (may must : Bool) (old new : ℕ) → Rises may must old new → old ≤ new
at_most false must old new h = omega (arith, h)
at_most true false old new h = h
at_most true true old new h = h.0

-- the two tests of a call on a number
not_named : (s t : Bool) → (if s then true else t) ≡ false → s ≡ false
not_named true t is = false_is is
not_named false t is = refl

no_read : (k : ℕ) (d : Done) → is_at (names d) k ≡ false → reads_at d k ≡ false
no_read k (DidOpen port failed) is = refl
no_read k (DidAccept answer) is = refl
no_read k (DidRead id answer bytes) is = is
no_read k (DidWrite id answer bytes) is = refl
no_read k (DidClose id) is = refl
no_read k (DidWait millis failed) is = refl

no_write : (k : ℕ) (d : Done) → is_at (names d) k ≡ false → writes_at d k ≡ false
no_write k (DidOpen port failed) is = refl
no_write k (DidAccept answer) is = refl
no_write k (DidRead id answer bytes) is = refl
no_write k (DidWrite id answer bytes) is = is
no_write k (DidClose id) is = refl
no_write k (DidWait millis failed) is = refl

counts_kept : (k : ℕ) (d : Done) (a b : LinkSeen) → Did d a b → is_on k d ≡ false → b.counts k ≡ a.counts k
counts_kept k d a b did is =
    let off = not_named (is_at (names d) k) (is_at (accepts d) k) is in
    let c = did.counts k in
    let faults = kept _ (is_failed d) (a.counts k).faults (b.counts k).faults off c.faults in
    let read_waits = kept _ (not_yet d) (a.counts k).read_waits (b.counts k).read_waits (no_read k d off) c.read_waits in
    let write_waits = kept _ (not_yet d) (a.counts k).write_waits (b.counts k).write_waits (no_write k d off) c.write_waits in
    λ i. record { faults = faults i; read_waits = read_waits i; write_waits = write_waits i }

not_new : (k : ℕ) (console : Option ℕ) (p : Passed) → is_at console k ≡ false → if_new console k nothing_passed p ≡ p
not_new k None p is = refl
not_new k (Some id) p is = ap (λ (t : Bool). if t then nothing_passed else p) is

pub passed_kept : (k : ℕ) (d : Done) (p : Passed) → is_on k d ≡ false → passed_after d k p ≡ p
passed_kept k (DidOpen port failed) p is = refl
passed_kept k (DidAccept answer) p is = not_new k (new_of answer) p is
passed_kept k (DidRead id answer bytes) p is = ap (λ (t : Bool). if t then record p { taken = p.taken ++ bytes } else p) (not_named (nat_eq k id) false is)
passed_kept k (DidWrite id answer bytes) p is = ap (λ (t : Bool). if t then record p { sent = p.sent ++ bytes } else p) (not_named (nat_eq k id) false is)
passed_kept k (DidClose id) p is = refl
passed_kept k (DidWait millis failed) p is = refl

pub others_leave_it : OthersLeaveIt
others_leave_it k [] a b (Nothing _) all = record { counts = refl; passed = λ tells. refl }
others_leave_it k (d ∷ ds) a b (Then _ _ _ m _ did rest) all =
    let one = all 0 d (omega arith) in
    let more = others_leave_it k ds m b rest (λ n e lt. all (suc n) e (omega (arith, lt))) in
    record { counts = more.counts ∙ counts_kept k d a m did one; passed = λ tells. more.passed (did.tells ∙ tells) ∙ (did.bytes tells).passed k ∙ passed_kept k d (a.passed k) one }

one_call : (k : ℕ) (d : Done) (a b : LinkSeen) → Did d a b → AtMost (a.counts k) (b.counts k)
one_call k d a b did = record { faults = at_most _ _ _ _ (did.counts k).faults; read_waits = at_most _ _ _ _ (did.counts k).read_waits; write_waits = at_most _ _ _ _ (did.counts k).write_waits }

both : (a b c : Counts) → AtMost a b → AtMost b c → AtMost a c
both a b c h k = record { faults = omega (arith, h.faults, k.faults); read_waits = omega (arith, h.read_waits, k.read_waits); write_waits = omega (arith, h.write_waits, k.write_waits) }

none_falls : (c : Counts) → AtMost c c
none_falls c = record { faults = omega arith; read_waits = omega arith; write_waits = omega arith }

pub counts_never_fall : CountsNeverFall
counts_never_fall k [] a b (Nothing _) = none_falls (a.counts k)
counts_never_fall k (d ∷ ds) a b (Then _ _ _ m _ did rest) = both _ _ _ (one_call k d a m did) (counts_never_fall k ds m b rest)
