-- Entries whose spans join: two parts of a schedule, and the sums over one.
use Rattle.std.proofs.Common.{◌≡◌, ℕ, ◌+◌, ◌*◌, List, [], ◌∷◌, ◌++◌, sym, subst, arith}
use Rattle.ctss_types.specs.declared.history.Entry.{Entry}
use Rattle.ctss_types.specs.declared.history.Entry.TheVariants.{Idle, Swap, Serve}
use Rattle.record_laws.specs.Spans.{spans, JoinFrom, served_in, swapping_in, idle_in}

pub joins-append : (swap a b c : ℕ) (es fs : List Entry) → JoinFrom a (spans swap es) b → JoinFrom b (spans swap fs) c
    → JoinFrom a (spans swap (es ++ fs)) c
joins-append swap a b c [] fs h k = subst (λ (x : ℕ). JoinFrom x (spans swap fs) c) (sym h) k
joins-append swap a b c (Serve tick user level ran cause ∷ es) fs h k =
    (h.0, joins-append swap (tick + ran) b c es fs h.1 k)
joins-append swap a b c (Swap tick user dumped read fresh ∷ es) fs h k =
    (h.0, joins-append swap (tick + swap * (dumped + read)) b c es fs h.1 k)
joins-append swap a b c (Idle from until ∷ es) fs h k = (h.0, joins-append swap until b c es fs h.1 k)
joins-append swap a b c (_ ∷ es) fs h k = joins-append swap a b c es fs h k

-- where spans join, their lengths add up
pub joined_sum : (swap a b : ℕ) (es : List Entry) → JoinFrom a (spans swap es) b
    → b ≡ a + (served_in es + (swapping_in swap es + idle_in es))
joined_sum swap a b [] h = omega (arith, h)
joined_sum swap a b (Serve tick user level ran cause ∷ es) h =
    omega (arith, h.0.here, joined_sum swap (tick + ran) b es h.1)
joined_sum swap a b (Swap tick user dumped read fresh ∷ es) h =
    omega (arith, h.0.here, joined_sum swap (tick + swap * (dumped + read)) b es h.1)
joined_sum swap a b (Idle from until ∷ es) h = omega (arith, h.0.here, h.0.forward, joined_sum swap until b es h.1)
joined_sum swap a b (_ ∷ es) h = joined_sum swap a b es h
