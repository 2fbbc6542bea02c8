-- Places join as ticks do.
use Rattle.std.proofs.Common.{◌≡◌, ℕ, ◌+◌, ◌-◌, ◌*◌, ◌≤◌, List, [], ◌∷◌, refl, ap, ◌∙◌, subst, arith}
use Rattle.ctss_types.specs.declared.history.Entry.{Entry}
use Rattle.ctss_types.specs.declared.history.Entry.TheVariants.{Taken, Idle, Swap, Serve, Common}
use Rattle.system_model.specs.Record.{record_of}
use Rattle.record_laws.specs.Spans.{Span, spans, JoinFrom}
use Rattle.record_laws.proofs.Loaded.{ticks_join}
use Rattle.picture_model.specs.Folds.{all_cut, place_spans, PlacesJoin}

-- the same spans between equal ends
moved : (a b c d : ℕ) (xs : List Span) → a ≡ b → c ≡ d → JoinFrom a xs c → JoinFrom b xs d
moved a b c d xs first last h = subst (λ (n : ℕ). JoinFrom n xs d) first (subst (λ (n : ℕ). JoinFrom a xs n) last h)

-- behind an entry that covers nothing
passed : (swap : ℕ) (es : List Entry) (now last cut : ℕ) → JoinFrom (now - cut) (place_spans swap cut es) (last - (cut + all_cut es))
    → JoinFrom (now - cut) (place_spans swap cut es) (last - (cut + (0 + all_cut es)))
passed swap es now last cut h =
    moved (now - cut) (now - cut) (last - (cut + all_cut es)) (last - (cut + (0 + all_cut es))) (place_spans swap cut es) refl (omega arith) h

-- behind so many ticks from here on, of which none is cut out
covered : (swap : ℕ) (es : List Entry) (tick ticks last cut : ℕ) → cut ≤ tick
    → JoinFrom (tick + ticks - cut) (place_spans swap cut es) (last - (cut + all_cut es))
    → JoinFrom (tick - cut + ticks) (place_spans swap cut es) (last - (cut + (0 + all_cut es)))
covered swap es tick ticks last cut within h =
    moved (tick + ticks - cut) (tick - cut + ticks) (last - (cut + all_cut es)) (last - (cut + (0 + all_cut es))) (place_spans swap cut es)
    (omega (arith, within)) (omega arith) h

-- Where spans join from a tick on, their places join from its place on.
joined : (swap : ℕ) (es : List Entry) (now last cut : ℕ) → cut ≤ now → JoinFrom now (spans swap es) last
    → JoinFrom (now - cut) (place_spans swap cut es) (last - (cut + all_cut es))
joined swap [] now last cut within h = ap (λ (n : ℕ). n - cut) h ∙ omega arith
joined swap (Serve tick user level ran cause ∷ es) now last cut within h =
    let from : tick ≡ now = h.0.here in (
      record { here = ap (λ (n : ℕ). n - cut) from; forward = omega arith },
      covered swap es tick ran last cut (omega (arith, within, from)) (joined swap es (tick + ran) last cut (omega (arith, within, from)) h.1),
    )
joined swap (Swap tick user dumped read fresh ∷ es) now last cut within h =
    let from : tick ≡ now = h.0.here in (
      record { here = ap (λ (n : ℕ). n - cut) from; forward = omega arith },
      covered swap es tick (swap * (dumped + read)) last cut (omega (arith, within, from))
          (joined swap es (tick + swap * (dumped + read)) last cut (omega (arith, within, from)) h.1),
    )
joined swap (Idle from until ∷ es) now last cut within h =
    let here : from ≡ now = h.0.here in
    let forward : from ≤ until = h.0.forward in (
      record { here = ap (λ (n : ℕ). n - cut) here; forward = omega arith },
      moved (until - (cut + (until - from - 52))) (from - cut + (until - from - (until - from - 52)))
          (last - (cut + (until - from - 52) + all_cut es)) (last - (cut + (until - from - 52 + all_cut es)))
          (place_spans swap (cut + (until - from - 52)) es)
          (omega (arith, within, here, forward)) (omega arith)
          (joined swap es until last (cut + (until - from - 52)) (omega (arith, within, here, forward)) h.1),
    )
joined swap (Taken tick console kind user own ∷ es) now last cut within h = passed swap es now last cut (joined swap es now last cut within h)
joined swap (Common user op reply ∷ es) now last cut within h = passed swap es now last cut (joined swap es now last cut within h)
joined swap (_ ∷ es) now last cut within h = passed swap es now last cut (joined swap es now last cut within h)

pub places_join : PlacesJoin
places_join script =
    let rec = record_of script in
    moved (0 - 0) 0 (rec.clock - (0 + all_cut rec.entries)) (rec.clock - all_cut rec.entries)
    (place_spans script.params.swap 0 rec.entries) (omega arith) (omega arith)
    (joined script.params.swap rec.entries 0 rec.clock 0 (omega arith) (ticks_join script).0)
