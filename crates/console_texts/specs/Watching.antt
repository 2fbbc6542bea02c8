-- claim: the consoles' texts along a run of all users.
use Rattle.std.specs.Prelude.{◌≡◌, ℕ, Option, Some, None, List, [], ◌∷◌, map}
use Rattle.time_sharing.specs.Rows.{machine}
use Rattle.time_sharing.specs.System.{Entry, Refused}
use Rattle.time_sharing.specs.Record as whole
use Rattle.time_sharing.specs.Repeat.{repeat}
use Rattle.time_sharing.specs.Texts.{Watched, texts_after, next_watched, watched_to}
use Rattle.ctss_types.specs.declared.file.FileBody.{FileBody}
use Rattle.user_model.specs.Session.{user_rows}
use Rattle.user_model.specs.User.{User}
use Rattle.plan_model.specs.Plan.{Plan}
use Rattle.system_model.specs.Run.{world, Run, next}
use Rattle.console_texts.specs.Parts.{Transcripts}

-- the transcripts of a run's users
abbrev pub transcripts_of : List User → Transcripts
transcripts_of users = map (λ (p : User). p.transcript) users

-- a run with the texts that its consoles have shown
abbrev pub watch : Run → List (List ℕ) → Watched User Plan (List FileBody)
watch r texts = record { system = r.system; texts = texts }

-- the texts after one step
unfoldable pub texts_next : ℕ → Run → List (List ℕ) → List (List ℕ)
texts_next limit r texts = texts_after (machine user_rows) (world r) 1 r.system (next limit r).system texts

-- the texts after all steps below the limit
unfoldable pub texts_to : ℕ → Run → List (List ℕ) → List (List ℕ)
texts_to limit r texts = (watched_to (machine user_rows) (world r) limit (watch r texts)).texts

-- a run and its texts after some whole steps
unfoldable pub AfterShown : ℕ → (old new : Run) → (shown shows : List (List ℕ)) → Type 0
AfterShown limit old new shown shows =
    (n : ℕ) × (new ≡ record old { system = whole.iterate (machine user_rows) (world old) limit n old.system })
    × (shows ≡ (repeat (λ (y : Watched User Plan (List FileBody)). whole.clock_is_below (machine user_rows) (world old) limit y.system) (next_watched (machine user_rows) (world old) limit) n (watch old shown)).texts)

-- the console at which the last entry says that a login was refused, or 0
abbrev pub refused_by : List Entry → ℕ
refused_by [] = 0
refused_by (Refused tick console cause ∷ []) = console
refused_by (Refused tick console cause ∷ e ∷ es) = refused_by (e ∷ es)
refused_by (_ ∷ es) = refused_by es

-- the console of an entry that says so
abbrev pub refusal_in : Option Entry → ℕ
refusal_in None = 0
refusal_in (Some (Refused tick console cause)) = console
refusal_in (Some _) = 0
