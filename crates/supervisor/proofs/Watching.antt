-- What the consoles have shown after steps of the code, as the definitions say over users joined with words.
use Rattle.std.proofs.Common.{◌≡◌, ℕ, zero, suc, ◌<◌, ◌≤◌, true, List, length, map, Option, Some, None, refl, sym, ◌∙◌, ap, subst}
use Rattle.std.specs.Option.{is_some}
use Rattle.std.proofs.Math.ListN.{get_or-map}
use Rattle.time_sharing.specs.Machine.{Item}
use Rattle.time_sharing.specs.System.{Timed}
use Rattle.user_model.specs.User.{User}
use Rattle.user_model.specs.Session.{nobody}
use Rattle.user_model.specs.Inner.{Stored}
use Rattle.system_model.specs.Run.{Run, next, due_of}
use Rattle.system_model.specs.Joined.{joined}
use Rattle.system_model.specs.Sound.{Sound}
use Rattle.system_model.proofs.JoinedLaws.{sound_joined}
use Rattle.console_texts.specs.Parts.{Shown, Transcripts, AreLengths, text_of}
use Rattle.console_texts.specs.Following.{AreShown, followed, settled_in}
use Rattle.console_texts.specs.Watching.{transcripts_of, texts_next, texts_to, AfterShown, refused_by}
use Rattle.console_texts.proofs.Watched.{shown_event, shown_rest, shown_served, texts_on, texts_done, shown_none, shown_on}
use Rattle.user_cores.specs.Backing.{Held}
use Rattle.supervisor.specs.Shows.{GoesOn, HasTexts, HasTextsPart, HasTextsShown}
use Rattle.supervisor.specs.Steps.{Does}
use Rattle.supervisor.proofs.Running.{joined_next, transcripts_same}

abbrev pub lengths_of : List User → List ℕ
lengths_of users = map (λ (u : User). length u.transcript) users

are_lengths : (users : List User) → AreLengths (lengths_of users) (transcripts_of users)
are_lengths users zero = refl
are_lengths users (suc n) = get_or-map (λ (u : User). length u.transcript) users n nobody ∙ ap (λ (is : List Item). length is) (sym (get_or-map (λ (u : User). u.transcript) users n nobody))

lengths_joined : (f : ℕ → Stored) (r : Run) → AreLengths (lengths_of r.system.users) (transcripts_of (joined f r).system.users)
unfolding joined
lengths_joined f r = subst (AreLengths (lengths_of r.system.users)) (transcripts_same 1 f r.system.users) (are_lengths r.system.users)

pub told_joined : (f : ℕ → Stored) (r : Run) (rows : List Shown) → AreShown r.system.consoles (transcripts_of r.system.users) rows → AreShown (joined f r).system.consoles (transcripts_of (joined f r).system.users) rows
unfolding joined
told_joined f r rows told = subst (λ (ts : Transcripts). AreShown r.system.consoles ts rows) (transcripts_same 1 f r.system.users) told

pub told_apart : (f : ℕ → Stored) (r : Run) (rows : List Shown) → AreShown (joined f r).system.consoles (transcripts_of (joined f r).system.users) rows → AreShown r.system.consoles (transcripts_of r.system.users) rows
unfolding joined
told_apart f r rows told = subst (λ (ts : Transcripts). AreShown r.system.consoles ts rows) (sym (transcripts_same 1 f r.system.users)) told

pub texts_same : (f : ℕ → Stored) (r : Run) (rows : List Shown) → map (text_of (transcripts_of r.system.users)) rows ≡ map (text_of (transcripts_of (joined f r).system.users)) rows
unfolding joined
texts_same f r rows = ap (λ (ts : Transcripts). map (text_of ts) rows) (transcripts_same 1 f r.system.users)

-- rows that are f of a run after a step
module _ (limit : ℕ) (old new : Run) (rows : List Shown) (f : Run → Shown → Shown) where
  -- what is known of such rows, of a run whose users have words
  abbrev pub Knows : Type 0
  Knows = (w : ℕ → Stored) (s : Run) → s ≡ next limit (joined w old) → AreLengths (lengths_of new.system.users) (transcripts_of s.system.users) →
      (texts_next limit (joined w old) (map (text_of (transcripts_of (joined w old).system.users)) rows) ≡ map (text_of (transcripts_of s.system.users)) (map (f s) rows))
      × AreShown s.system.consoles (transcripts_of s.system.users) (map (f s) rows)

  -- with words apart
  abbrev pub Same : Type 0
  Same = (w : ℕ → Stored) → map (f (joined w new)) rows ≡ map (f new) rows

  pub goes_by : Knows → Same → GoesOn limit old new (map (text_of (transcripts_of old.system.users)) rows) (map (text_of (transcripts_of new.system.users)) (map (f new) rows))
  goes_by knows same before after is =
      sym (ap (texts_next limit (joined before old)) (texts_same before old rows)
      ∙ (knows before (joined after new) is (lengths_joined after new)).0
      ∙ ap (map (text_of (transcripts_of (joined after new).system.users))) (same after)
      ∙ sym (texts_same after new (map (f new) rows)))

  pub told_by : (had has : Held) → Knows → Same → Does (next limit) old new had has → AreShown new.system.consoles (transcripts_of new.system.users) (map (f new) rows)
  told_by had has knows same d =
      told_apart d.after new (map (f new) rows)
      (subst (AreShown (joined d.after new).system.consoles (transcripts_of (joined d.after new).system.users)) (same d.after) (knows d.before (joined d.after new) d.is (lengths_joined d.after new)).1)

-- an event
abbrev pub event_rows : List ℕ → List ℕ → Run → Shown → Shown
event_rows before after s = followed s.system.consoles (refused_by s.system.entries) before after

pub event_knows : (limit : ℕ) (old new : Run) (rows : List Shown) (e : Timed) → due_of old.system.events old.system.clock ≡ Some e → Sound old
    → AreShown old.system.consoles (transcripts_of old.system.users) rows → Knows limit old new rows (event_rows (lengths_of old.system.users) (lengths_of new.system.users))
unfolding joined
event_knows limit old new rows e due sound told w s is lens = subst (P) (sym is) (λ (l : AreLengths (lengths_of new.system.users) (transcripts_of (next limit (joined w old)).system.users)).
    shown_event limit (joined w old) e (lengths_of old.system.users) (lengths_of new.system.users) rows due (sound_joined w old sound) (lengths_joined w old) l (told_joined w old rows told)) lens
  where
    P : Run → Type 0
    P s = AreLengths (lengths_of new.system.users) (transcripts_of s.system.users) →
        (texts_next limit (joined w old) (map (text_of (transcripts_of (joined w old).system.users)) rows) ≡ map (text_of (transcripts_of s.system.users)) (map (event_rows (lengths_of old.system.users) (lengths_of new.system.users) s) rows))
        × AreShown s.system.consoles (transcripts_of s.system.users) (map (event_rows (lengths_of old.system.users) (lengths_of new.system.users) s) rows)

pub event_same : (limit : ℕ) (old new : Run) (rows : List Shown) (before after : List ℕ) → Same limit old new rows (event_rows before after)
unfolding joined
event_same limit old new rows before after w = refl

-- any other step
abbrev pub rest_rows : List ℕ → Run → Shown → Shown
rest_rows after s = settled_in s.system.consoles after

pub rest_knows : (limit : ℕ) (old new : Run) (rows : List Shown) → due_of old.system.events old.system.clock ≡ None → Sound old
    → AreShown old.system.consoles (transcripts_of old.system.users) rows → Knows limit old new rows (rest_rows (lengths_of new.system.users))
unfolding joined
rest_knows limit old new rows quiet sound told w s is lens = subst P (sym is) (λ (l : AreLengths (lengths_of new.system.users) (transcripts_of (next limit (joined w old)).system.users)).
    shown_rest limit (joined w old) (lengths_of new.system.users) rows quiet (sound_joined w old sound) l (told_joined w old rows told)) lens
  where
    P : Run → Type 0
    P s = AreLengths (lengths_of new.system.users) (transcripts_of s.system.users) →
        (texts_next limit (joined w old) (map (text_of (transcripts_of (joined w old).system.users)) rows) ≡ map (text_of (transcripts_of s.system.users)) (map (rest_rows (lengths_of new.system.users) s) rows))
        × AreShown s.system.consoles (transcripts_of s.system.users) (map (rest_rows (lengths_of new.system.users) s) rows)

pub rest_same : (limit : ℕ) (old new : Run) (rows : List Shown) (after : List ℕ) → Same limit old new rows (rest_rows after)
unfolding joined
rest_same limit old new rows after w = refl

-- a step after which a service is open
pub served_goes : (limit : ℕ) (old new : Run) (rows : List Shown) → due_of old.system.events old.system.clock ≡ None → Sound old → is_some new.system.service ≡ true
    → AreShown old.system.consoles (transcripts_of old.system.users) rows → GoesOn limit old new (map (text_of (transcripts_of old.system.users)) rows) (map (text_of (transcripts_of new.system.users)) rows)
unfolding joined
served_goes limit old new rows quiet sound opened told before after is =
    let serves = ap (λ (r : Run). is_some r.system.service) (sym is) ∙ opened in
    let k = shown_served limit (joined before old) rows quiet (sound_joined before old sound) serves (told_joined before old rows told) in
    sym (ap (texts_next limit (joined before old)) (texts_same before old rows) ∙ k.0 ∙ ap (λ (s : Run). map (text_of (transcripts_of s.system.users)) rows) (sym is) ∙ sym (texts_same after new rows))

pub served_told : (limit : ℕ) (old new : Run) (had has : Held) (rows : List Shown) → due_of old.system.events old.system.clock ≡ None → Sound old → is_some new.system.service ≡ true
    → AreShown old.system.consoles (transcripts_of old.system.users) rows → Does (next limit) old new had has → AreShown new.system.consoles (transcripts_of new.system.users) rows
unfolding joined
served_told limit old new had has rows quiet sound opened told d =
    let serves = ap (λ (r : Run). is_some r.system.service) (sym d.is) ∙ opened in
    let k = shown_served limit (joined d.before old) rows quiet (sound_joined d.before old sound) serves (told_joined d.before old rows told) in
    told_apart d.after new rows (subst (λ (s : Run). AreShown s.system.consoles (transcripts_of s.system.users) rows) (sym d.is) k.1)

-- whole runs

abbrev pub TextsLead : ℕ → (start now : Run) → (first has : Held) → (told tells : List (List ℕ)) → Type 0
TextsLead limit start now first has told tells = first.tells ≡ true → texts_to limit (joined has.stores now) tells ≡ texts_to limit (joined first.stores start) told

pub texts_lead : (limit : ℕ) (start old new : Run) (first had has : Held) (x y z : List (List ℕ)) → had.tells ≡ first.tells → old.system.clock < limit → Does (next limit) old new had has
    → GoesOn limit old new y z → TextsLead limit start old first had x y → TextsLead limit start new first has x z
unfolding joined
texts_lead limit start old new first had has x y z tells up d goes lead = λ told.
    let is = joined_next limit old new had has d (tells ∙ told) in
    ap (λ (q : Run). texts_to limit q z) is ∙ ap (texts_to limit (next limit (joined had.stores old))) (goes had.stores has.stores is) ∙ texts_on limit (joined had.stores old) y up ∙ lead told

pub texts_part : (limit : ℕ) (start old new : Run) (first had has : Held) (x y z : List (List ℕ)) → had.tells ≡ first.tells → old.system.clock < limit → Does (next limit) old new had has
    → GoesOn limit old new y z → HasTextsPart limit start old first had x y → HasTextsPart limit start new first has x z
unfolding joined
texts_part limit start old new first had has x y z tells up d goes part = λ told.
    let is = joined_next limit old new had has d (tells ∙ told) in
    subst (AfterShown limit (joined first.stores start) (joined has.stores new) x) (sym (goes had.stores has.stores is))
    (subst (λ (q : Run). AfterShown limit (joined first.stores start) q x (texts_next limit (joined had.stores old) y)) (sym is) (shown_on limit (joined first.stores start) (joined had.stores old) x y (part told) up))

pub texts_none : (limit : ℕ) (start : Run) (first : Held) (x : List (List ℕ)) → HasTextsPart limit start start first first x x
texts_none limit start first x = λ told. shown_none limit (joined first.stores start) x

pub texts_end : (limit : ℕ) (start now : Run) (first has : Held) (x y : List (List ℕ)) → limit ≤ now.system.clock → TextsLead limit start now first has x y → HasTexts limit start first x y
unfolding joined
texts_end limit start now first has x y up lead = λ told. sym (texts_done limit (joined has.stores now) y up) ∙ lead told

pub texts_stop : (limit : ℕ) (start old new : Run) (first had : Held) (x y z : List (List ℕ)) → HasTextsPart limit start old first had x y → z ≡ y
    → new.system.entries ≡ old.system.entries → new.system.users ≡ old.system.users → new.system.clock ≡ old.system.clock → HasTextsShown limit start new first x z
unfolding joined
texts_stop limit start old new first had x y z part same entries users clock = λ told. (
  joined had.stores old,
  subst (AfterShown limit (joined first.stores start) (joined had.stores old) x) (sym same) (part told),
  record {
    entries = entries;
    transcripts = ap (λ (ps : List User). map (λ (p : User). p.transcript) ps) users ∙ transcripts_same 1 had.stores old.system.users;
    clock = clock;
  },
)

pub some_due : (o : Option Timed) → is_some o ≡ true → (e : Timed) × (o ≡ Some e)
some_due None h = cc
some_due (Some e) h = (e, refl)
