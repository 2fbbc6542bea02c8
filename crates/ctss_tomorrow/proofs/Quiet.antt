-- A script without events is a base script: each card of an event adds one, and no card takes any away.
use Rattle.std.proofs.Common.{◌≡◌, ℕ, suc, ◌<◌, ◌≤◌, Bool, true, false, not, ◌&&◌, nat_lt, nat_le, List, [], ◌∷◌, length, codes}
use Rattle.std.proofs.Common.{◌++◌, Option, Some, None, Ok, Err, cond, refl, sym, ap, subst, arith}
use Rattle.std.specs.Prelude.{bytes_eq}
use Rattle.std.specs.declared.result.Result.{Result}
use Rattle.std.specs.Option.{is_some}
use Rattle.std.specs.Str.Lines.{lines}
use Rattle.std.proofs.lemmas.Bool.{and_parts, not-true}
use Rattle.std.proofs.lemmas.List.{length_push}
use Rattle.std.proofs.lemmas.Slice.Eq.{bytes_eq-Decides}
use Rattle.ctss_types.specs.Words.{word_in, behind_word}
use Rattle.ctss_types.specs.declared.script.Script.{Script}
use Rattle.ctss_types.specs.declared.script.Params.{Params}
use Rattle.ctss_types.specs.declared.file.OwnedFile.{OwnedFile}
use Rattle.program_model.specs.Lines.{words_of_line}
use Rattle.text_model.specs.declared.cause.ScriptCause.{ScriptCause}
use Rattle.text_model.specs.declared.cause.ScriptCause.TheVariants.{NotACard, TimeFalls, UnknownNumber, OverLimit, DrumSmall, DiskSmall, NoEnd, TooLong}
use Rattle.text_model.specs.declared.cause.ScriptRefusal.{ScriptRefusal}
use Rattle.text_model.specs.declared.card.UserCard.{UserCard}
use Rattle.text_model.specs.declared.card.FileCard.{FileCard}
use Rattle.text_model.specs.declared.card.EventCard.{EventCard}
use Rattle.text_model.specs.declared.card.CardText.{CardText}
use Rattle.text_model.specs.declared.card.CardText.TheVariants as card_text
use Rattle.text_model.specs.declared.card.CardEvent.{CardEvent}
use Rattle.text_model.specs.declared.card.CardEvent.TheVariants as card_event
use Rattle.text_model.specs.Fields.{is_within, text_behind}
use Rattle.text_model.specs.Cards.{param_card_in, user_card_in, file_card_in, words_card_in, event_card_in, end_card_in}
use Rattle.text_model.specs.Drafts.{Draft, empty_draft, all_files, max_tick, with_params, with_account, with_last, empty_file, with_file, longer, with_words_of, with_words, with_text, with_event_at, with_event, with_end, by_form, more_entered, entered_by, entered, is_comment, is_indented}
use Rattle.text_model.specs.Reading.{script_by, script_from, script_of, max_bytes}
use Rattle.script_read.specs.Bases.{is_event_card, cards_from, base_of}
use Rattle.ctss_tomorrow.specs.Laws.{QuietScriptsAreBases}

-- a draft has at least the events of another, if there is one
abbrev HasThese : Draft → Result Draft ScriptCause → Type 0
HasThese d (Ok e) = length d.events ≤ length e.events
HasThese d (Err cause) = Unit {0}

-- a card takes no events away, if it is taken
record Grows (d : Draft) (said : Result Draft ScriptCause) : Type 0 where
  taken : HasThese d said

-- a refusal leaves no draft
refused : (d : Draft) (cause : ScriptCause) → Grows d (Err cause)
refused d cause = record { taken = tt }

-- a card leaves the events as they are
same_events : (d e : Draft) → e.events ≡ d.events → Grows d (Ok e)
same_events d e same = record { taken = omega (arith, ap length same) }

-- a card adds events, if it is taken
abbrev Gains : Draft → Result Draft ScriptCause → Type 0
Gains d (Ok e) = length d.events < length e.events
Gains d (Err cause) = Unit {0}

-- a test refuses, or not
unless : (d : Draft) (b : Bool) (cause : ScriptCause) (said : Result Draft ScriptCause) → Grows d said
    → Grows d (cond b (Err cause) said)
unless d true cause said h = refused d cause
unless d false cause said h = h

-- one of two
either_way : (d : Draft) (b : Bool) (x y : Result Draft ScriptCause) → Grows d x → Grows d y → Grows d (cond b x y)
either_way d true x y one other = one
either_way d false x y one other = other

-- what has no form adds nothing
formed : {C : Type 0} (d : Draft) (f : C → Result Draft ScriptCause) (o : Option C) → ((c : C) → Grows d (f c))
    → Grows d (by_form f o)
formed d f None h = refused d NotACard
formed d f (Some c) h = h c

-- each kind of card

-- PARAM adds no event
params_grow : (d : Draft) (p : Params) → Grows d (with_params d p)
params_grow d p = unless d _ OverLimit _ (unless d _ DiskSmall _ (same_events d _ refl))

-- USER adds none
account_grows : (d : Draft) (p : Params) (c : UserCard) → Grows d (with_account d p c)
account_grows d p c =
    unless d _ NotACard _ (unless d _ OverLimit _ (unless d _ UnknownNumber _
    (unless d _ DrumSmall _ (unless d _ DiskSmall _ (same_events d _ refl)))))

-- a last file adds none
last_grows : (d : Draft) (files : List OwnedFile) (f : OwnedFile) → Grows d (with_last d files f)
last_grows d files f = unless d _ OverLimit _ (same_events d _ refl)

-- FILE adds none
file_grows : (d : Draft) (c : FileCard) → Grows d (with_file d c)
file_grows d c =
    unless d _ NotACard _ (unless d _ OverLimit _ (unless d _ UnknownNumber _
    (last_grows d (all_files d) (empty_file c))))

-- words behind a file add none
words_grow_of : (file : Option OwnedFile) (d : Draft) (ws : List ℕ) → Grows d (with_words_of file d ws)
words_grow_of None d ws = refused d NotACard
words_grow_of (Some f) d ws = either_way d _ _ _ (last_grows d d.files (longer ws f)) (refused d NotACard)

-- O adds none
words_grow : (d : Draft) (ws : List ℕ) → Grows d (with_words d ws)
words_grow d ws = words_grow_of d.file d ws

-- T adds none
text_grows : (d : Draft) (t : CardText) → Grows d (with_text d t)
text_grows d (card_text.Fits l) = words_grow d (words_of_line 14 l)
text_grows d card_text.TooLong = either_way d _ _ _ (refused d OverLimit) (refused d NotACard)

-- END adds none
end_grows : (d : Draft) (tick : ℕ) → Grows d (with_end d tick)
end_grows d tick = unless d _ OverLimit _ (unless d _ TimeFalls _ (same_events d _ refl))

-- an event of a tick and a console is added
event_gains_at : (d : Draft) (tick console : ℕ) (x : CardEvent) → Gains d (with_event_at d tick console x)
event_gains_at d tick console card_event.TooLong = tt
event_gains_at d tick console (card_event.Fits e) =
    by_tests (not (nat_le tick max_tick && is_within 1 32 console)) (nat_lt tick d.tick)
  where
    more : Draft
    more = record d { events = d.events ++ record { tick = tick; console = console; event = e } ∷ []; tick = tick }

    by_tests : (over falls : Bool) → Gains d (cond over (Err OverLimit) (cond falls (Err TimeFalls) (Ok more)))
    by_tests true falls = tt
    by_tests false true = tt
    by_tests false false = omega (arith, length_push d.events (record { tick = tick; console = console; event = e }))

-- AT adds one
event_gains : (d : Draft) (c : EventCard) → Gains d (with_event d c)
event_gains d c = event_gains_at d c.tick c.console c.event

-- what adds takes none away
gained_grows : (d : Draft) (said : Result Draft ScriptCause) → Gains d said → Grows d said
gained_grows d (Ok e) h = record { taken = omega arith }
gained_grows d (Err cause) h = refused d cause

-- any card

-- a card behind PARAM
more_grows : (d : Draft) (p : Params) (word text : List ℕ) → Grows d (more_entered d p word text)
more_grows d p word text =
    either_way d _ _ _ (formed d (with_account d p) (user_card_in text) (account_grows d p))
    (either_way d _ _ _ (formed d (with_file d) (file_card_in text) (file_grows d))
    (either_way d _ _ _ (formed d (with_words d) (words_card_in text) (words_grow d))
    (either_way d _ _ _ (formed d (with_text d) (text_behind text) (text_grows d))
    (either_way d _ _ _
    (formed d (with_event d) (event_card_in text) (λ c. gained_grows d (with_event d c) (event_gains d c)))
    (either_way d _ _ _ (formed d (with_end d) (end_card_in text) (end_grows d)) (refused d NotACard))))))

-- a card by its first word
by_params_grow : (params : Option Params) (d : Draft) (word text : List ℕ) → Grows d (entered_by params d word text)
by_params_grow None d word text =
    either_way d _ _ _ (formed d (with_params d) (param_card_in text) (params_grow d)) (refused d NotACard)
by_params_grow (Some p) d word text = more_grows d p word text

-- no card takes events away
card_grows : (d : Draft) (card : List ℕ) → Grows d (entered d card)
card_grows d card =
    either_way d _ _ _ (same_events d d refl)
    (unless d _ NoEnd _ (unless d _ NotACard _ (by_params_grow d.params d (word_in card) (behind_word card))))

-- a card of an event

-- what has no form adds nothing
formed_gains : {C : Type 0} (d : Draft) (f : C → Result Draft ScriptCause) (o : Option C) → ((c : C) → Gains d (f c))
    → Gains d (by_form f o)
formed_gains d f None h = tt
formed_gains d f (Some c) h = h c

-- a card whose first word is AT
at_gains : (params : Option Params) (d : Draft) (text : List ℕ) → Gains d (entered_by params d (codes "AT") text)
at_gains None d text = tt
at_gains (Some p) d text = formed_gains d (with_event d) (event_card_in text) (event_gains d)

-- a card of an event adds one, if it is taken
event_card_gains : (d : Draft) (card : List ℕ) → is_event_card card ≡ true → Gains d (entered d card)
event_card_gains d card h =
    let first = and_parts (not (is_comment card)) (not (is_indented card) && bytes_eq (word_in card) (codes "AT")) h in
    let second = and_parts (not (is_indented card)) (bytes_eq (word_in card) (codes "AT")) first.1 in
    let word : word_in card ≡ codes "AT" = (bytes_eq-Decides (word_in card) (codes "AT")).0 second.1 in
    by_tests (is_comment card) (is_some d.end) (is_indented card) (not-true _ first.0) (not-true _ second.0)
    (subst (λ (w : List ℕ). Gains d (entered_by d.params d w (behind_word card))) (sym word)
    (at_gains d.params d (behind_word card)))
  where
    by_tests : (comment ended indented : Bool) → comment ≡ false → indented ≡ false
        → Gains d (entered_by d.params d (word_in card) (behind_word card))
        → Gains d (cond comment (Ok d) (cond ended (Err NoEnd) (cond indented (Err NotACard)
        (entered_by d.params d (word_in card) (behind_word card)))))
    by_tests true ended indented no_comment dense made = cc
    by_tests false true indented no_comment dense made = tt
    by_tests false false true no_comment dense made = cc
    by_tests false false false no_comment dense made = made

-- cards one after another

-- the script of the cards behind one, by what it gave
abbrev behind : Result Draft ScriptCause → ℕ → List (List ℕ) → Result Script ScriptRefusal
behind said k cards =
    elim said [ Ok e ↦ script_from (suc k) e cards | Err cause ↦ Err (record { card = k; cause = cause }) ]

-- and of a base
abbrev base_behind : Result Draft ScriptCause → ℕ → List (List ℕ) → Result Script ScriptRefusal
base_behind said k cards =
    elim said [ Ok e ↦ cards_from true (suc k) e cards | Err cause ↦ Err (record { card = k; cause = cause }) ]

-- a script has at least the events of its draft
script_has : (k : ℕ) (d : Draft) (cards : List (List ℕ)) (s : Script) → script_from k d cards ≡ Ok s
    → length d.events ≤ length s.events
script_has k d [] s h = by_parts d.params d.end h
  where
    by_parts : (params : Option Params) (end : Option ℕ) → script_by params end k d ≡ Ok s
        → length d.events ≤ length s.events
    by_parts None end e = cc
    by_parts (Some p) None e = cc
    by_parts (Some p) (Some end) e =
        let made : Script =
        record { params = p; accounts = d.accounts; files = all_files d; events = d.events; end = end } in
        let same : made ≡ s = cc in
        let events : d.events ≡ s.events = ap (λ (x : Script). x.events) same in
        omega (arith, ap length events)
script_has k d (card ∷ cards) s h =
    by_card (λ e. script_has (suc k) e cards s) (entered d card) (card_grows d card) h
  where
    by_card : ((e : Draft) → script_from (suc k) e cards ≡ Ok s → length e.events ≤ length s.events)
        → (said : Result Draft ScriptCause) → Grows d said → behind said k cards ≡ Ok s
        → length d.events ≤ length s.events
    by_card rest (Ok e) grows is = omega (arith, rest e is, grows.taken)
    by_card rest (Err cause) grows is = cc

-- cards that make a script without events make it as a base
quiet_cards : (k : ℕ) (d : Draft) (cards : List (List ℕ)) (s : Script) → s.events ≡ [] → script_from k d cards ≡ Ok s
    → cards_from true k d cards ≡ Ok s
quiet_cards k d [] s none h = h
quiet_cards k d (card ∷ cards) s none h =
    by_test (λ e. quiet_cards (suc k) e cards s none) (not (is_some d.end) && is_event_card card) (entered d card)
    (λ t. event_card_gains d card (and_parts (not (is_some d.end)) (is_event_card card) t).1) h
  where
    by_card : ((e : Draft) → script_from (suc k) e cards ≡ Ok s → cards_from true (suc k) e cards ≡ Ok s)
        → (said : Result Draft ScriptCause) → behind said k cards ≡ Ok s → base_behind said k cards ≡ Ok s
    by_card rest (Ok e) is = rest e is
    by_card rest (Err cause) is = cc

    -- a card of an event can't have been taken
    not_taken : (said : Result Draft ScriptCause) → Gains d said → behind said k cards ≡ Ok s → ⊥
    not_taken (Ok e) gains is =
        let none_left : length s.events ≡ 0 = ap length none in omega (arith, script_has (suc k) e cards s is)
    not_taken (Err cause) gains is = cc

    by_test : ((e : Draft) → script_from (suc k) e cards ≡ Ok s → cards_from true (suc k) e cards ≡ Ok s)
        → (b : Bool) (said : Result Draft ScriptCause) → (b ≡ true → Gains d said) → behind said k cards ≡ Ok s
        → base_behind (cond b (Err NotACard) said) k cards ≡ Ok s
    by_test rest true said gains is = absurd (not_taken said (gains refl) is)
    by_test rest false said gains is = by_card rest said is

-- bytes that read as a script without events
pub quiet_scripts_are_bases : QuietScriptsAreBases
unfolding base_of script_of
quiet_scripts_are_bases bytes s h none = by_size (nat_le (length bytes) max_bytes) h
  where
    by_size : (b : Bool)
        → (cond b (script_from 1 empty_draft (lines bytes)) (Err (record { card = 0; cause = TooLong }))) ≡ Ok s
        → (cond b (cards_from true 1 empty_draft (lines bytes)) (Err (record { card = 0; cause = TooLong }))) ≡ Ok s
    by_size true e = quiet_cards 1 empty_draft (lines bytes) s none e
    by_size false e = absurd (cc)
