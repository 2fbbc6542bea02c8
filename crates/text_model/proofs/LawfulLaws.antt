-- Every script that is read is lawful.
use Rattle.std.proofs.Common.{◌≡◌, ℕ, ◌+◌, ◌-◌, ◌<◌, ◌≤◌, ◌^◌, Bool, true, false, not, ◌&&◌, nat_eq, nat_le, nat_lt, List, [], ◌∷◌, ◌++◌, length, map, sum, Option, Some, None, Ok, codes, refl, sym, ap, subst, ◌∙◌, arith}
use Rattle.std.specs.List.{All, list_any}
use Rattle.std.specs.List.Sorted.{IsNonDecreasing}
use Rattle.std.specs.Option.{is_some, option_map}
use Rattle.std.specs.Prelude.{option_to_list, bytes_eq}
use Rattle.std.proofs.lemmas.Bool.{and_parts, and_from, or_parts, or_from, not-true, not_from_false}
use Rattle.std.proofs.lemmas.Bool.Decides.{nat_tests}
use Rattle.std.proofs.lemmas.List.{map-append}
use Rattle.std.proofs.lemmas.List.Elements.{All-nil, All-push, All-pop, All-append, All-map, All-weaker}
use Rattle.std.proofs.lemmas.List.Folds.{list_any-append}
use Rattle.std.proofs.lemmas.List.Sorted.{IsNonDecreasingBy-short, IsNonDecreasingBy-push}
use Rattle.std.proofs.lemmas.List.Sums.{sum-map, sum_by_push}
use Rattle.std.proofs.lemmas.Option.{option_and_then_some}
use Rattle.ctss_types.specs.Params.{param_limits, numbers_of, are_within}
use Rattle.ctss_types.specs.declared.script.Params.{Params}
use Rattle.ctss_types.specs.declared.script.Account.{Account}
use Rattle.ctss_types.specs.declared.script.Timed.{Timed}
use Rattle.ctss_types.specs.declared.script.Event.TheVariants as event
use Rattle.ctss_types.specs.declared.file.OwnedFile.{OwnedFile}
use Rattle.ctss_types.specs.Words.{word_in, behind_word}
use Rattle.program_model.specs.Lines.{words_of_line}
use Rattle.text_model.specs.declared.cause.ScriptCause.TheVariants.{NotACard, TimeFalls, UnknownNumber, OverLimit, DrumSmall, DiskSmall}
use Rattle.text_model.specs.declared.card.UserCard.{UserCard}
use Rattle.text_model.specs.declared.card.FileCard.{FileCard}
use Rattle.text_model.specs.declared.card.EventCard.{EventCard}
use Rattle.text_model.specs.declared.card.CardText.{CardText}
use Rattle.text_model.specs.declared.card.CardText.TheVariants as card_text
use Rattle.text_model.specs.declared.card.CardEvent.{CardEvent}
use Rattle.text_model.specs.declared.card.CardEvent.TheVariants as card_event
use Rattle.text_model.specs.Fields.{is_within, first_number, first_name, is_over, text_behind}
use Rattle.text_model.specs.Cards.{user_card_in, file_card_in, line_event, event_in, event_card_in}
use Rattle.text_model.specs.Drafts.{Draft, empty_draft, all_files, max_tick, with_params, is_new_account, is_account_in_limits, with_account, with_last, empty_file, is_new_file, is_file_in_limits, with_file, longer, with_words_of, with_words, with_text, with_event_at, with_end}
use Rattle.text_model.specs.Reading.{IsInRange}
use Rattle.text_model.specs.Lawful.{IsName, IsLawfulAccount, IsLawfulFile, IsLawfulEvent, accounts_differ, IsLawful, ScriptsAreLawful}
use Rattle.text_model.proofs.Drafted.{both, at_most, within, passed, escaped, allowed, never, not_below, given, IsKept, read}
use Rattle.text_model.proofs.FieldLaws.{answered, mapped, either, first_name_is, words_card_in_are, words_of_line_are, IsTypedIf, text_behind_is}
use Rattle.text_model.proofs.InRange.{scripts_are_in_range}

-- what the forms of cards say

-- USER has two names
user_form : (text : List ℕ) (c : UserCard) → user_card_in text ≡ Some c → IsName c.name × IsName c.password
user_form text c h =
    option_and_then_some _ (first_number text) c h (λ a ea ha.
    option_and_then_some _ (first_name a.1) c ha (λ b eb hb.
    option_and_then_some _ (first_name b.1) c hb (λ p ep hp.
    option_and_then_some _ (first_number p.1) c hp (λ d ed hd.
    option_and_then_some _ (first_number d.1) c hd (λ e ee he.
    let same = (answered (is_over e.1) _ c he).1 in
    subst (λ (u : UserCard). IsName u.name × IsName u.password) same (first_name_is a.1 b eb, first_name_is b.1 p ep))))))

-- FILE has two names
file_form : (text : List ℕ) (c : FileCard) → file_card_in text ≡ Some c → IsName c.name.first × IsName c.name.second
file_form text c h =
    option_and_then_some _ (first_number text) c h (λ a ea ha.
    option_and_then_some _ (first_name a.1) c ha (λ b eb hb.
    option_and_then_some _ (first_name b.1) c hb (λ p ep hp.
    option_and_then_some _ (first_number p.1) c hp (λ d ed hd.
    let same = (answered (is_over d.1) _ c hd).1 in
    subst (λ (f : FileCard). IsName f.name.first × IsName f.name.second) same (first_name_is a.1 b eb, first_name_is b.1 p ep)))))

-- where an event fits its card, it is lawful
abbrev IsLawfulIf : CardEvent → Type 0
IsLawfulIf (card_event.Fits e) = IsLawfulEvent e
IsLawfulIf card_event.TooLong = Unit {0}

-- a line that is typed
line_form : (t : CardText) → IsTypedIf t → IsLawfulIf (line_event t)
line_form (card_text.Fits l) h = h
line_form card_text.TooLong h = tt

-- one event of two that are equal
one_event : (x e : CardEvent) → IsLawfulIf x → ◌≡◌ {A = Option CardEvent} (Some x) (Some e) → IsLawfulIf e
one_event x e ok h = let same : x ≡ e = cc in subst IsLawfulIf same ok

-- an event that is read is lawful
event_form : (word text : List ℕ) (e : CardEvent) → event_in word text ≡ Some e → IsLawfulIf e
event_form word text e h =
    either IsLawfulIf (bytes_eq word (codes "LINE")) (option_map line_event (text_behind text)) _ e h
    (λ k. let m = mapped line_event (text_behind text) e k in subst IsLawfulIf m.2 (line_form m.0 (text_behind_is text m.0 m.1))) (λ k.
    either IsLawfulIf (not (is_over text)) None _ e k (λ l. cc) (λ l.
    either IsLawfulIf (bytes_eq word (codes "DIAL")) (Some (card_event.Fits event.Dial)) _ e l (one_event (card_event.Fits event.Dial) e tt) (λ m.
    either IsLawfulIf (bytes_eq word (codes "QUIT")) (Some (card_event.Fits event.Quit)) _ e m (one_event (card_event.Fits event.Quit) e tt) (λ n.
    either IsLawfulIf (bytes_eq word (codes "HANG")) (Some (card_event.Fits event.Hang)) None e n (one_event (card_event.Fits event.Hang) e tt) (λ o. cc)))))

-- AT has a lawful event
event_card_form : (text : List ℕ) (c : EventCard) → event_card_in text ≡ Some c → IsLawfulIf c.event
event_card_form text c h =
    option_and_then_some _ (first_number text) c h (λ a ea ha.
    option_and_then_some _ (first_number a.1) c ha (λ b eb hb.
    let m = mapped (λ (e : CardEvent). let card : EventCard = record { tick = a.0; console = b.0; event = e } in card) (event_in (word_in b.1) (behind_word b.1)) c hb in
    subst (λ (x : EventCard). IsLawfulIf x.event) m.2 (event_form (word_in b.1) (behind_word b.1) m.0 m.1)))

-- what the cards so far keep

-- params that keep their limits
abbrev ParamsAre : Params → Type 0
ParamsAre p = are_within param_limits (numbers_of p) ≡ true

-- the tracks of all accounts together
abbrev tracks_so_far : List Account → ℕ
tracks_so_far accounts = sum (map (λ (a : Account). a.tracks) accounts)

-- a lawful event at its tick
abbrev IsLawfulTimed : Timed → Type 0
IsLawfulTimed e = IsLawfulEvent e.event

-- the tick of an event
abbrev tick_of : Timed → ℕ
tick_of e = e.tick

-- an event no later than a tick
abbrev IsBy : ℕ → Timed → Type 0
IsBy tick e = e.tick ≤ tick

-- what the cards so far keep; `added` says that a draft's tracks are the sum of its accounts'
record Keeps (d : Draft) : Type 0 where
  params : (p : Params) → d.params ≡ Some p → ParamsAre p
  added : tracks_so_far d.accounts ≡ d.tracks
  unset : d.params ≡ None → d.tracks ≡ 0
  disk : (p : Params) → d.params ≡ Some p → p.common + d.tracks ≤ p.disk
  accounts : All IsLawfulAccount d.accounts
  differ : accounts_differ d.accounts ≡ true
  files : All IsLawfulFile (all_files d)
  events : All IsLawfulTimed d.events
  order : IsNonDecreasing (map tick_of d.events)
  last : All (IsBy d.tick) d.events
  ends : (tick : ℕ) → d.end ≡ Some tick → d.tick ≤ tick

-- the empty draft keeps it
empty_keeps : Keeps empty_draft
empty_keeps =
    record {
      params = λ p h. cc;
      added = refl;
      unset = λ h. refl;
      disk = λ p h. cc;
      accounts = All-nil IsLawfulAccount;
      differ = refl;
      files = All-nil IsLawfulFile;
      events = All-nil IsLawfulTimed;
      order = IsNonDecreasingBy-short (λ x. x) [] (omega arith);
      last = All-nil (IsBy 0);
      ends = λ t h. cc;
    }

-- PARAM

-- PARAM keeps it
with_params_keeps : (d e : Draft) (p : Params) → d.params ≡ None → Keeps d → with_params d p ≡ Ok e → Keeps e
with_params_keeps d e p none keeps h =
    let made : Draft = record d { params = Some p } in
    let first = passed (are_within param_limits (numbers_of p)) OverLimit _ e h in
    let second = escaped (nat_lt p.disk p.common) DiskSmall (Ok made) e first.1 in
    let empty : d.tracks ≡ 0 = keeps.unset none in
    let room : p.common + d.tracks ≤ p.disk = omega (arith, empty, not_below p.disk p.common second.0) in
    subst Keeps (given made e second.1)
    (record {
      params = λ q k. (let s : p ≡ q = cc in subst ParamsAre s first.0);
      added = keeps.added;
      unset = λ k. empty;
      disk = λ q k. (let s : p ≡ q = cc in subst (λ (r : Params). r.common + d.tracks ≤ r.disk) s room);
      accounts = keeps.accounts;
      differ = keeps.differ;
      files = keeps.files;
      events = keeps.events;
      order = keeps.order;
      last = keeps.last;
      ends = keeps.ends;
    })

-- USER

-- the tracks of one account more
tracks_more : (accounts : List Account) (a : Account) → tracks_so_far (accounts ++ a ∷ []) ≡ tracks_so_far accounts + a.tracks
tracks_more accounts a =
    let f : Account → ℕ = λ x. x.tracks in
    sum-map f (accounts ++ a ∷ []) ∙ sum_by_push f accounts a ∙ ap (λ (n : ℕ). n + a.tracks) (sym (sum-map f accounts))

-- an account of this name
abbrev is_called : ℕ → Account → Bool
is_called name a = nat_eq a.name name

-- numbers that differ, turned round
turned : (m n : ℕ) → nat_eq m n ≡ false → nat_eq n m ≡ false
turned m n h = grind (arith, nat_tests)

-- the first of these names stays away from the last account
apart_more : (name : ℕ) (accounts : List Account) (a : Account) → not (list_any (is_called name) accounts) ≡ true → nat_eq a.name name ≡ false
    → not (list_any (is_called name) (accounts ++ a ∷ [])) ≡ true
apart_more name accounts a none other =
    not_from_false (list_any (is_called name) (accounts ++ a ∷ []))
    (list_any-append (is_called name) accounts (a ∷ []) ∙ or_from (list_any (is_called name) accounts) (list_any (is_called name) (a ∷ [])) (not-true _ none) (or_from (nat_eq a.name name) false other refl))

-- one account more with a name of its own
differ_more : (accounts : List Account) (a : Account) → accounts_differ accounts ≡ true → list_any (is_called a.name) accounts ≡ false → accounts_differ (accounts ++ a ∷ []) ≡ true
differ_more [] a h none = refl
differ_more (b ∷ bs) a h none =
    let parts = and_parts (not (list_any (is_called b.name) bs)) (accounts_differ bs) h in
    let others = or_parts (nat_eq b.name a.name) (list_any (is_called a.name) bs) none in
    and_from (not (list_any (is_called b.name) (bs ++ a ∷ []))) (accounts_differ (bs ++ a ∷ []))
    (apart_more b.name bs a parts.0 (turned b.name a.name others.0)) (differ_more bs a parts.1 others.1)

-- the limits of USER
account_is : (c : UserCard) → is_account_in_limits c ≡ true → (1 ≤ c.blocks) × (c.tracks ≤ 10000)
account_is c h =
    let two = both (is_within 1 30 c.number && is_within 1 128 c.blocks) (nat_le c.tracks 10000) h in
    let one = both (is_within 1 30 c.number) (is_within 1 128 c.blocks) two.0 in
    ((within 1 128 c.blocks one.1).0, at_most c.tracks 10000 two.1)

-- USER keeps it
with_account_keeps : (d e : Draft) (p : Params) (text : List ℕ) (c : UserCard) → d.params ≡ Some p → user_card_in text ≡ Some c → Keeps d → with_account d p c ≡ Ok e → Keeps e
with_account_keeps d e p text c set form keeps h =
    let a : Account = record { name = c.name; password = c.password; blocks = c.blocks; tracks = c.tracks } in
    let made : Draft = record d { accounts = d.accounts ++ a ∷ []; blocks = d.blocks + c.blocks; tracks = d.tracks + c.tracks } in
    let first = passed (is_new_account d c.name) NotACard _ e h in
    let second = passed (is_account_in_limits c) OverLimit _ e first.1 in
    let third = passed (nat_eq c.number (length d.accounts + 1)) UnknownNumber _ e second.1 in
    let fourth = escaped (nat_lt p.drum (d.blocks + c.blocks)) DrumSmall _ e third.1 in
    let fifth = escaped (nat_lt p.disk (p.common + d.tracks + c.tracks)) DiskSmall (Ok made) e fourth.1 in
    let new = both (nat_eq (length d.events) 0 && nat_eq (length (all_files d)) 0) (not (list_any (is_called c.name) d.accounts)) first.0 in
    let names = user_form text c form in
    let ok = account_is c second.0 in
    let room : p.common + (d.tracks + c.tracks) ≤ p.disk = omega (arith, not_below p.disk (p.common + d.tracks + c.tracks) fifth.0) in
    subst Keeps (given made e fifth.1)
    (record {
      params = keeps.params;
      added = tracks_more d.accounts a ∙ ap (λ (m : ℕ). m + c.tracks) keeps.added;
      unset = λ k. absurd (cc (set, k));
      disk = λ q k. (let s : p ≡ q = cc (set, k) in subst (λ (r : Params). r.common + (d.tracks + c.tracks) ≤ r.disk) s room);
      accounts = All-push IsLawfulAccount d.accounts a keeps.accounts (record { name = names.0; password = names.1; blocks = ok.0; tracks = ok.1 });
      differ = differ_more d.accounts a keeps.differ (not-true _ new.1);
      files = keeps.files;
      events = keeps.events;
      order = keeps.order;
      last = keeps.last;
      ends = keeps.ends;
    })

-- FILE, O and T

-- a last file that is lawful
with_last_keeps : (d e : Draft) (files : List OwnedFile) (f : OwnedFile) → Keeps d → All IsLawfulFile files → IsLawfulFile f → with_last d files f ≡ Ok e → Keeps e
with_last_keeps d e files f keeps all one h =
    let t = escaped _ OverLimit (Ok (record d { files = files; file = Some f })) e h in
    subst Keeps (given _ e t.1)
    (record {
      params = keeps.params;
      added = keeps.added;
      unset = keeps.unset;
      disk = keeps.disk;
      accounts = keeps.accounts;
      differ = keeps.differ;
      files = All-push IsLawfulFile files f all one;
      events = keeps.events;
      order = keeps.order;
      last = keeps.last;
      ends = keeps.ends;
    })

-- a word has 36 bits
abbrev IsWord : ℕ → Type 0
IsWord w = w < 2 ^ 36

-- FILE keeps it
with_file_keeps : (d e : Draft) (text : List ℕ) (c : FileCard) → file_card_in text ≡ Some c → Keeps d → with_file d c ≡ Ok e → Keeps e
with_file_keeps d e text c form keeps h =
    let first = passed (is_new_file d c) NotACard _ e h in
    let second = passed (is_file_in_limits c) OverLimit _ e first.1 in
    let third = escaped (nat_lt (length d.accounts) c.owner) UnknownNumber (with_last d (all_files d) (empty_file c)) e second.1 in
    let names = file_form text c form in
    with_last_keeps d e (all_files d) (empty_file c) keeps keeps.files (record { first = names.0; second = names.1; words = All-nil IsWord }) third.1

-- words behind a file keep it
words_keep : (file : Option OwnedFile) (d e : Draft) (ws : List ℕ) → d.file ≡ file → All IsWord ws → Keeps d → with_words_of file d ws ≡ Ok e → Keeps e
words_keep None d e ws last words keeps h = cc
words_keep (Some f) d e ws last words keeps h =
    let t = allowed (nat_eq (length d.events) 0) NotACard (with_last d d.files (longer ws f)) e h in
    let files : All IsLawfulFile (d.files ++ f ∷ []) = subst (λ (o : Option OwnedFile). All IsLawfulFile (d.files ++ option_to_list o)) last keeps.files in
    let parts = All-pop IsLawfulFile (d.files ++ f ∷ []) d.files (Some f) refl files in
    let one : IsLawfulFile f = parts.1 in
    with_last_keeps d e d.files (longer ws f) keeps parts.0 (record { first = one.first; second = one.second; words = All-append IsWord f.body.words ws one.words words }) t.1

-- O keeps it
with_words_keeps : (d e : Draft) (ws : List ℕ) → All IsWord ws → Keeps d → with_words d ws ≡ Ok e → Keeps e
with_words_keeps d e ws words keeps h = words_keep d.file d e ws refl words keeps h

-- T keeps it
with_text_keeps : (d e : Draft) (t : CardText) → Keeps d → with_text d t ≡ Ok e → Keeps e
with_text_keeps d e (card_text.Fits l) keeps h = with_words_keeps d e (words_of_line 14 l) (words_of_line_are 14 l) keeps h
with_text_keeps d e card_text.TooLong keeps h = absurd (never (is_some d.file && nat_eq (length d.events) 0) OverLimit NotACard e h)

-- AT and END

-- ticks in order, and one more that is not below them
order_more : (events : List Timed) (e : Timed) → IsNonDecreasing (map tick_of events) → All (IsBy e.tick) events → IsNonDecreasing (map tick_of (events ++ e ∷ []))
order_more events e up by =
    let last : All (λ n. n ≤ e.tick) (map tick_of events) = All-map (λ n. n ≤ e.tick) tick_of events by in
    subst IsNonDecreasing (sym (map-append tick_of events (e ∷ [])))
    (IsNonDecreasingBy-push (λ x. x) (map tick_of events) e.tick up (λ d some. last (length (map tick_of events) - 1) d (omega arith)))

-- AT keeps it
with_event_keeps : (d e : Draft) (tick console : ℕ) (x : CardEvent) → d.end ≡ None → IsLawfulIf x → Keeps d → with_event_at d tick console x ≡ Ok e → Keeps e
with_event_keeps d e tick console card_event.TooLong none ok keeps h = cc
with_event_keeps d e tick console (card_event.Fits x) none ok keeps h =
    let timed : Timed = record { tick = tick; console = console; event = x } in
    let made : Draft = record d { events = d.events ++ timed ∷ []; tick = tick } in
    let first = passed (nat_le tick max_tick && is_within 1 32 console) OverLimit _ e h in
    let second = escaped (nat_lt tick d.tick) TimeFalls (Ok made) e first.1 in
    let later : d.tick ≤ tick = not_below tick d.tick second.0 in
    let by : All (IsBy tick) d.events = All-weaker (IsBy d.tick) (IsBy tick) (λ y k. omega arith) d.events keeps.last in
    subst Keeps (given made e second.1)
    (record {
      params = keeps.params;
      added = keeps.added;
      unset = keeps.unset;
      disk = keeps.disk;
      accounts = keeps.accounts;
      differ = keeps.differ;
      files = keeps.files;
      events = All-push IsLawfulTimed d.events timed keeps.events ok;
      order = order_more d.events timed keeps.order by;
      last = All-push (IsBy tick) d.events timed by (omega arith);
      ends = λ t k. absurd (cc (none, k));
    })

-- END keeps it
with_end_keeps : (d e : Draft) (tick : ℕ) → Keeps d → with_end d tick ≡ Ok e → Keeps e
with_end_keeps d e tick keeps h =
    let made : Draft = record d { end = Some tick } in
    let first = escaped (nat_lt max_tick tick) OverLimit _ e h in
    let second = escaped (nat_lt tick d.tick) TimeFalls (Ok made) e first.1 in
    let ok : d.tick ≤ tick = not_below tick d.tick second.0 in
    subst Keeps (given made e second.1)
    (record {
      params = keeps.params;
      added = keeps.added;
      unset = keeps.unset;
      disk = keeps.disk;
      accounts = keeps.accounts;
      differ = keeps.differ;
      files = keeps.files;
      events = keeps.events;
      order = keeps.order;
      last = keeps.last;
      ends = λ t k. (let same : tick ≡ t = cc in subst (λ (n : ℕ). d.tick ≤ n) same ok);
    })

-- every card keeps it
keeps_kept : IsKept Keeps
keeps_kept =
    record {
      start = empty_keeps;
      param = λ d e text p keeps none form h. with_params_keeps d e p none keeps h;
      user = λ d e p text c keeps set form h. with_account_keeps d e p text c set form keeps h;
      file = λ d e text c keeps form h. with_file_keeps d e text c form keeps h;
      words = λ d e text ws keeps form h. with_words_keeps d e ws (words_card_in_are text ws form) keeps h;
      text = λ d e text t keeps form h. with_text_keeps d e t keeps h;
      event = λ d e text c keeps none form h. with_event_keeps d e c.tick c.console c.event none (event_card_form text c form) keeps h;
      end = λ d e text tick keeps form h. with_end_keeps d e tick keeps h;
    }

-- a script in range of a draft that keeps the rules
script_keeps : (d : Draft) (p : Params) (end : ℕ) → Keeps d → d.params ≡ Some p → d.end ≡ Some end
    → IsInRange (record { params = p; accounts = d.accounts; files = all_files d; events = d.events; end = end })
    → IsLawful (record { params = p; accounts = d.accounts; files = all_files d; events = d.events; end = end })
script_keeps d p end keeps e g range =
    let room : p.common + d.tracks ≤ p.disk = keeps.disk p e in
    let later : d.tick ≤ end = keeps.ends end g in
    record {
      range = range;
      params = keeps.params p e;
      fits = subst (λ (n : ℕ). p.common + n ≤ p.disk) (sym keeps.added) room;
      accounts = keeps.accounts;
      differ = keeps.differ;
      files = keeps.files;
      events = keeps.events;
      order = keeps.order;
      ends = All-weaker (IsBy d.tick) (IsBy end) (λ y k. omega arith) d.events keeps.last;
    }

-- every script that is read is lawful
pub scripts_are_lawful : ScriptsAreLawful
scripts_are_lawful bytes s h =
    let r = read Keeps keeps_kept bytes s h in
    subst IsLawful r.is (script_keeps r.draft r.params r.end r.kept r.set r.ended (subst IsInRange (sym r.is) (scripts_are_in_range bytes s h)))
