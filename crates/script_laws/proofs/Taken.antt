-- What each card of a lawful script adds to a draft.
use Rattle.std.proofs.Common.{◌≡◌, ℕ, suc, ◌+◌, ◌≤◌, Bool, true, false, not, cond, ◌&&◌, nat_eq, nat_le, nat_lt, List, [], ◌∷◌, ◌++◌, length, Option, Some, None, Ok, Err, refl, ap, ◌∙◌, arith}
use Rattle.std.specs.declared.result.Result.{Result}
use Rattle.std.specs.Prelude.{option_to_list}
use Rattle.std.specs.List.{All, list_any}
use Rattle.std.proofs.lemmas.Bool.{not_from_false}
use Rattle.std.proofs.lemmas.Bool.Decides.{nat_tests}
use Rattle.ctss_types.specs.Params.{param_limits, numbers_of, are_within}
use Rattle.ctss_types.specs.declared.script.Script.{Script}
use Rattle.ctss_types.specs.declared.script.Params.{Params}
use Rattle.ctss_types.specs.declared.script.Account.{Account}
use Rattle.ctss_types.specs.declared.script.Timed.{Timed}
use Rattle.ctss_types.specs.declared.file.OwnedFile.{OwnedFile}
use Rattle.file_model.specs.Files.{tracks_of}
use Rattle.file_model.specs.Owned.{files_of}
use Rattle.text_model.specs.declared.cause.ScriptCause.{ScriptCause}
use Rattle.text_model.specs.declared.cause.ScriptCause.TheVariants.{NotACard, TimeFalls, UnknownNumber, OverLimit, DrumSmall, DiskSmall}
use Rattle.text_model.specs.declared.cause.ScriptRefusal.{ScriptRefusal}
use Rattle.text_model.specs.declared.card.UserCard.{UserCard}
use Rattle.text_model.specs.declared.card.FileCard.{FileCard}
use Rattle.text_model.specs.declared.card.EventCard.{EventCard}
use Rattle.text_model.specs.declared.card.CardEvent.TheVariants.{Fits}
use Rattle.text_model.specs.Fields.{is_within}
use Rattle.text_model.specs.Drafts.{Draft, empty_draft, max_tick, with_params, with_account, quota_of, is_same_file, with_file, with_words, with_event, with_end, by_form, entered}
use Rattle.text_model.specs.Reading.{script_from}
use Rattle.text_model.specs.Lawful.{IsName, IsLawfulEvent}
use Rattle.text_model.proofs.ParamLaws.{card_numbers_below}
use Rattle.script_laws.proofs.Fields.{IsWord}
use Rattle.script_laws.proofs.Forms.{param_read, user_read, file_read, words_card_read, event_card_read, end_read}
use Rattle.script_laws.proofs.Texts.{param_text, user_text, words_text, file_text, timed_text, end_text}

-- cards that are taken one after another

-- these cards behind a draft make this script
abbrev pub Reads : Draft → List (List ℕ) → Script → Type 0
Reads d cards s = (k : ℕ) → script_from k d cards ≡ Ok s

-- the cards behind one that is taken
entered_as : (r : Result Draft ScriptCause) (e : Draft) (k : ℕ) (cards : List (List ℕ)) → r ≡ Ok e
    → ◌≡◌ {A = Result Script ScriptRefusal} (elim r [ Ok e ↦ script_from (suc k) e cards | Err cause ↦ Err (record { card = k; cause = cause }) ]) (script_from (suc k) e cards)
entered_as (Ok d) e k cards h = let same : d ≡ e = cc in ap (λ (x : Draft). script_from (suc k) x cards) same
entered_as (Err cause) e k cards h = cc

-- one card, and the cards behind it
pub one_read : (d e : Draft) (card : List ℕ) (cards : List (List ℕ)) (s : Script) → entered d card ≡ Ok e → Reads e cards s → Reads d (card ∷ cards) s
one_read d e card cards s h more k = entered_as (entered d card) e k cards h ∙ more (suc k)

-- what a card of a form gives
taken : {C : Type 0} (f : C → Result Draft ScriptCause) (o : Option C) (c : C) (e : Draft) → o ≡ Some c → f c ≡ Ok e → by_form f o ≡ Ok e
taken f o c e h k = ap (by_form f) h ∙ k

-- tests

-- a test that has to pass
pub pass : {A : Type 0} {E : Type 0} (b : Bool) (x : E) (r : Result A E) (y : A) → b ≡ true → r ≡ Ok y → cond (not b) (Err x) r ≡ Ok y
pass b x r y h k = rw h k

-- a test that must not
pub escape : {A : Type 0} {E : Type 0} (b : Bool) (x : E) (r : Result A E) (y : A) → b ≡ false → r ≡ Ok y → cond b (Err x) r ≡ Ok y
escape b x r y h k = rw h k

-- a test of `≤` that passes
at_most : (a b : ℕ) → a ≤ b → nat_le a b ≡ true
at_most a b h = grind (arith, nat_tests)

-- a test of `<` that fails
pub not_less : (a b : ℕ) → b ≤ a → nat_lt a b ≡ false
not_less a b h = grind (arith, nat_tests)

-- a test of equal numbers
same : (a b : ℕ) → a ≡ b → nat_eq a b ≡ true
same a b h = grind (arith, nat_tests)

-- a test of two limits that passes
within : (low high n : ℕ) → low ≤ n → n ≤ high → is_within low high n ≡ true
within low high n h k = grind (arith, nat_tests)

-- a draft behind PARAM and before END
abbrev pub draft : Params → List Account → ℕ → ℕ → List OwnedFile → Option OwnedFile → List Timed → ℕ → Draft
draft p accounts blocks tracks files file events tick =
    record { params = Some p; accounts = accounts; blocks = blocks; tracks = tracks; files = files; file = file; events = events; tick = tick; end = None }

-- PARAM

-- params that keep the limits of PARAM
pub record HasLimits (p : Params) : Type 0 where
  pub within : are_within param_limits (numbers_of p) ≡ true
  pub common : p.common ≤ p.disk

-- PARAM is taken first
pub param_taken : (p : Params) → HasLimits p → entered empty_draft (param_text p) ≡ Ok (draft p [] 0 0 [] None [] 0)
param_taken p h =
    let e : Draft = draft p [] 0 0 [] None [] 0 in
    taken (with_params empty_draft) _ p e (param_read p (card_numbers_below p h.within))
    (pass (are_within param_limits (numbers_of p)) OverLimit _ e h.within (escape (nat_lt p.disk p.common) DiskSmall (Ok e) e (not_less p.disk p.common h.common) refl))

-- USER

-- an account that the accounts so far leave room for; held and used are their blocks and tracks
pub record HasRoom (p : Params) (accounts : List Account) (held used : ℕ) (n : ℕ) (a : Account) : Type 0 where
  pub next : n ≡ length accounts + 1
  pub few : n ≤ 30
  pub name : IsName a.name
  pub password : IsName a.password
  pub some : 1 ≤ a.blocks
  pub blocks : a.blocks ≤ 128
  pub tracks : a.tracks ≤ 10000
  pub drum : held + a.blocks ≤ p.drum
  pub disk : p.common + used + a.tracks ≤ p.disk
  pub own : list_any (λ (x : Account). nat_eq x.name a.name) accounts ≡ false

-- USER is taken
pub user_taken : (p : Params) (accounts : List Account) (blocks tracks n : ℕ) (a : Account) → HasRoom p accounts blocks tracks n a
    → entered (draft p accounts blocks tracks [] None [] 0) (user_text n a) ≡ Ok (draft p (accounts ++ a ∷ []) (blocks + a.blocks) (tracks + a.tracks) [] None [] 0)
user_taken p accounts blocks tracks n a h =
    let c : UserCard = record { number = n; name = a.name; password = a.password; blocks = a.blocks; tracks = a.tracks } in
    let d : Draft = draft p accounts blocks tracks [] None [] 0 in
    let e : Draft = draft p (accounts ++ a ∷ []) (blocks + a.blocks) (tracks + a.tracks) [] None [] 0 in
    let count : n ≡ length accounts + 1 = h.next in
    let limits : (is_within 1 30 n && is_within 1 128 a.blocks && nat_le a.tracks 10000) ≡ true =
    rw (within 1 30 n (omega arith) h.few, within 1 128 a.blocks h.some h.blocks, at_most a.tracks 10000 h.tracks) refl in
    taken (with_account d p) _ c e (user_read c (omega (arith, h.few)) h.name h.password (omega (arith, h.blocks)) (omega (arith, h.tracks)))
    (pass _ NotACard _ e (not_from_false _ h.own)
    (pass _ OverLimit _ e limits
    (pass (nat_eq n (length accounts + 1)) UnknownNumber _ e (same n (length accounts + 1) count)
    (escape (nat_lt p.drum (blocks + a.blocks)) DrumSmall _ e (not_less p.drum (blocks + a.blocks) h.drum)
    (escape (nat_lt p.disk (p.common + tracks + a.tracks)) DiskSmall (Ok e) e (not_less p.disk (p.common + tracks + a.tracks) h.disk) refl)))))

-- FILE and O

-- a file with only these words
abbrev pub part : OwnedFile → List ℕ → OwnedFile
part f ws = record f { body = record f.body { words = ws } }

-- the tracks of the owner's files take this one
abbrev pub Takes : List Account → List OwnedFile → OwnedFile → Type 0
Takes accounts files f = tracks_of (files_of f.owner (files ++ f ∷ [])) ≤ quota_of f.owner accounts

-- a file that its owner has a place for
pub record HasPlace (accounts : List Account) (files : List OwnedFile) (f : OwnedFile) : Type 0 where
  pub low : 1 ≤ f.owner
  pub high : f.owner ≤ length accounts
  pub few : length accounts ≤ 30
  pub mode : f.body.mode ≤ 3
  pub first : IsName f.body.name.first
  pub second : IsName f.body.name.second
  pub own : list_any (is_same_file f) files ≡ false
  pub takes : Takes accounts files (part f [])

-- FILE is taken, with no words yet
pub file_taken : (p : Params) (accounts : List Account) (blocks tracks : ℕ) (files : List OwnedFile) (file : Option OwnedFile) (f : OwnedFile) → HasPlace accounts (files ++ option_to_list file) f
    → entered (draft p accounts blocks tracks files file [] 0) (file_text f) ≡ Ok (draft p accounts blocks tracks (files ++ option_to_list file) (Some (part f [])) [] 0)
file_taken p accounts blocks tracks files file f h =
    let c : FileCard = record { owner = f.owner; name = f.body.name; mode = f.body.mode } in
    let d : Draft = draft p accounts blocks tracks files file [] 0 in
    let e : Draft = draft p accounts blocks tracks (files ++ option_to_list file) (Some (part f [])) [] 0 in
    let owner : f.owner ≤ 30 = omega (arith, h.high, h.few) in
    let limits : (is_within 1 30 f.owner && nat_le f.body.mode 3) ≡ true = rw (within 1 30 f.owner h.low owner, at_most f.body.mode 3 h.mode) refl in
    taken (with_file d) _ c e (file_read c (omega arith) h.first h.second (omega (arith, h.mode)))
    (pass _ NotACard _ e (not_from_false _ h.own)
    (pass _ OverLimit _ e limits
    (escape (nat_lt (length accounts) f.owner) UnknownNumber _ e (not_less (length accounts) f.owner h.high)
    (escape (nat_lt (quota_of f.owner accounts) _) OverLimit (Ok e) e (not_less (quota_of f.owner accounts) _ h.takes) refl))))

-- O is taken behind its file
pub words_taken : (p : Params) (accounts : List Account) (blocks tracks : ℕ) (files : List OwnedFile) (f : OwnedFile) (vs : List ℕ) (w : ℕ) (ws : List ℕ)
    → length ws ≤ 4 → All IsWord (w ∷ ws) → Takes accounts files (part f (vs ++ w ∷ ws))
    → entered (draft p accounts blocks tracks files (Some (part f vs)) [] 0) (words_text (w ∷ ws)) ≡ Ok (draft p accounts blocks tracks files (Some (part f (vs ++ w ∷ ws))) [] 0)
words_taken p accounts blocks tracks files f vs w ws few all takes =
    let d : Draft = draft p accounts blocks tracks files (Some (part f vs)) [] 0 in
    let e : Draft = draft p accounts blocks tracks files (Some (part f (vs ++ w ∷ ws))) [] 0 in
    taken (with_words d) _ (w ∷ ws) e (words_card_read w ws few all)
    (escape (nat_lt (quota_of f.owner accounts) _) OverLimit (Ok e) e (not_less (quota_of f.owner accounts) _ takes) refl)

-- AT and END

-- an event that may follow a tick
pub record HasTime (tick : ℕ) (x : Timed) : Type 0 where
  pub later : tick ≤ x.tick
  pub soon : x.tick ≤ max_tick
  pub low : 1 ≤ x.console
  pub high : x.console ≤ 32
  pub event : IsLawfulEvent x.event

-- AT is taken
pub event_taken : (p : Params) (accounts : List Account) (blocks tracks : ℕ) (files : List OwnedFile) (file : Option OwnedFile) (events : List Timed) (tick : ℕ) (x : Timed) → HasTime tick x
    → entered (draft p accounts blocks tracks files file events tick) (timed_text x) ≡ Ok (draft p accounts blocks tracks files file (events ++ x ∷ []) x.tick)
event_taken p accounts blocks tracks files file events tick x h =
    let c : EventCard = record { tick = x.tick; console = x.console; event = Fits x.event } in
    let d : Draft = draft p accounts blocks tracks files file events tick in
    let e : Draft = draft p accounts blocks tracks files file (events ++ x ∷ []) x.tick in
    let limits : (nat_le x.tick max_tick && is_within 1 32 x.console) ≡ true = rw (at_most x.tick max_tick h.soon, within 1 32 x.console h.low h.high) refl in
    taken (with_event d) _ c e (event_card_read x.tick x.console x.event (omega (arith, h.soon)) (omega (arith, h.high)) h.event)
    (pass _ OverLimit _ e limits (escape (nat_lt x.tick tick) TimeFalls (Ok e) e (not_less x.tick tick h.later) refl))

-- END is taken
pub end_taken : (p : Params) (accounts : List Account) (blocks tracks : ℕ) (files : List OwnedFile) (file : Option OwnedFile) (events : List Timed) (tick end : ℕ) → tick ≤ end → end ≤ max_tick
    → entered (draft p accounts blocks tracks files file events tick) (end_text end) ≡ Ok (record (draft p accounts blocks tracks files file events tick) { end = Some end })
end_taken p accounts blocks tracks files file events tick end later soon =
    let d : Draft = draft p accounts blocks tracks files file events tick in
    let e : Draft = record d { end = Some end } in
    taken (with_end d) _ end e (end_read end (omega arith))
    (escape (nat_lt max_tick end) OverLimit _ e (not_less max_tick end soon) (escape (nat_lt end tick) TimeFalls (Ok e) e (not_less end tick later) refl))
