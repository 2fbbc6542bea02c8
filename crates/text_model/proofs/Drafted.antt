-- What every card that is taken keeps is true of the draft of every script that is read.
use Rattle.std.proofs.Common.{◌≡◌, ℕ, suc, ◌≤◌, Bool, true, false, not, cond, ◌&&◌, nat_le, nat_lt, List, [], ◌∷◌, length, Option, Some, None, Ok, Err, codes, refl, subst, arith}
use Rattle.std.specs.declared.result.Result.{Result}
use Rattle.std.specs.Prelude.{bytes_eq}
use Rattle.std.specs.Option.{is_some}
use Rattle.std.specs.Str.Lines.{lines}
use Rattle.std.proofs.lemmas.Bool.Decides.{nat_tests}
use Rattle.ctss_types.specs.Words.{word_in, behind_word}
use Rattle.ctss_types.specs.declared.script.Script.{Script}
use Rattle.ctss_types.specs.declared.script.Params.{Params}
use Rattle.text_model.specs.declared.cause.ScriptCause.{ScriptCause}
use Rattle.text_model.specs.declared.cause.ScriptCause.TheVariants.{NotACard, NoEnd}
use Rattle.text_model.specs.declared.cause.ScriptRefusal.{ScriptRefusal}
use Rattle.text_model.specs.declared.card.UserCard.{UserCard}
use Rattle.text_model.specs.declared.card.FileCard.{FileCard}
use Rattle.text_model.specs.declared.card.EventCard.{EventCard}
use Rattle.text_model.specs.declared.card.CardText.{CardText}
use Rattle.text_model.specs.Fields.{is_within, text_behind}
use Rattle.text_model.specs.Cards.{param_card_in, user_card_in, file_card_in, words_card_in, event_card_in, end_card_in}
use Rattle.text_model.specs.Drafts.{Draft, empty_draft, all_files, with_params, with_account, with_file, with_words, with_text, with_event, with_end, by_form, entered_by, entered, is_comment, is_indented}
use Rattle.text_model.specs.Reading.{script_by, script_from, script_of, max_bytes}

-- tests

-- of two tests that both pass, each passes
pub both : (a b : Bool) → (a && b) ≡ true → (a ≡ true) × (b ≡ true)
both true b h = (refl, h)
both false b h = cc

-- a test of `≤` that passes
pub at_most : (a b : ℕ) → nat_le a b ≡ true → a ≤ b
at_most a b h = grind (arith, nat_tests)

-- between two limits
pub within : (low high n : ℕ) → is_within low high n ≡ true → (low ≤ n) × (n ≤ high)
within low high n h = let t = both (nat_le low n) (nat_le n high) h in (at_most low n t.0, at_most n high t.1)

-- a refusal is no answer
pub never : {A : Type 0} (b : Bool) (x y : ScriptCause) (e : A) → cond b (Err x) (Err y) ≡ Ok e → ⊥
never true x y e h = cc
never false x y e h = cc

-- a test that did not refuse was passed
pub passed : {A : Type 0} {E : Type 0} (b : Bool) (x : E) (r : Result A E) (y : A) → cond (not b) (Err x) r ≡ Ok y → (b ≡ true) × (r ≡ Ok y)
passed true x r y h = (refl, h)
passed false x r y h = cc

-- what a test would refuse is not so
pub escaped : {A : Type 0} {E : Type 0} (b : Bool) (x : E) (r : Result A E) (y : A) → cond b (Err x) r ≡ Ok y → (b ≡ false) × (r ≡ Ok y)
escaped true x r y h = cc
escaped false x r y h = (refl, h)

-- a test that gave an answer was true
pub allowed : {A : Type 0} {E : Type 0} (b : Bool) (x : E) (r : Result A E) (y : A) → cond b r (Err x) ≡ Ok y → (b ≡ true) × (r ≡ Ok y)
allowed true x r y h = (refl, h)
allowed false x r y h = cc

-- a test of `<` that fails
pub not_below : (a b : ℕ) → nat_lt a b ≡ false → b ≤ a
not_below a b h = grind (arith, nat_tests)

-- an answer is the one that was given
pub given : {A : Type 0} {E : Type 0} (x y : A) → ◌≡◌ {A = Result A E} (Ok x) (Ok y) → x ≡ y
given x y h = cc

-- what every card keeps
pub record IsKept (P : Draft → Type 0) : Type 0 where
  pub start : P empty_draft
  pub param : (d e : Draft) (text : List ℕ) (p : Params) → P d → d.params ≡ None → param_card_in text ≡ Some p → with_params d p ≡ Ok e → P e
  pub user : (d e : Draft) (p : Params) (text : List ℕ) (c : UserCard) → P d → d.params ≡ Some p → user_card_in text ≡ Some c → with_account d p c ≡ Ok e → P e
  pub file : (d e : Draft) (text : List ℕ) (c : FileCard) → P d → file_card_in text ≡ Some c → with_file d c ≡ Ok e → P e
  pub words : (d e : Draft) (text ws : List ℕ) → P d → words_card_in text ≡ Some ws → with_words d ws ≡ Ok e → P e
  pub text : (d e : Draft) (text : List ℕ) (t : CardText) → P d → text_behind text ≡ Some t → with_text d t ≡ Ok e → P e
  pub event : (d e : Draft) (text : List ℕ) (c : EventCard) → P d → d.end ≡ None → event_card_in text ≡ Some c → with_event d c ≡ Ok e → P e
  pub end : (d e : Draft) (text : List ℕ) (tick : ℕ) → P d → end_card_in text ≡ Some tick → with_end d tick ≡ Ok e → P e

-- a card that was taken has a form
formed : {C : Type 0} (R : Type 0) (f : C → Result Draft ScriptCause) (o : Option C) (e : Draft) → by_form f o ≡ Ok e → ((c : C) → o ≡ Some c → f c ≡ Ok e → R) → R
formed R f None e h k = cc
formed R f (Some c) e h k = k c refl h

-- a card behind PARAM
more_kept : (P : Draft → Type 0) → IsKept P → (d e : Draft) (p : Params) (text : List ℕ) (user file words typed at ends : Bool) → P d → d.params ≡ Some p → d.end ≡ None
    → cond user (by_form (with_account d p) (user_card_in text))
    (cond file (by_form (with_file d) (file_card_in text))
    (cond words (by_form (with_words d) (words_card_in text))
    (cond typed (by_form (with_text d) (text_behind text))
    (cond at (by_form (with_event d) (event_card_in text))
    (cond ends (by_form (with_end d) (end_card_in text)) (Err NotACard)))))) ≡ Ok e → P e
more_kept P k d e p text true file words typed at ends kept set no_end_yet h = formed (P e) (with_account d p) (user_card_in text) e h (λ c form taken. k.user d e p text c kept set form taken)
more_kept P k d e p text false true words typed at ends kept set no_end_yet h = formed (P e) (with_file d) (file_card_in text) e h (λ c form taken. k.file d e text c kept form taken)
more_kept P k d e p text false false true typed at ends kept set no_end_yet h = formed (P e) (with_words d) (words_card_in text) e h (λ c form taken. k.words d e text c kept form taken)
more_kept P k d e p text false false false true at ends kept set no_end_yet h = formed (P e) (with_text d) (text_behind text) e h (λ c form taken. k.text d e text c kept form taken)
more_kept P k d e p text false false false false true ends kept set no_end_yet h = formed (P e) (with_event d) (event_card_in text) e h (λ c form taken. k.event d e text c kept no_end_yet form taken)
more_kept P k d e p text false false false false false true kept set no_end_yet h = formed (P e) (with_end d) (end_card_in text) e h (λ c form taken. k.end d e text c kept form taken)
more_kept P k d e p text false false false false false false kept set no_end_yet h = cc

-- the first card
first_kept : (P : Draft → Type 0) → IsKept P → (d e : Draft) (text : List ℕ) (b : Bool) → P d → d.params ≡ None → cond b (by_form (with_params d) (param_card_in text)) (Err NotACard) ≡ Ok e → P e
first_kept P k d e text true kept none h = formed (P e) (with_params d) (param_card_in text) e h (λ p form taken. k.param d e text p kept none form taken)
first_kept P k d e text false kept none h = cc

-- a card by its first word
entered_by_kept : (P : Draft → Type 0) → IsKept P → (params : Option Params) (d e : Draft) (word text : List ℕ) → P d → d.params ≡ params → d.end ≡ None → entered_by params d word text ≡ Ok e → P e
entered_by_kept P k None d e word text kept is no_end_yet h = first_kept P k d e text (bytes_eq word (codes "PARAM")) kept is h
entered_by_kept P k (Some p) d e word text kept is no_end_yet h =
    more_kept P k d e p text (bytes_eq word (codes "USER")) (bytes_eq word (codes "FILE")) (bytes_eq word (codes "O")) (bytes_eq word (codes "T")) (bytes_eq word (codes "AT")) (bytes_eq word (codes "END")) kept is no_end_yet h

-- no END so far
no_end : (o : Option ℕ) → is_some o ≡ false → o ≡ None
no_end None h = refl
no_end (Some n) h = cc

-- a card that is no comment
card_kept : (P : Draft → Type 0) → IsKept P → (d e : Draft) (card : List ℕ) (comment : Bool) → P d
    → cond comment (Ok d) (cond (is_some d.end) (Err NoEnd) (cond (is_indented card) (Err NotACard) (entered_by d.params d (word_in card) (behind_word card)))) ≡ Ok e → P e
card_kept P k d e card true kept h = subst P (given d e h) kept
card_kept P k d e card false kept h =
    let first = escaped (is_some d.end) NoEnd (cond (is_indented card) (Err NotACard) (entered_by d.params d (word_in card) (behind_word card))) e h in
    let second = escaped (is_indented card) NotACard (entered_by d.params d (word_in card) (behind_word card)) e first.1 in
    entered_by_kept P k d.params d e (word_in card) (behind_word card) kept refl (no_end d.end first.0) second.1

-- a card of any kind
entered_kept : (P : Draft → Type 0) → IsKept P → (d e : Draft) (card : List ℕ) → P d → entered d card ≡ Ok e → P e
entered_kept P k d e card kept h = card_kept P k d e card (is_comment card) kept h

-- what is known of a script that was read: its draft
pub record IsRead (P : Draft → Type 0) (s : Script) : Type 0 where
  pub draft : Draft
  pub params : Params
  pub end : ℕ
  pub kept : P draft
  pub set : draft.params ≡ Some params
  pub ended : draft.end ≡ Some end
  pub is : record { params = params; accounts = draft.accounts; files = all_files draft; events = draft.events; end = end } ≡ s

-- a script of all cards has their draft
read_by : (P : Draft → Type 0) (d : Draft) (params : Option Params) (end : Option ℕ) (k : ℕ) (s : Script) → P d → d.params ≡ params → d.end ≡ end → script_by params end k d ≡ Ok s → IsRead P s
read_by P d None end k s kept f g h = cc
read_by P d (Some p) None k s kept f g h = cc
read_by P d (Some p) (Some end) k s kept f g h = record { draft = d; params = p; end = end; kept = kept; set = f; ended = g; is = given _ s h }

-- the cards behind one, by what it gave
read_behind : (r : Result Draft ScriptCause) (cards : List (List ℕ)) (k : ℕ) (s : Script)
    → ◌≡◌ {A = Result Script ScriptRefusal} (elim r [ Ok e ↦ script_from (suc k) e cards | Err cause ↦ Err (record { card = k; cause = cause }) ]) (Ok s) → (e : Draft) × (r ≡ Ok e) × (script_from (suc k) e cards ≡ Ok s)
read_behind (Ok e) cards k s h = (e, refl, h)
read_behind (Err cause) cards k s h = cc

-- cards one after another
read_from : (P : Draft → Type 0) → IsKept P → (cards : List (List ℕ)) (k : ℕ) (d : Draft) (s : Script) → P d → script_from k d cards ≡ Ok s → IsRead P s
read_from P kept [] k d s h e = read_by P d d.params d.end k s h refl refl e
read_from P kept (card ∷ cards) k d s h e =
    let more = read_behind (entered d card) cards k s e in
    read_from P kept cards (suc k) more.0 s (entered_kept P kept d more.0 card h more.1) more.2

-- every script that is read has a draft of which it is true
pub read : (P : Draft → Type 0) → IsKept P → (bytes : List ℕ) (s : Script) → script_of bytes ≡ Ok s → IsRead P s
unfolding script_of
read P kept bytes s h = read_from P kept (lines bytes) 1 empty_draft s kept.start (allowed (nat_le (length bytes) max_bytes) _ (script_from 1 empty_draft (lines bytes)) s h).1
