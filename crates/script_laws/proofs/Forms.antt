-- Each form of a card as it is written, read back.
use Rattle.std.proofs.Common.{◌≡◌, ℕ, zero, suc, ◌≤◌, Bool, true, false, cond, nat_eq, nat_le, List, [], ◌∷◌, ◌++◌, length, Option, Some, None, refl, ap, ◌∙◌, arith}
use Rattle.std.specs.Option.{option_map, option_and_then}
use Rattle.std.specs.Fmt.{decimal}
use Rattle.std.specs.List.{All, list_all, flat_map}
use Rattle.std.proofs.lemmas.Bool.Decides.{nat_tests}
use Rattle.std.proofs.lemmas.List.Elements.{All-head, All-tail}
use Rattle.word36.specs.Octal.{octal_text}
use Rattle.bcd48.specs.Characters.{is_character}
use Rattle.ctss_types.specs.Words.{word_in, behind_word}
use Rattle.ctss_types.specs.Params.{param_limits, card_numbers}
use Rattle.ctss_types.specs.declared.script.Params.{Params}
use Rattle.ctss_types.specs.declared.script.Event.{Event}
use Rattle.ctss_types.specs.declared.script.Event.TheVariants as event
use Rattle.text_model.specs.declared.card.UserCard.{UserCard}
use Rattle.text_model.specs.declared.card.FileCard.{FileCard}
use Rattle.text_model.specs.declared.card.EventCard.{EventCard}
use Rattle.text_model.specs.declared.card.CardText.TheVariants as card_text
use Rattle.text_model.specs.declared.card.CardEvent.{CardEvent}
use Rattle.text_model.specs.declared.card.CardEvent.TheVariants.{Fits}
use Rattle.text_model.specs.Parts.{blank, number, name}
use Rattle.text_model.specs.Canonical.{octal, event_text}
use Rattle.text_model.specs.Fields.{number_in, octal_in, is_over, fitted, text_in}
use Rattle.text_model.specs.Cards.{fields_in, params_read, param_card_in, user_card_in, file_card_in, words_card_in, line_event, event_in, event_card_in, end_card_in}
use Rattle.text_model.specs.Lawful.{IsName, IsTyped, IsLawfulEvent}
use Rattle.text_model.proofs.ParamLaws.{card_numbers_few, card_numbers_read}
use Rattle.script_laws.proofs.Fields.{starts_blank, IsField, word_read, behind_read, IsNumber, number_field, number_read, first_number_read, last_number_read, first_name_read, IsWord, octal_field, octal_read}

-- a field that is read, and what follows from what stands behind it
and_then : {A B : Type 0} (f : A → Option B) (o : Option A) (x : A) (r : Option B) → o ≡ Some x → f x ≡ r → option_and_then f o ≡ r
and_then f o x r h k = ap (option_and_then f) h ∙ k

-- a length that is not 0
nonzero : (n : ℕ) → 1 ≤ n → nat_eq n 0 ≡ false
nonzero n h = grind (arith, nat_tests)

-- a text of a field is not over
not_over : (field rest : List ℕ) → IsField field → starts_blank rest ≡ true → is_over (32 ∷ (field ++ rest)) ≡ false
not_over field rest f h = ap (λ (w : List ℕ). nat_eq (length w) 0) (word_read field rest f h) ∙ nonzero (length field) f.some

-- a test that fails
if_not : {A : Type 0} (b : Bool) (x y : A) → b ≡ false → cond b x y ≡ y
if_not b x y h = rw h refl

-- fields begin with a blank
fields_blank : (text : ℕ → List ℕ) (xs : List ℕ) → starts_blank (flat_map (λ x. blank (text x)) xs) ≡ true
fields_blank text [] = refl
fields_blank text (x ∷ xs) = refl

-- fields, each of which reads as what it is written for, read as all of these
fields_read : (read : List ℕ → Option ℕ) (text : ℕ → List ℕ) (P : ℕ → Type 0) → ((x : ℕ) → P x → IsField (text x)) → ((x : ℕ) → P x → read (text x) ≡ Some x)
    → (n : ℕ) (xs : List ℕ) → length xs ≤ n → All P xs → fields_in read n (flat_map (λ x. blank (text x)) xs) ≡ Some xs
fields_read read text P field reads zero [] few all = refl
fields_read read text P field reads (suc n) [] few all = refl
fields_read read text P field reads zero (x ∷ xs) few all = absurd (omega arith)
fields_read read text P field reads (suc n) (x ∷ xs) few all =
    let rest : List ℕ = flat_map (λ y. blank (text y)) xs in
    let card : List ℕ = blank (text x) ++ rest in
    let here : P x = All-head P x xs all in
    let stands = fields_blank text xs in
    let first : read (word_in card) ≡ Some x = ap read (word_read (text x) rest (field x here) stands) ∙ reads x here in
    let behind : fields_in read n (behind_word card) ≡ Some xs =
    ap (fields_in read n) (behind_read (text x) rest (field x here) stands) ∙ fields_read read text P field reads n xs (omega arith) (All-tail P x xs all) in
    if_not (is_over card) _ _ (not_over (text x) rest (field x here) stands)
    ∙ and_then _ (read (word_in card)) x (Some (x ∷ xs)) first (ap (option_map (λ (ys : List ℕ). x ∷ ys)) behind)

-- PARAM reads as it is written
pub param_read : (p : Params) → All IsNumber (card_numbers p) → param_card_in (flat_map number (card_numbers p)) ≡ Some p
param_read p all =
    and_then params_read _ (card_numbers p) (Some p) (fields_read number_in decimal IsNumber number_field number_read (length param_limits) (card_numbers p) (card_numbers_few p) all)
    (card_numbers_read p)

-- USER reads as it is written
pub user_read : (c : UserCard) → IsNumber c.number → IsName c.name → IsName c.password → IsNumber c.blocks → IsNumber c.tracks
    → user_card_in (number c.number ++ (name c.name ++ (name c.password ++ (number c.blocks ++ number c.tracks)))) ≡ Some c
user_read c count called password blocks tracks =
    let e : List ℕ = number c.tracks in
    let d : List ℕ = number c.blocks ++ e in
    let b : List ℕ = name c.password ++ d in
    let a : List ℕ = name c.name ++ b in
    and_then _ _ (c.number, a) (Some c) (first_number_read c.number a count refl)
    (and_then _ _ (c.name, b) (Some c) (first_name_read c.name b called refl)
    (and_then _ _ (c.password, d) (Some c) (first_name_read c.password d password refl)
    (and_then _ _ (c.blocks, e) (Some c) (first_number_read c.blocks e blocks refl)
    (and_then _ _ (c.tracks, []) (Some c) (last_number_read c.tracks tracks) refl))))

-- FILE reads as it is written
pub file_read : (c : FileCard) → IsNumber c.owner → IsName c.name.first → IsName c.name.second → IsNumber c.mode
    → file_card_in (number c.owner ++ (name c.name.first ++ (name c.name.second ++ number c.mode))) ≡ Some c
file_read c owner first second mode =
    let d : List ℕ = number c.mode in
    let b : List ℕ = name c.name.second ++ d in
    let a : List ℕ = name c.name.first ++ b in
    and_then _ _ (c.owner, a) (Some c) (first_number_read c.owner a owner refl)
    (and_then _ _ (c.name.first, b) (Some c) (first_name_read c.name.first b first refl)
    (and_then _ _ (c.name.second, d) (Some c) (first_name_read c.name.second d second refl)
    (and_then _ _ (c.mode, []) (Some c) (last_number_read c.mode mode) refl)))

-- END reads as it is written
pub end_read : (tick : ℕ) → IsNumber tick → end_card_in (number tick) ≡ Some tick
end_read tick h = and_then _ _ (tick, []) (Some tick) (last_number_read tick h) refl

-- O reads as it is written
pub words_card_read : (w : ℕ) (ws : List ℕ) → length ws ≤ 4 → All IsWord (w ∷ ws) → words_card_in (octal w ++ flat_map octal ws) ≡ Some (w ∷ ws)
words_card_read w ws few all =
    if_not (is_over (octal w ++ flat_map octal ws)) None (fields_in octal_in 5 (octal w ++ flat_map octal ws)) (not_over (octal_text w) (flat_map octal ws) (octal_field w) (fields_blank octal_text ws))
    ∙ fields_read octal_in octal_text IsWord (λ x h. octal_field x) octal_read 5 (w ∷ ws) (omega arith) all

-- events

-- a length that fits a line
small_test : (n : ℕ) → n ≤ 84 → nat_le n 84 ≡ true
small_test n h = grind (arith, nat_tests)

-- a line reads as itself
text_read : (l : List ℕ) → IsTyped l → text_in l ≡ Some (card_text.Fits l)
text_read l h =
    ap (λ (t : List ℕ). cond (list_all is_character t) (Some (fitted t)) None) h.ends
    ∙ rw (h.characters, small_test (length l) h.few) refl

-- an event reads as itself
event_read : (e : Event) → IsLawfulEvent e → event_in (word_in (event_text e)) (behind_word (event_text e)) ≡ Some (Fits e)
event_read event.Dial h = refl
event_read (event.Line []) h = refl
event_read (event.Line (c ∷ cs)) h = ap (option_map line_event) (text_read (c ∷ cs) h)
event_read event.Quit h = refl
event_read event.Hang h = refl

-- an event begins with a blank
event_blank : (e : Event) → starts_blank (event_text e) ≡ true
event_blank event.Dial = refl
event_blank (event.Line text) = refl
event_blank event.Quit = refl
event_blank event.Hang = refl

-- AT reads as it is written
pub event_card_read : (tick console : ℕ) (e : Event) → IsNumber tick → IsNumber console → IsLawfulEvent e
    → event_card_in (number tick ++ (number console ++ event_text e)) ≡ Some (record { tick = tick; console = console; event = Fits e })
event_card_read tick console e low seat h =
    let c : EventCard = record { tick = tick; console = console; event = Fits e } in
    let b : List ℕ = event_text e in
    let a : List ℕ = number console ++ b in
    and_then _ _ (tick, a) (Some c) (first_number_read tick a low refl)
    (and_then _ _ (console, b) (Some c) (first_number_read console b seat (event_blank e))
    (ap (option_map (λ (x : CardEvent). let card : EventCard = record { tick = tick; console = console; event = x } in card)) (event_read e h)))
