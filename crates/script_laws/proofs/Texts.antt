-- The canonical text of a script as a list of cards.
use Rattle.std.proofs.Common.{◌≡◌, ℕ, suc, true, List, [], ◌∷◌, ◌++◌, map, codes, refl, sym, ap, ap₂, ◌∙◌}
use Rattle.std.specs.List.{All, list_all, flat_map}
use Rattle.std.proofs.lemmas.Bool.{and_from}
use Rattle.std.proofs.lemmas.List.{append-nil}
use Rattle.std.proofs.lemmas.List.Concat.{flat_map-append}
use Rattle.std.proofs.lemmas.List.Elements.{All-head, All-tail}
use Rattle.bcd48.specs.Characters.{is_character}
use Rattle.ctss_types.specs.Params.{card_numbers}
use Rattle.ctss_types.specs.declared.script.Script.{Script}
use Rattle.ctss_types.specs.declared.script.Params.{Params}
use Rattle.ctss_types.specs.declared.script.Account.{Account}
use Rattle.ctss_types.specs.declared.script.Timed.{Timed}
use Rattle.ctss_types.specs.declared.script.Event.{Event}
use Rattle.ctss_types.specs.declared.script.Event.TheVariants as event
use Rattle.ctss_types.specs.declared.file.OwnedFile.{OwnedFile}
use Rattle.text_model.specs.Parts.{line, number, name}
use Rattle.text_model.specs.Canonical.{param_card, user_card, user_cards, octal, word_cards, file_cards, event_text, event_card, end_card, script_text_of}
use Rattle.text_model.specs.Lawful.{IsName, IsLawfulEvent}
use Rattle.script_laws.proofs.Lines.{is_shown, is_clean, clean_both}
use Rattle.script_laws.proofs.Fields.{IsNumber, number_clean, name_clean, octal_clean, character_shown, all_weaker}

-- cards without their ends

-- PARAM
abbrev pub param_text : Params → List ℕ
param_text p = codes "PARAM" ++ flat_map number (card_numbers p)

-- USER
abbrev pub user_text : ℕ → Account → List ℕ
user_text n a = codes "USER" ++ (number n ++ (name a.name ++ (name a.password ++ (number a.blocks ++ number a.tracks))))

-- the accounts, numbered from n on
abbrev pub user_texts : ℕ → List Account → List (List ℕ)
user_texts n [] = []
user_texts n (a ∷ accounts) = user_text n a ∷ user_texts (suc n) accounts

-- O with some words
abbrev pub words_text : List ℕ → List ℕ
words_text ws = codes "O" ++ flat_map octal ws

-- words five a card
abbrev pub word_texts : List ℕ → List (List ℕ)
word_texts [] = []
word_texts (a ∷ []) = words_text (a ∷ []) ∷ []
word_texts (a ∷ b ∷ []) = words_text (a ∷ b ∷ []) ∷ []
word_texts (a ∷ b ∷ c ∷ []) = words_text (a ∷ b ∷ c ∷ []) ∷ []
word_texts (a ∷ b ∷ c ∷ d ∷ []) = words_text (a ∷ b ∷ c ∷ d ∷ []) ∷ []
word_texts (a ∷ b ∷ c ∷ d ∷ e ∷ ws) = words_text (a ∷ b ∷ c ∷ d ∷ e ∷ []) ∷ word_texts ws

-- FILE
abbrev pub file_text : OwnedFile → List ℕ
file_text f = codes "FILE" ++ (number f.owner ++ (name f.body.name.first ++ (name f.body.name.second ++ number f.body.mode)))

-- a file with its words
abbrev pub file_texts : OwnedFile → List (List ℕ)
file_texts f = file_text f ∷ word_texts f.body.words

-- AT
abbrev pub timed_text : Timed → List ℕ
timed_text e = codes "AT" ++ (number e.tick ++ (number e.console ++ event_text e.event))

-- END
abbrev pub end_text : ℕ → List ℕ
end_text tick = codes "END" ++ number tick

-- the events and the end
abbrev pub events_texts : List Timed → ℕ → List (List ℕ)
events_texts events end = map timed_text events ++ end_text end ∷ []

-- the files and what stands behind them
abbrev pub files_texts : List OwnedFile → List Timed → ℕ → List (List ℕ)
files_texts files events end = flat_map file_texts files ++ events_texts events end

-- all cards
abbrev pub cards_of : Script → List (List ℕ)
cards_of s = param_text s.params ∷ (user_texts 1 s.accounts ++ files_texts s.files s.events s.end)

-- the text is the lines of these cards

-- the accounts
users_lines : (n : ℕ) (accounts : List Account) → user_cards n accounts ≡ flat_map line (user_texts n accounts)
users_lines n [] = refl
users_lines n (a ∷ accounts) = ap (λ (l : List ℕ). user_card n a ++ l) (users_lines (suc n) accounts)

-- a last word with nothing behind it
last_word : (w : ℕ) → octal w ≡ octal w ++ []
last_word w = sym (append-nil (octal w))

-- a last line with nothing behind it
last_line : (x y : List ℕ) → x ≡ y → line x ≡ line y ++ []
last_line x y h = ap line h ∙ sym (append-nil (line y))

-- the words
words_lines : (ws : List ℕ) → word_cards ws ≡ flat_map line (word_texts ws)
words_lines [] = refl
words_lines (a ∷ []) = last_line (codes "O" ++ octal a) (words_text (a ∷ [])) (ap (λ (l : List ℕ). codes "O" ++ l) (last_word a))
words_lines (a ∷ b ∷ []) = last_line (codes "O" ++ (octal a ++ octal b)) (words_text (a ∷ b ∷ [])) (ap (λ (l : List ℕ). codes "O" ++ (octal a ++ l)) (last_word b))
words_lines (a ∷ b ∷ c ∷ []) =
    last_line (codes "O" ++ (octal a ++ (octal b ++ octal c))) (words_text (a ∷ b ∷ c ∷ [])) (ap (λ (l : List ℕ). codes "O" ++ (octal a ++ (octal b ++ l))) (last_word c))
words_lines (a ∷ b ∷ c ∷ d ∷ []) =
    last_line (codes "O" ++ (octal a ++ (octal b ++ (octal c ++ octal d)))) (words_text (a ∷ b ∷ c ∷ d ∷ []))
    (ap (λ (l : List ℕ). codes "O" ++ (octal a ++ (octal b ++ (octal c ++ l)))) (last_word d))
words_lines (a ∷ b ∷ c ∷ d ∷ e ∷ ws) =
    ap₂ (λ (l m : List ℕ). line (codes "O" ++ (octal a ++ (octal b ++ (octal c ++ (octal d ++ l))))) ++ m) (last_word e) (words_lines ws)

-- a file
file_lines : (f : OwnedFile) → file_cards f ≡ flat_map line (file_texts f)
file_lines f = ap (λ (l : List ℕ). line (file_text f) ++ l) (words_lines f.body.words)

-- the files
files_lines : (files : List OwnedFile) → flat_map file_cards files ≡ flat_map line (flat_map file_texts files)
files_lines [] = refl
files_lines (f ∷ files) = ap₂ (λ (a b : List ℕ). a ++ b) (file_lines f) (files_lines files) ∙ sym (flat_map-append line (file_texts f) (flat_map file_texts files))

-- the events
events_lines : (events : List Timed) → flat_map event_card events ≡ flat_map line (map timed_text events)
events_lines [] = refl
events_lines (e ∷ events) = ap (λ (l : List ℕ). event_card e ++ l) (events_lines events)

-- the end
end_lines : (end : ℕ) → end_card end ≡ flat_map line (end_text end ∷ [])
end_lines end = sym (append-nil (end_card end))

-- two lists of cards, one behind the other
joined : (a b : List ℕ) (xs ys : List (List ℕ)) → a ≡ flat_map line xs → b ≡ flat_map line ys → a ++ b ≡ flat_map line (xs ++ ys)
joined a b xs ys h k = ap₂ (λ (x y : List ℕ). x ++ y) h k ∙ sym (flat_map-append line xs ys)

-- the canonical text is the lines of all cards
pub text_is_lines : (s : Script) → script_text_of s ≡ flat_map line (cards_of s)
unfolding script_text_of
text_is_lines s =
    ap (λ (l : List ℕ). param_card s.params ++ l)
    (joined (user_cards 1 s.accounts) _ (user_texts 1 s.accounts) (files_texts s.files s.events s.end) (users_lines 1 s.accounts)
    (joined (flat_map file_cards s.files) _ (flat_map file_texts s.files) (events_texts s.events s.end) (files_lines s.files)
    (joined (flat_map event_card s.events) (end_card s.end) (map timed_text s.events) (end_text s.end ∷ []) (events_lines s.events) (end_lines s.end))))

-- the cards are clean

-- numbers are clean
numbers_clean : (ns : List ℕ) → All IsNumber ns → is_clean (flat_map number ns) ≡ true
numbers_clean [] small = refl
numbers_clean (n ∷ ns) small = clean_both (number n) (flat_map number ns) (number_clean n (All-head IsNumber n ns small)) (numbers_clean ns (All-tail IsNumber n ns small))

-- PARAM is clean
pub param_clean : (p : Params) → All IsNumber (card_numbers p) → is_clean (param_text p) ≡ true
param_clean p small = numbers_clean (card_numbers p) small

-- USER is clean
pub user_clean : (n : ℕ) (a : Account) → IsNumber n → IsName a.name → IsName a.password → IsNumber a.blocks → IsNumber a.tracks → is_clean (user_text n a) ≡ true
user_clean n a count called password blocks tracks =
    clean_both (number n) _ (number_clean n count)
    (clean_both (name a.name) _ (name_clean a.name called)
    (clean_both (name a.password) _ (name_clean a.password password)
    (clean_both (number a.blocks) (number a.tracks) (number_clean a.blocks blocks) (number_clean a.tracks tracks))))

-- FILE is clean
pub file_clean : (f : OwnedFile) → IsNumber f.owner → IsName f.body.name.first → IsName f.body.name.second → IsNumber f.body.mode → is_clean (file_text f) ≡ true
file_clean f owner first second mode =
    clean_both (number f.owner) _ (number_clean f.owner owner)
    (clean_both (name f.body.name.first) _ (name_clean f.body.name.first first)
    (clean_both (name f.body.name.second) (number f.body.mode) (name_clean f.body.name.second second) (number_clean f.body.mode mode)))

-- words in octal are clean
octals_clean : (ws : List ℕ) → is_clean (flat_map octal ws) ≡ true
octals_clean [] = refl
octals_clean (w ∷ ws) = clean_both (octal w) (flat_map octal ws) (octal_clean w) (octals_clean ws)

-- O cards are clean
pub words_clean : (ws : List ℕ) → list_all is_clean (word_texts ws) ≡ true
words_clean [] = refl
words_clean (a ∷ []) = and_from (is_clean (words_text (a ∷ []))) true (octals_clean (a ∷ [])) refl
words_clean (a ∷ b ∷ []) = and_from (is_clean (words_text (a ∷ b ∷ []))) true (octals_clean (a ∷ b ∷ [])) refl
words_clean (a ∷ b ∷ c ∷ []) = and_from (is_clean (words_text (a ∷ b ∷ c ∷ []))) true (octals_clean (a ∷ b ∷ c ∷ [])) refl
words_clean (a ∷ b ∷ c ∷ d ∷ []) = and_from (is_clean (words_text (a ∷ b ∷ c ∷ d ∷ []))) true (octals_clean (a ∷ b ∷ c ∷ d ∷ [])) refl
words_clean (a ∷ b ∷ c ∷ d ∷ e ∷ ws) = and_from (is_clean (words_text (a ∷ b ∷ c ∷ d ∷ e ∷ []))) (list_all is_clean (word_texts ws)) (octals_clean (a ∷ b ∷ c ∷ d ∷ e ∷ [])) (words_clean ws)

-- an event is clean
event_clean : (e : Event) → IsLawfulEvent e → is_clean (event_text e) ≡ true
event_clean event.Dial h = refl
event_clean (event.Line []) h = refl
event_clean (event.Line (c ∷ cs)) h = all_weaker is_character is_shown character_shown (c ∷ cs) h.characters
event_clean event.Quit h = refl
event_clean event.Hang h = refl

-- AT is clean
pub timed_clean : (e : Timed) → IsNumber e.tick → IsNumber e.console → IsLawfulEvent e.event → is_clean (timed_text e) ≡ true
timed_clean e tick console h =
    clean_both (number e.tick) _ (number_clean e.tick tick) (clean_both (number e.console) (event_text e.event) (number_clean e.console console) (event_clean e.event h))

-- END is clean
pub end_clean : (tick : ℕ) → IsNumber tick → is_clean (end_text tick) ≡ true
end_clean tick h = number_clean tick h
