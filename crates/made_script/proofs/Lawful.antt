-- Every made script is lawful.
use Rattle.std.proofs.Common.{◌≡◌, ◌<◌, ◌≤◌, ◌+◌, ◌*◌, ◌%◌, ◌^◌, ℕ, zero, suc, Bool, true, ◌&&◌, nat_le, List, [], ◌∷◌, ◌++◌, length, map, sum, codes, refl, ◌∙◌, arith}
use Rattle.std.specs.Prelude.{bytes_eq}
use Rattle.std.specs.Fmt.{digits}
use Rattle.std.specs.List.{All, list_all}
use Rattle.std.specs.List.Sorted.{IsNonDecreasing}
use Rattle.std.proofs.lemmas.Bool.{and_parts, agree_below_at}
use Rattle.std.proofs.lemmas.List.Elements.{All-nil, All-cons, All-map, All-from_recursion}
use Rattle.std.proofs.lemmas.Slice.Eq.{bytes_eq-Decides}
use Rattle.std.proofs.lemmas.List.Sums.{sum_by-cons}
use Rattle.std.proofs.lemmas.List.Sorted.{IsNonDecreasingBy-short}
use Rattle.bcd48.specs.Characters.{is_character}
use Rattle.ctss_types.specs.Line.{trimmed}
use Rattle.ctss_types.specs.Words.{name_of}
use Rattle.ctss_types.specs.declared.script.Account.{Account}
use Rattle.ctss_types.specs.declared.script.Timed.{Timed}
use Rattle.text_model.specs.Fields.{is_within}
use Rattle.text_model.specs.Lawful.{is_name_character, IsName, IsTyped, IsLawfulAccount, IsLawfulFile, IsLawfulEvent, accounts_differ, IsLawful}
use Rattle.text_model.specs.Made.{user_count, numbered, account_at, made_accounts, drawn, draw_of, made_words, file_at, made_files, events_at, made_events, made_script}
use Rattle.text_model.proofs.Drafted.{at_most, within}
use Rattle.made_script.proofs.Range.{all_events, whatever, few_users, made_in_range}

-- names and lines by computing

-- a text of 1 to 6 characters that aren't blanks
abbrev is_name_text : List ℕ → Bool
is_name_text text = is_within 1 6 (length text) && list_all is_name_character text

-- its word is a name
name_is : (text : List ℕ) → is_name_text text ≡ true → IsName (name_of text)
name_is text h =
    let parts = and_parts (is_within 1 6 (length text)) (list_all is_name_character text) h in
    let size = within 1 6 (length text) parts.0 in
    record { text = text; word_is = refl; some = size.0; few = size.1; characters = parts.1 }

-- the names of 30 users
user_name : (i : ℕ) → i ≤ 30 → IsName (name_of (numbered (codes "U") i))
unfolding digits
user_name i few = name_is (numbered (codes "U") i) (agree_below_at (λ k. is_name_text (numbered (codes "U") k)) (λ k. true) 31 i refl (omega arith))

-- and their passwords
user_password : (i : ℕ) → i ≤ 30 → IsName (name_of (numbered (codes "P") i))
unfolding digits
user_password i few = name_is (numbered (codes "P") i) (agree_below_at (λ k. is_name_text (numbered (codes "P") k)) (λ k. true) 31 i refl (omega arith))

-- a line that can be typed
abbrev is_typed_text : List ℕ → Bool
is_typed_text line = nat_le (length line) 84 && list_all is_character line && bytes_eq (trimmed line) line

-- that line is typed
line_is : (line : List ℕ) → is_typed_text line ≡ true → IsTyped line
line_is line h =
    let parts = and_parts (nat_le (length line) 84 && list_all is_character line) (bytes_eq (trimmed line) line) h in
    let front = and_parts (nat_le (length line) 84) (list_all is_character line) parts.0 in
    record { few = at_most (length line) 84 front.0; characters = front.1; ends = (bytes_eq-Decides (trimmed line) line).0 parts.1 }

-- the lines of 30 users that log in
login_line : (i : ℕ) → i ≤ 30 → IsTyped (codes "LOGIN " ++ numbered (codes "U") i)
unfolding digits
login_line i few = line_is (codes "LOGIN " ++ numbered (codes "U") i) (agree_below_at (λ k. is_typed_text (codes "LOGIN " ++ numbered (codes "U") k)) (λ k. true) 31 i refl (omega arith))

-- and of their passwords
password_line : (i : ℕ) → i ≤ 30 → IsTyped (numbered (codes "P") i)
unfolding digits
password_line i few = line_is (numbered (codes "P") i) (agree_below_at (λ k. is_typed_text (numbered (codes "P") k)) (λ k. true) 31 i refl (omega arith))

-- accounts

-- the tracks of all accounts together
tracks_of_accounts : (k i : ℕ) → sum (map (λ (a : Account). a.tracks) (made_accounts k i)) ≡ 5 * k
tracks_of_accounts zero i = refl
tracks_of_accounts (suc k) i =
    let rest = tracks_of_accounts k (suc i) in
    sum_by-cons (λ (n : ℕ). n) 5 (map (λ (a : Account). a.tracks) (made_accounts k (suc i))) ∙ omega (arith, rest)

-- each account is lawful
accounts_are_lawful : (k i : ℕ) → k + i ≤ 31 → All IsLawfulAccount (made_accounts k i)
accounts_are_lawful zero i few = All-nil IsLawfulAccount
accounts_are_lawful (suc k) i few =
    All-cons IsLawfulAccount (account_at i) (made_accounts k (suc i))
    (record { name = user_name i (omega arith); password = user_password i (omega arith); blocks = omega arith; tracks = omega arith })
    (accounts_are_lawful k (suc i) (omega arith))

-- no two of 30 accounts have the same name
names_differ : (k : ℕ) → k ≤ 30 → accounts_differ (made_accounts k 1) ≡ true
unfolding name_of digits
names_differ k few = agree_below_at (λ m. accounts_differ (made_accounts m 1)) (λ m. true) 31 k refl (omega arith)

-- files

-- a word has 36 bits
abbrev IsWord : ℕ → Type 0
IsWord w = w < 2 ^ 36

-- the words of a program
words_are : (blocks count : ℕ) → blocks ≤ 16 → count < 1100 → All IsWord (made_words blocks count)
words_are blocks count low high =
    All-from_recursion IsWord (made_words blocks count)
    (omega arith, (omega arith, (omega arith, (omega arith, (omega arith, (omega arith, (omega arith, (omega arith, (omega arith, (omega arith, (omega arith, (omega arith, tt))))))))))))

-- each file is lawful
files_are_lawful : (k i x : ℕ) → All IsLawfulFile (made_files k i x)
files_are_lawful zero i x = All-nil IsLawfulFile
files_are_lawful (suc k) i x =
    All-cons IsLawfulFile (file_at i x) (made_files k (suc i) (drawn (drawn x)))
    (record {
      first = name_is (codes "LOOP") refl;
      second = name_is (codes "BSS") refl;
      words = words_are (1 + draw_of x % 16) (100 + draw_of (drawn x) % 1000) (omega arith) (omega arith);
    })
    (files_are_lawful k (suc i) (drawn (drawn x)))

-- events

-- a lawful event at its tick
abbrev IsLawfulTimed : Timed → Type 0
IsLawfulTimed e = IsLawfulEvent e.event

-- what a user does is lawful
session_is_lawful : (i : ℕ) → i ≤ 30 → All IsLawfulTimed (events_at i)
session_is_lawful i few =
    All-from_recursion IsLawfulTimed (events_at i)
    (tt, (login_line i few, (password_line i few, (line_is (codes "LOADGO LOOP") refl, (line_is (codes "LOADGO LOOP") refl, (line_is (codes "LOGOUT") refl, tt))))))

-- the tick of an event
abbrev tick_of : Timed → ℕ
tick_of e = e.tick

-- a number in front of numbers that rise, and are no lower
rises : (x : ℕ) (xs : List ℕ) → All (λ n. x ≤ n) xs → IsNonDecreasing xs → IsNonDecreasing (x ∷ xs)
rises x xs low up zero zero d order below = omega arith
rises x xs low up zero (suc j) d order below = low j d (omega arith)
rises x xs low up (suc i) zero d order below = absurd (omega arith)
rises x xs low up (suc i) (suc j) d order below = up i j d (omega arith) (omega arith)

-- six times the same number in front
six_rise : (x : ℕ) (xs : List ℕ) → All (λ n. x ≤ n) xs → IsNonDecreasing xs → IsNonDecreasing (x ∷ x ∷ x ∷ x ∷ x ∷ x ∷ xs)
six_rise x xs low up =
    let P : ℕ → Type 0 = λ n. x ≤ n in
    let same : x ≤ x = omega arith in
    let low2 = All-cons P x xs same low in
    let low3 = All-cons P x (x ∷ xs) same low2 in
    let low4 = All-cons P x (x ∷ x ∷ xs) same low3 in
    let low5 = All-cons P x (x ∷ x ∷ x ∷ xs) same low4 in
    let low6 = All-cons P x (x ∷ x ∷ x ∷ x ∷ xs) same low5 in
    rises x (x ∷ x ∷ x ∷ x ∷ x ∷ xs) low6
    (rises x (x ∷ x ∷ x ∷ x ∷ xs) low5 (rises x (x ∷ x ∷ x ∷ xs) low4 (rises x (x ∷ x ∷ xs) low3 (rises x (x ∷ xs) low2 (rises x xs low up)))))

-- no user acts before the users in front
ticks_rise : (k i : ℕ) → IsNonDecreasing (map tick_of (made_events k i))
ticks_rise zero i = IsNonDecreasingBy-short (λ x. x) [] (omega arith)
ticks_rise (suc k) i =
    let later : All (λ e. 100 * i ≤ e.tick) (made_events k (suc i)) =
    all_events (λ e. 100 * i ≤ e.tick) k (suc i) (λ j low high. whatever (λ e. 100 * i ≤ e.tick) j (λ e. omega arith)) in
    six_rise (100 * i) (map tick_of (made_events k (suc i))) (All-map (λ n. 100 * i ≤ n) tick_of (made_events k (suc i)) later) (ticks_rise k (suc i))

-- scripts

-- every made script is lawful
pub made_is_lawful : (n : ℕ) → IsLawful (made_script n)
unfolding made_script
made_is_lawful n =
    let few : user_count n ≤ 30 = few_users n in
    record {
      range = made_in_range n;
      params = refl;
      fits = omega (arith, tracks_of_accounts (user_count n) 1);
      accounts = accounts_are_lawful (user_count n) 1 (omega arith);
      differ = names_differ (user_count n) few;
      files = files_are_lawful (user_count n) 1 n;
      events = all_events IsLawfulTimed (user_count n) 1 (λ j low high. session_is_lawful j (omega arith));
      order = ticks_rise (user_count n) 1;
      ends = all_events (λ e. e.tick ≤ 1000000) (user_count n) 1 (λ j low high. whatever (λ e. e.tick ≤ 1000000) j (λ e. omega arith));
    }
