-- The cards of a lawful script, taken one after another, make that script.
use Rattle.std.proofs.Common.{◌≡◌, ℕ, suc, ◌+◌, ◌≤◌, Bool, true, false, not, ◌&&◌, ◌||◌, nat_eq, nat_le, List, [], ◌∷◌, ◌++◌, length, map, sum, Option, Some, None, refl, sym, ap, subst, ◌∙◌, append_assoc, length-append, arith}
use Rattle.std.specs.Prelude.{option_to_list}
use Rattle.std.specs.List.{All, list_any, list_all, flat_map}
use Rattle.std.specs.List.Sorted.{IsNonDecreasing}
use Rattle.std.specs.Str.Lines.{lines}
use Rattle.std.proofs.lemmas.Bool.{and_parts, and_from, and_left, and_right, or_parts, or_from, not-true, le-leb}
use Rattle.std.proofs.lemmas.Bool.Decides.{nat_tests}
use Rattle.std.proofs.lemmas.List.{append-nil}
use Rattle.std.proofs.lemmas.List.Elements.{All-head, All-tail, All-take, All-drop}
use Rattle.std.proofs.lemmas.List.Folds.{list_any-append}
use Rattle.std.proofs.lemmas.List.Sorted.{IsNonDecreasingBy-drop}
use Rattle.std.proofs.lemmas.List.Sums.{sum-map, sum_by-cons}
use Rattle.ctss_types.specs.Names.{NamePair}
use Rattle.ctss_types.specs.declared.script.Script.{Script}
use Rattle.ctss_types.specs.declared.script.Params.{Params}
use Rattle.ctss_types.specs.declared.script.Account.{Account}
use Rattle.ctss_types.specs.declared.script.Timed.{Timed}
use Rattle.ctss_types.specs.declared.file.FileBody.{FileBody}
use Rattle.ctss_types.specs.declared.file.OwnedFile.{OwnedFile}
use Rattle.file_model.specs.Files.{same_name, tracks_of, tracks_of_words}
use Rattle.file_model.specs.Owned.{files_of}
use Rattle.file_model.proofs.Owned.{files_of_both, tracks_of_both, tracks_with_own}
use Rattle.text_model.specs.Canonical.{script_text_of}
use Rattle.text_model.specs.Drafts.{empty_draft, max_tick, quota_of, is_same_file}
use Rattle.text_model.specs.Reading.{script_of, max_bytes, blocks_of, names_differ}
use Rattle.text_model.specs.Lawful.{IsLawfulAccount, IsLawfulFile, IsLawfulEvent, accounts_differ, IsLawful, CanonicalTextsAreRead}
use Rattle.text_model.proofs.ParamLaws.{card_numbers_below}
use Rattle.script_laws.proofs.Lines.{is_clean, lines_of_cards, all_clean_both}
use Rattle.script_laws.proofs.Fields.{IsWord}
use Rattle.script_laws.proofs.Texts.{param_text, words_text, user_text, user_texts, word_texts, file_text, file_texts, timed_text, end_text, events_texts, files_texts, cards_of, text_is_lines, param_clean, user_clean, file_clean, words_clean, timed_clean, end_clean}
use Rattle.script_laws.proofs.Taken.{Reads, one_read, draft, HasLimits, param_taken, HasRoom, user_taken, part, Takes, HasPlace, file_taken, words_taken, HasTime, event_taken, end_taken}

-- accounts

-- an account within its limits
abbrev IsGood : Account → Type 0
IsGood a = IsLawfulAccount a × (a.blocks ≤ 128)

-- the tracks of all accounts together
abbrev tracks_in : List Account → ℕ
tracks_in accounts = sum (map (λ (a : Account). a.tracks) accounts)

-- an account of this name
abbrev is_called : ℕ → Account → Bool
is_called name a = nat_eq a.name name

-- numbers that differ, turned round
turned : (m n : ℕ) → nat_eq m n ≡ false → nat_eq n m ≡ false
turned m n h = grind (arith, nat_tests)

-- an account's name is none of those before it
own_name : (done : List Account) (a : Account) (todo : List Account) → accounts_differ (done ++ a ∷ todo) ≡ true → list_any (is_called a.name) done ≡ false
own_name [] a todo h = refl
own_name (b ∷ bs) a todo h =
    let parts = and_parts (not (list_any (is_called b.name) (bs ++ a ∷ todo))) (accounts_differ (bs ++ a ∷ todo)) h in
    let none : (list_any (is_called b.name) bs || list_any (is_called b.name) (a ∷ todo)) ≡ false = sym (list_any-append (is_called b.name) bs (a ∷ todo)) ∙ not-true _ parts.0 in
    let behind = or_parts (list_any (is_called b.name) bs) (list_any (is_called b.name) (a ∷ todo)) none in
    let other = or_parts (nat_eq a.name b.name) (list_any (is_called b.name) todo) behind.1 in
    or_from (nat_eq b.name a.name) (list_any (is_called a.name) bs) (turned a.name b.name other.0) (own_name bs a todo parts.1)

-- the first of a sum
sum_first : {X : Type 0} (f : X → ℕ) (x : X) (xs : List X) → sum (map f (x ∷ xs)) ≡ f x + sum (map f xs)
sum_first f x xs = sum-map f (x ∷ xs) ∙ sum_by-cons f x xs ∙ ap (λ (n : ℕ). f x + n) (sym (sum-map f xs))

-- accounts that are taken one after another
accounts_read : (p : Params) (todo done : List Account) (n held used : ℕ) (more : List (List ℕ)) (s : Script) → n ≡ length done + 1 → length done + length todo ≤ 30
    → held + blocks_of todo ≤ p.drum → p.common + used + tracks_in todo ≤ p.disk → All IsGood todo → accounts_differ (done ++ todo) ≡ true
    → ((x y : ℕ) → Reads (draft p (done ++ todo) x y [] None [] 0) more s) → Reads (draft p done held used [] None [] 0) (user_texts n todo ++ more) s
accounts_read p [] done n held used more s next few drum disk good differ k = subst (λ (l : List Account). Reads (draft p l held used [] None [] 0) more s) (append-nil done) (k held used)
accounts_read p (a ∷ todo) done n held used more s next few drum disk good differ k =
    let whole : (done ++ a ∷ []) ++ todo ≡ done ++ a ∷ todo = append_assoc done (a ∷ []) todo in
    let one : IsGood a = All-head IsGood a todo good in
    let size : length (done ++ a ∷ []) ≡ length done + 1 = length-append done (a ∷ []) in
    let blocks : blocks_of (a ∷ todo) ≡ a.blocks + blocks_of todo = sum_first (λ (x : Account). x.blocks) a todo in
    let tracks : tracks_in (a ∷ todo) ≡ a.tracks + tracks_in todo = sum_first (λ (x : Account). x.tracks) a todo in
    let room : HasRoom p done held used n a =
    record {
      next = next;
      few = omega arith;
      name = one.0.name;
      password = one.0.password;
      some = one.0.blocks;
      blocks = one.1;
      tracks = one.0.tracks;
      drum = omega arith;
      disk = omega arith;
      own = own_name done a todo differ;
    } in
    one_read (draft p done held used [] None [] 0) (draft p (done ++ a ∷ []) (held + a.blocks) (used + a.tracks) [] None [] 0) (user_text n a) (user_texts (suc n) todo ++ more) s (user_taken p done held used n a room)
    (accounts_read p todo (done ++ a ∷ []) (suc n) (held + a.blocks) (used + a.tracks) more s (omega arith) (omega arith) (omega arith) (omega arith) (All-tail IsGood a todo good)
    (subst (λ (l : List Account). accounts_differ l ≡ true) (sym whole) differ)
    (λ x y. subst (λ (l : List Account). Reads (draft p l x y [] None [] 0) more s) (sym whole) (k x y)))

-- the words of a file, five by five

-- one card of words
words_once : (p : Params) (accounts : List Account) (held used : ℕ) (done : List OwnedFile) (f : OwnedFile) (w : ℕ) (ws vs : List ℕ) (more : List (List ℕ)) (s : Script)
    → length ws ≤ 4 → length vs + length (w ∷ ws) ≤ length f.body.words → All IsWord (w ∷ ws) → ((us : List ℕ) → length us ≤ length f.body.words → Takes accounts done (part f us))
    → Reads (draft p accounts held used done (Some (part f (vs ++ w ∷ ws))) [] 0) more s → Reads (draft p accounts held used done (Some (part f vs)) [] 0) (words_text (w ∷ ws) ∷ more) s
words_once p accounts held used done f w ws vs more s some few all takes k =
    let size : length (vs ++ w ∷ ws) ≡ length vs + length (w ∷ ws) = length-append vs (w ∷ ws) in
    one_read (draft p accounts held used done (Some (part f vs)) [] 0) (draft p accounts held used done (Some (part f (vs ++ w ∷ ws))) [] 0) (words_text (w ∷ ws)) more s
    (words_taken p accounts held used done f vs w ws some all (takes (vs ++ w ∷ ws) (omega arith))) k

-- all words of a file
words_read : (p : Params) (accounts : List Account) (held used : ℕ) (done : List OwnedFile) (f : OwnedFile) (ws vs : List ℕ) (more : List (List ℕ)) (s : Script)
    → length vs + length ws ≤ length f.body.words → All IsWord ws → ((us : List ℕ) → length us ≤ length f.body.words → Takes accounts done (part f us))
    → Reads (draft p accounts held used done (Some (part f (vs ++ ws))) [] 0) more s → Reads (draft p accounts held used done (Some (part f vs)) [] 0) (word_texts ws ++ more) s
words_read p accounts held used done f [] vs more s few all takes k =
    subst (λ (us : List ℕ). Reads (draft p accounts held used done (Some (part f us)) [] 0) more s) (append-nil vs) k
words_read p accounts held used done f (a ∷ []) vs more s few all takes k = words_once p accounts held used done f a [] vs more s (omega arith) few all takes k
words_read p accounts held used done f (a ∷ b ∷ []) vs more s few all takes k = words_once p accounts held used done f a (b ∷ []) vs more s (omega arith) few all takes k
words_read p accounts held used done f (a ∷ b ∷ c ∷ []) vs more s few all takes k = words_once p accounts held used done f a (b ∷ c ∷ []) vs more s (omega arith) few all takes k
words_read p accounts held used done f (a ∷ b ∷ c ∷ d ∷ []) vs more s few all takes k = words_once p accounts held used done f a (b ∷ c ∷ d ∷ []) vs more s (omega arith) few all takes k
words_read p accounts held used done f (a ∷ b ∷ c ∷ d ∷ e ∷ ws) vs more s few all takes k =
    let five : List ℕ = a ∷ b ∷ c ∷ d ∷ e ∷ [] in
    let front : All IsWord five = All-take IsWord 5 (a ∷ b ∷ c ∷ d ∷ e ∷ ws) all in
    let rest : All IsWord ws = All-drop IsWord 5 (a ∷ b ∷ c ∷ d ∷ e ∷ ws) all in
    let size : length (vs ++ five) ≡ length vs + 5 = length-append vs five in
    words_once p accounts held used done f a (b ∷ c ∷ d ∷ e ∷ []) vs (word_texts ws ++ more) s (omega arith) (omega arith) front takes
    (words_read p accounts held used done f ws (vs ++ five) more s (omega arith) rest takes
    (subst (λ (us : List ℕ). Reads (draft p accounts held used done (Some (part f us)) [] 0) more s) (sym (append_assoc vs five ws)) k))

-- files

-- a file of an account
abbrev HasSeat : List Account → OwnedFile → Type 0
HasSeat accounts f = IsLawfulFile f × (1 ≤ f.owner) × (f.owner ≤ length accounts) × (f.body.mode ≤ 3)

-- two names, turned round
same_name_turned : (a b : NamePair) → same_name a b ≡ same_name b a
same_name_turned a b =
    let first : nat_eq a.first b.first ≡ nat_eq b.first a.first = grind (arith, nat_tests) in
    let second : nat_eq a.second b.second ≡ nat_eq b.second a.second = grind (arith, nat_tests) in
    rw (first, second) refl

-- a user owns its own
owns : (u : ℕ) → nat_eq u u ≡ true
owns u = grind (arith, nat_tests)

-- a user's files with this one among them
among : (f : OwnedFile) (gs rest : List OwnedFile) → files_of f.owner (gs ++ f ∷ rest) ≡ files_of f.owner gs ++ f.body ∷ files_of f.owner rest
among f gs rest = files_of_both f.owner gs (f ∷ rest) ∙ rw (owns f.owner) refl

-- a file of this name
abbrev has_name : NamePair → FileBody → Bool
has_name n f = same_name n f.name

-- one file before this one is another
other_at : (f g : OwnedFile) (gs rest : List OwnedFile) (b : Bool) → nat_eq g.owner f.owner ≡ b → names_differ (files_of f.owner (g ∷ (gs ++ f ∷ rest))) ≡ true
    → (names_differ (files_of f.owner (gs ++ f ∷ rest)) ≡ true → list_any (is_same_file f) gs ≡ false) → list_any (is_same_file f) (g ∷ gs) ≡ false
other_at f g gs rest true e h more =
    let differ : (not (list_any (has_name g.body.name) (files_of f.owner (gs ++ f ∷ rest))) && names_differ (files_of f.owner (gs ++ f ∷ rest))) ≡ true = rw e at h in
    let parts = and_parts (not (list_any (has_name g.body.name) (files_of f.owner (gs ++ f ∷ rest)))) (names_differ (files_of f.owner (gs ++ f ∷ rest))) differ in
    let none : list_any (has_name g.body.name) (files_of f.owner gs ++ f.body ∷ files_of f.owner rest) ≡ false =
    ap (list_any (has_name g.body.name)) (sym (among f gs rest)) ∙ not-true (list_any (has_name g.body.name) (files_of f.owner (gs ++ f ∷ rest))) parts.0 in
    let behind =
    or_parts (list_any (has_name g.body.name) (files_of f.owner gs)) (list_any (has_name g.body.name) (f.body ∷ files_of f.owner rest))
    (sym (list_any-append (has_name g.body.name) (files_of f.owner gs) (f.body ∷ files_of f.owner rest)) ∙ none) in
    let other = or_parts (same_name g.body.name f.body.name) (list_any (has_name g.body.name) (files_of f.owner rest)) behind.1 in
    or_from (is_same_file f g) (list_any (is_same_file f) gs) (and_right (nat_eq f.owner g.owner) (same_name f.body.name g.body.name) (same_name_turned f.body.name g.body.name ∙ other.0)) (more parts.1)
other_at f g gs rest false e h more =
    or_from (is_same_file f g) (list_any (is_same_file f) gs) (and_left (nat_eq f.owner g.owner) (same_name f.body.name g.body.name) (turned g.owner f.owner e)) (more (rw e at h))

-- a file is none of those before it
own_file : (f : OwnedFile) (gs rest : List OwnedFile) → names_differ (files_of f.owner (gs ++ f ∷ rest)) ≡ true → list_any (is_same_file f) gs ≡ false
own_file f [] rest h = refl
own_file f (g ∷ gs) rest h = other_at f g gs rest (nat_eq g.owner f.owner) refl h (own_file f gs rest)

-- fewer words take no more tracks
fewer_tracks : (a b : ℕ) → a ≤ b → tracks_of_words a ≤ tracks_of_words b
fewer_tracks a b h = omega arith

-- a part of a file takes no more tracks than all files do
part_takes : (f : OwnedFile) (done rest : List OwnedFile) (us : List ℕ) → length us ≤ length f.body.words
    → tracks_of (files_of f.owner (done ++ part f us ∷ [])) ≤ tracks_of (files_of f.owner (done ++ f ∷ rest))
part_takes f done rest us h =
    let some : tracks_of (files_of f.owner (done ++ part f us ∷ [])) ≡ tracks_of (files_of f.owner done) + tracks_of_words (length us) = tracks_with_own f.owner done (part f us) (owns f.owner) in
    let all : tracks_of (files_of f.owner (done ++ f ∷ rest)) ≡ tracks_of (files_of f.owner done) + (tracks_of_words (length f.body.words) + tracks_of (files_of f.owner rest)) =
    ap tracks_of (among f done rest)
    ∙ tracks_of_both (files_of f.owner done) (f.body ∷ files_of f.owner rest)
    ∙ ap (λ (n : ℕ). tracks_of (files_of f.owner done) + n) (sum_first (λ (g : FileBody). tracks_of_words (length g.words)) f.body (files_of f.owner rest)) in
    rw (some, all) (omega (arith, fewer_tracks (length us) (length f.body.words) h))

-- files that are taken one after another
files_read : (p : Params) (accounts : List Account) (held used : ℕ) (whole todo front : List OwnedFile) (last : Option OwnedFile) (more : List (List ℕ)) (s : Script) → length accounts ≤ 30
    → ((u : ℕ) → names_differ (files_of u whole) ≡ true) → ((u : ℕ) → 1 ≤ u → u ≤ length accounts → tracks_of (files_of u whole) ≤ quota_of u accounts)
    → (front ++ option_to_list last) ++ todo ≡ whole → All (HasSeat accounts) todo
    → ((x : List OwnedFile) (y : Option OwnedFile) → x ++ option_to_list y ≡ whole → Reads (draft p accounts held used x y [] 0) more s)
    → Reads (draft p accounts held used front last [] 0) (flat_map file_texts todo ++ more) s
files_read p accounts held used whole [] front last more s few names tracks is seats k = k front last (sym (append-nil (front ++ option_to_list last)) ∙ is)
files_read p accounts held used whole (f ∷ todo) front last more s few names tracks is seats k =
    let done : List OwnedFile = front ++ option_to_list last in
    let one : HasSeat accounts f = All-head (HasSeat accounts) f todo seats in
    let file : IsLawfulFile f = one.0 in
    let named : names_differ (files_of f.owner (done ++ f ∷ todo)) ≡ true = subst (λ (l : List OwnedFile). names_differ (files_of f.owner l) ≡ true) (sym is) (names f.owner) in
    let room : tracks_of (files_of f.owner (done ++ f ∷ todo)) ≤ quota_of f.owner accounts =
    subst (λ (l : List OwnedFile). tracks_of (files_of f.owner l) ≤ quota_of f.owner accounts) (sym is) (tracks f.owner one.1 one.2) in
    let takes : (us : List ℕ) → length us ≤ length f.body.words → Takes accounts done (part f us) = λ us h. omega (arith, part_takes f done todo us h, room) in
    let place : HasPlace accounts done f =
    record { low = one.1; high = one.2; few = few; mode = one.3; first = file.first; second = file.second; own = own_file f done todo named; takes = takes [] (omega arith) } in
    let rest : List (List ℕ) = flat_map file_texts todo ++ more in
    one_read (draft p accounts held used front last [] 0) (draft p accounts held used done (Some (part f [])) [] 0) (file_text f) ((word_texts f.body.words ++ flat_map file_texts todo) ++ more) s
    (file_taken p accounts held used front last f place)
    (subst (λ (l : List (List ℕ)). Reads (draft p accounts held used done (Some (part f [])) [] 0) l s) (sym (append_assoc (word_texts f.body.words) (flat_map file_texts todo) more))
    (words_read p accounts held used done f f.body.words [] rest s (omega arith) file.words takes
    (files_read p accounts held used whole todo done (Some f) more s few names tracks (append_assoc done (f ∷ []) todo ∙ is) (All-tail (HasSeat accounts) f todo seats) k)))

-- events

-- the tick of an event
abbrev tick_of : Timed → ℕ
tick_of e = e.tick

-- events from a tick on, in order
abbrev Follow : ℕ → List Timed → Type 0
Follow tick [] = Unit {0}
Follow tick (x ∷ xs) = HasTime tick x × Follow x.tick xs

-- an event within its limits
abbrev IsFine : ℕ → Timed → Type 0
IsFine end x = (x.tick ≤ end) × (1 ≤ x.console) × (x.console ≤ 32) × IsLawfulEvent x.event

-- events whose ticks do not fall follow one another
follows : (end tick : ℕ) (xs : List Timed) → end ≤ max_tick → All (λ n. tick ≤ n) (map tick_of xs) → All (IsFine end) xs → IsNonDecreasing (map tick_of xs) → Follow tick xs
follows end tick [] soon later fine up = tt
follows end tick (x ∷ xs) soon later fine up =
    let one : IsFine end x = All-head (IsFine end) x xs fine in
    let first : tick ≤ x.tick = All-head (λ n. tick ≤ n) x.tick (map tick_of xs) later in
    let behind : All (λ n. x.tick ≤ n) (map tick_of xs) = λ k d h. up 0 (suc k) d (omega arith) (omega arith) in (
      record { later = first; soon = omega arith; low = one.1; high = one.2; event = one.3 },
      follows end x.tick xs soon behind (All-tail (IsFine end) x xs fine) (IsNonDecreasingBy-drop (λ n. n) 1 (map tick_of (x ∷ xs)) up),
    )

-- events that are taken one after another
events_read : (p : Params) (accounts : List Account) (held used : ℕ) (files : List OwnedFile) (file : Option OwnedFile) (end tick : ℕ) (todo done : List Timed) (more : List (List ℕ)) (s : Script)
    → tick ≤ end → Follow tick todo → All (IsFine end) todo → ((t : ℕ) → t ≤ end → Reads (draft p accounts held used files file (done ++ todo) t) more s)
    → Reads (draft p accounts held used files file done tick) (map timed_text todo ++ more) s
events_read p accounts held used files file end tick [] done more s later times fine k =
    subst (λ (l : List Timed). Reads (draft p accounts held used files file l tick) more s) (append-nil done) (k tick later)
events_read p accounts held used files file end tick (x ∷ xs) done more s later times fine k =
    let one : IsFine end x = All-head (IsFine end) x xs fine in
    one_read (draft p accounts held used files file done tick) (draft p accounts held used files file (done ++ x ∷ []) x.tick) (timed_text x) (map timed_text xs ++ more) s
    (event_taken p accounts held used files file done tick x times.0)
    (events_read p accounts held used files file end x.tick xs (done ++ x ∷ []) more s one.0 times.1 (All-tail (IsFine end) x xs fine)
    (λ t h. subst (λ (l : List Timed). Reads (draft p accounts held used files file l t) more s) (sym (append_assoc done (x ∷ []) xs)) (k t h)))

-- the whole script

-- the end makes the script
end_reads : (p : Params) (accounts : List Account) (held used : ℕ) (files : List OwnedFile) (file : Option OwnedFile) (events : List Timed) (tick end : ℕ) (all : List OwnedFile)
    → tick ≤ end → end ≤ max_tick → files ++ option_to_list file ≡ all
    → Reads (draft p accounts held used files file events tick) (end_text end ∷ []) (record { params = p; accounts = accounts; files = all; events = events; end = end })
end_reads p accounts held used files file events tick end all later soon is =
    subst (λ (l : List OwnedFile). Reads (draft p accounts held used files file events tick) (end_text end ∷ []) (record { params = p; accounts = accounts; files = l; events = events; end = end })) is
    (one_read (draft p accounts held used files file events tick) (record (draft p accounts held used files file events tick) { end = Some end }) (end_text end) []
    (record { params = p; accounts = accounts; files = files ++ option_to_list file; events = events; end = end }) (end_taken p accounts held used files file events tick end later soon) (λ k. refl))

-- what a lawful script says of its params
limits_of : (s : Script) → IsLawful s → HasLimits s.params
limits_of s h = record { within = h.params; common = omega (arith, h.fits) }

-- of its accounts
goods_of : (s : Script) → IsLawful s → All IsGood s.accounts
goods_of s h = λ k d i. (h.accounts k d i, h.range.blocks k d i)

-- of its files
seats_of : (s : Script) → IsLawful s → All (HasSeat s.accounts) s.files
seats_of s h = λ k d i. let owner = h.range.owners k d i in (h.files k d i, owner.0, owner.1, h.range.modes k d i)

-- and of its events
fine_of : (s : Script) → IsLawful s → All (IsFine s.end) s.events
fine_of s h = λ k d i. let seat = h.range.seats k d i in (h.ends k d i, seat.0, seat.1, h.events k d i)

-- the cards of a lawful script make it
pub cards_read : (s : Script) → IsLawful s → Reads empty_draft (cards_of s) s
cards_read s h =
    let fine : All (IsFine s.end) s.events = fine_of s h in
    let times : Follow 0 s.events = follows s.end 0 s.events h.range.ticks (λ k d i. omega arith) fine h.order in
    one_read empty_draft (draft s.params [] 0 0 [] None [] 0) (param_text s.params) (user_texts 1 s.accounts ++ files_texts s.files s.events s.end) s (param_taken s.params (limits_of s h))
    (accounts_read s.params s.accounts [] 1 0 0 (files_texts s.files s.events s.end) s (omega arith) (omega (arith, h.range.few)) (omega (arith, h.range.fits)) (omega (arith, h.fits)) (goods_of s h) h.differ (λ x y.
    files_read s.params s.accounts x y s.files s.files [] None (events_texts s.events s.end) s h.range.few h.range.names h.range.tracks refl (seats_of s h) (λ front last is.
    events_read s.params s.accounts x y front last s.end 0 s.events [] (end_text s.end ∷ []) s (omega arith) times fine (λ t later.
    end_reads s.params s.accounts x y front last s.events t s.end s.files later h.range.ticks is))))

-- its cards are clean

-- the accounts are clean
users_clean : (n : ℕ) (accounts : List Account) → n + length accounts ≤ 31 → All IsGood accounts → list_all is_clean (user_texts n accounts) ≡ true
users_clean n [] few good = refl
users_clean n (a ∷ accounts) few good =
    let one : IsGood a = All-head IsGood a accounts good in
    and_from (is_clean (user_text n a)) (list_all is_clean (user_texts (suc n) accounts))
    (user_clean n a (omega arith) one.0.name one.0.password (omega (arith, one.1)) (omega (arith, one.0.tracks)))
    (users_clean (suc n) accounts (omega arith) (All-tail IsGood a accounts good))

-- the files are clean
files_clean : (accounts : List Account) (files : List OwnedFile) → length accounts ≤ 30 → All (HasSeat accounts) files → list_all is_clean (flat_map file_texts files) ≡ true
files_clean accounts [] few seats = refl
files_clean accounts (f ∷ files) few seats =
    let one : HasSeat accounts f = All-head (HasSeat accounts) f files seats in
    all_clean_both (file_texts f) (flat_map file_texts files)
    (and_from (is_clean (file_text f)) (list_all is_clean (word_texts f.body.words)) (file_clean f (omega (arith, one.2)) one.0.first one.0.second (omega (arith, one.3))) (words_clean f.body.words))
    (files_clean accounts files few (All-tail (HasSeat accounts) f files seats))

-- the events are clean
events_clean : (end : ℕ) (events : List Timed) → end ≤ max_tick → All (IsFine end) events → list_all is_clean (map timed_text events) ≡ true
events_clean end [] soon fine = refl
events_clean end (e ∷ events) soon fine =
    let one : IsFine end e = All-head (IsFine end) e events fine in
    and_from (is_clean (timed_text e)) (list_all is_clean (map timed_text events)) (timed_clean e (omega (arith, one.0)) (omega (arith, one.2)) one.3)
    (events_clean end events soon (All-tail (IsFine end) e events fine))

-- all cards are clean
cards_clean : (s : Script) → IsLawful s → list_all is_clean (cards_of s) ≡ true
cards_clean s h =
    and_from _ (list_all is_clean (user_texts 1 s.accounts ++ files_texts s.files s.events s.end)) (param_clean s.params (card_numbers_below s.params h.params))
    (all_clean_both (user_texts 1 s.accounts) (files_texts s.files s.events s.end) (users_clean 1 s.accounts (omega (arith, h.range.few)) (goods_of s h))
    (all_clean_both (flat_map file_texts s.files) (events_texts s.events s.end) (files_clean s.accounts s.files h.range.few (seats_of s h))
    (all_clean_both (map timed_text s.events) (end_text s.end ∷ []) (events_clean s.end s.events h.range.ticks (fine_of s h))
    (and_from (is_clean (end_text s.end)) true (end_clean s.end (omega (arith, h.range.ticks))) refl))))

-- a text that is not too long
fits : (n : ℕ) → n ≤ max_bytes → nat_le n max_bytes ≡ true
fits n h = le-leb n max_bytes h

-- the canonical text of a lawful script reads as that script
pub canonical_texts_are_read : CanonicalTextsAreRead
unfolding script_of
canonical_texts_are_read s h size =
    let read : lines (script_text_of s) ≡ cards_of s = ap lines (text_is_lines s) ∙ lines_of_cards (cards_of s) (cards_clean s h) in
    rw (fits (length (script_text_of s)) size, read) (cards_read s h 1)
