-- What the words ask for, by the places at which they stand.
use Rattle.std.proofs.Common.{◌≡◌, ◌∙◌, ℕ, Bool, true, false, ◌||◌, ◌&&◌, not, List, [], ◌∷◌, Option, Some, None, cond, codes, refl, sym, ap, true≢false}
use Rattle.std.specs.List.{list_any, starts_with}
use Rattle.std.specs.Prelude.{bytes_eq, nat_eq, option_to_list}
use Rattle.std.specs.Option.{option_and_then, option_map}
use Rattle.text_model.specs.declared.mode.Mode.{Mode}
use Rattle.text_model.specs.Words.{NoValue, PortValue, SortedWords, TurnsValue, is_option, mode_by, mode_of, sorted, with_port, with_turns}
use Rattle.command_line.specs.Places.{Placed, is_named_option, is_other_option, placed_by, placed_of, words_at}

abbrev asked_of : Placed → Option Mode
asked_of p = mode_by (words_at p.mode p.number) (option_to_list p.port) (option_to_list p.turns)

asked_by : (plain ports turns : List (List ℕ)) → option_and_then asked_of (placed_by plain ports turns) ≡ mode_by plain ports turns
asked_by plain (p ∷ q ∷ ps) turns = refl
asked_by plain [] (t ∷ u ∷ ts) = refl
asked_by plain (p ∷ []) (t ∷ u ∷ ts) = refl
asked_by [] [] [] = refl
asked_by (w ∷ []) [] [] = refl
asked_by (w ∷ n ∷ []) [] [] = refl
asked_by (w ∷ n ∷ x ∷ ws) [] [] = refl
asked_by [] [] (t ∷ []) = refl
asked_by (w ∷ []) [] (t ∷ []) = refl
asked_by (w ∷ n ∷ []) [] (t ∷ []) = refl
asked_by (w ∷ n ∷ x ∷ ws) [] (t ∷ []) = refl
asked_by [] (p ∷ []) [] = refl
asked_by (w ∷ []) (p ∷ []) [] = refl
asked_by (w ∷ n ∷ []) (p ∷ []) [] = refl
asked_by (w ∷ n ∷ x ∷ ws) (p ∷ []) [] = refl
asked_by [] (p ∷ []) (t ∷ []) = refl
asked_by (w ∷ []) (p ∷ []) (t ∷ []) = refl
asked_by (w ∷ n ∷ []) (p ∷ []) (t ∷ []) = refl
asked_by (w ∷ n ∷ x ∷ ws) (p ∷ []) (t ∷ []) = refl

asked_sorted : (o : Option SortedWords)
    → option_and_then asked_of (option_and_then (λ (s : SortedWords). placed_by s.plain s.ports s.turns) o)
    ≡ option_and_then (λ (s : SortedWords). mode_by s.plain s.ports s.turns) o
asked_sorted None = refl
asked_sorted (Some s) = asked_by s.plain s.ports s.turns

asked_words : (words : List (List ℕ)) → option_and_then asked_of (placed_of words) ≡ mode_of words
asked_words words = asked_sorted (sorted NoValue words)

pub unplaced : (words : List (List ℕ)) → None ≡ placed_of words → None ≡ mode_of words
unplaced words e = ap (option_and_then asked_of) e ∙ asked_words words

pub asked_at : (words : List (List ℕ)) (w n p t : Option (List ℕ)) → Some (record { mode = w; number = n; port = p; turns = t }) ≡ placed_of words
    → mode_by (words_at w n) (option_to_list p) (option_to_list t) ≡ mode_of words
asked_at words w n p t e = ap (option_and_then asked_of) e ∙ asked_words words

-- ---- words with another option

stays_none : (b : Bool) (o : Option SortedWords) (f : SortedWords → SortedWords) → o ≡ None → cond b None (option_map f o) ≡ None
stays_none true o f e = refl
stays_none false o f e = ap (option_map f) e

abbrev chosen : (a b c d e : Bool) → (port turns port_given turns_given plain : Option SortedWords) → Option SortedWords
chosen a b c d e port turns port_given turns_given plain =
    cond a port (cond b turns (cond c port_given (cond d turns_given (cond e None plain))))

other_none : (a b c d e : Bool) (port turns port_given turns_given plain : Option SortedWords) → (e && not (a || (b || (c || d)))) ≡ true
    → chosen a b c d e port turns port_given turns_given plain ≡ None
other_none a b c d false port turns port_given turns_given plain h = absurd (true≢false (sym h))
other_none true b c d true port turns port_given turns_given plain h = absurd (true≢false (sym h))
other_none false true c d true port turns port_given turns_given plain h = absurd (true≢false (sym h))
other_none false false true d true port turns port_given turns_given plain h = absurd (true≢false (sym h))
other_none false false false true true port turns port_given turns_given plain h = absurd (true≢false (sym h))
other_none false false false false true port turns port_given turns_given plain h = refl

rest_none : (a b c d e : Bool) (port turns port_given turns_given plain : Option SortedWords) → port ≡ None → turns ≡ None → port_given ≡ None → turns_given ≡ None
    → plain ≡ None → chosen a b c d e port turns port_given turns_given plain ≡ None
rest_none true b c d e port turns port_given turns_given plain h1 h2 h3 h4 h5 = h1
rest_none false true c d e port turns port_given turns_given plain h1 h2 h3 h4 h5 = h2
rest_none false false true d e port turns port_given turns_given plain h1 h2 h3 h4 h5 = h3
rest_none false false false true e port turns port_given turns_given plain h1 h2 h3 h4 h5 = h4
rest_none false false false false true port turns port_given turns_given plain h1 h2 h3 h4 h5 = refl
rest_none false false false false false port turns port_given turns_given plain h1 h2 h3 h4 h5 = h5

begins : (b c : Bool) → (b && c) ≡ true → b ≡ true
begins true c h = refl
begins false c h = h

record Unsorted (words : List (List ℕ)) : Type 0 where
  idle : sorted NoValue words ≡ None
  port : sorted PortValue words ≡ None
  turns : sorted TurnsValue words ≡ None

unsorted_at : (w : List ℕ) (words : List (List ℕ)) → is_other_option w ≡ true → Unsorted (w ∷ words)
unsorted_at w words h =
    let option : is_option w ≡ true = begins (is_option w) (not (is_named_option w)) h in
    record {
      idle = other_none (bytes_eq w (codes "--port")) (bytes_eq w (codes "--turns")) (starts_with nat_eq w (codes "--port=")) (starts_with nat_eq w (codes "--turns="))
          (is_option w) _ _ _ _ _ h;
      port = ap (λ b. cond b None (option_map (with_port w) (sorted NoValue words))) option;
      turns = ap (λ b. cond b None (option_map (with_turns w) (sorted NoValue words))) option;
    }

unsorted_behind : (w : List ℕ) (words : List (List ℕ)) → Unsorted words → Unsorted (w ∷ words)
unsorted_behind w words u =
    record {
      idle = rest_none (bytes_eq w (codes "--port")) (bytes_eq w (codes "--turns")) (starts_with nat_eq w (codes "--port=")) (starts_with nat_eq w (codes "--turns="))
          (is_option w) _ _ _ _ _ u.port u.turns (ap (option_map _) u.idle) (ap (option_map _) u.idle) (ap (option_map _) u.idle);
      port = stays_none (is_option w) (sorted NoValue words) (with_port w) u.idle;
      turns = stays_none (is_option w) (sorted NoValue words) (with_turns w) u.idle;
    }

unsorted : (words : List (List ℕ)) → list_any is_other_option words ≡ true → Unsorted words
unsorted [] h = absurd (true≢false (sym h))
unsorted (w ∷ words) h = go (is_other_option w) refl h (unsorted words)
  where
    go : (b : Bool) → is_other_option w ≡ b → (b || list_any is_other_option words) ≡ true → (list_any is_other_option words ≡ true → Unsorted words) → Unsorted (w ∷ words)
    go true e h2 rest = unsorted_at w words e
    go false e h2 rest = unsorted_behind w words (rest h2)

pub other_refused : (words : List (List ℕ)) → list_any is_other_option words ≡ true → None ≡ mode_of words
other_refused words h = sym (ap (option_and_then (λ (s : SortedWords). mode_by s.plain s.ports s.turns)) (unsorted words h).idle)
