-- What is sent of a text that grows, by a count of bytes that stays where it can't grow.
use Rattle.std.specs.Prelude.{min, ◌^◌, length, take, drop}
use Rattle.std.proofs.Common.{◌≡◌, ℕ, ◌+◌, ◌-◌, ◌<◌, ◌≤◌, List, [], ◌++◌, refl, sym, ◌∙◌, ap, subst, arith, ◌⊎◌, inl, inr, length-append, length-drop}
use Rattle.std.proofs.lemmas.List.{append_assoc, drop-drop, drop_at, take_all, take_at, take-append-le}
use Rattle.std.proofs.Math.Seq.{take-nil}
use Rattle.console_server.specs.Visits.{IsSentFrom}

-- bytes at the beginning of others
abbrev pub Begins : List ℕ → List ℕ → Type 0
Begins xs whole = (more : List ℕ) × (whole ≡ xs ++ more)

abbrev pub most : ℕ
most = 2 ^ 64 - 1

decide : (a b : ℕ) → (a ≤ b) ⊎ (b < a)
decide a b = grind arith

-- some of a beginning is a beginning
some_begins : (n : ℕ) (xs whole : List ℕ) → Begins xs whole → take n xs ≡ take (min (length xs) n) whole
some_begins n xs whole h = by_size (decide n (length xs))
  where
    whole_is : take (min (length xs) n) whole ≡ take (min (length xs) n) (xs ++ h.0)
    whole_is = ap (take (min (length xs) n)) h.1

    by_size : (n ≤ length xs) ⊎ (length xs < n) → take n xs ≡ take (min (length xs) n) whole
    by_size (inl le) =
        let size : min (length xs) n ≡ n = omega (arith, le) in
        sym (take-append-le n xs h.0 le) ∙ ap (λ (k : ℕ). take k (xs ++ h.0)) (sym size) ∙ sym whole_is
    by_size (inr lt) =
        let size : min (length xs) n ≡ length xs = omega (arith, lt) in
        take_all n xs (omega (arith, lt)) ∙ sym (take_at xs h.0 (length xs) refl) ∙ ap (λ (k : ℕ). take k (xs ++ h.0)) (sym size) ∙ sym whole_is

module _ (top : ℕ) where
  -- what was sent so far of a text from a place on
  pub record IsSentTo (place : ℕ) (text sent : List ℕ) : Type 0 where
    pub exact : place + length sent ≤ top → Begins sent (drop place text)
    pub counted : take (top - place) sent ≡ take (min (length sent) (top - place)) (drop place text)
    pub within : length text ≤ top → place + length sent ≤ length text

  pub none_sent : (place : ℕ) (text : List ℕ) → place ≤ length text → IsSentTo place text []
  none_sent place text le =
      let none : min (length {A = ℕ} []) (top - place) ≡ 0 = omega arith in
      record {
        exact = λ h. (drop place text, refl);
        counted = take-nil (top - place) ∙ ap (λ (n : ℕ). take n (drop place text)) (sym none);
        within = λ h. omega (arith, le);
      }

  pub sent_on : (place now : ℕ) (text sent more : List ℕ) → now ≡ min (place + length sent) top → Begins more (drop now text) → IsSentTo place text sent → IsSentTo place text (sent ++ more)
  sent_on place now text sent more is begins h = by_count (decide (place + length sent) top)
    where
      long : length (sent ++ more) ≡ length sent + length more
      long = length-append sent more

      by_count : (place + length sent ≤ top) ⊎ (top < place + length sent) → IsSentTo place text (sent ++ more)
      by_count (inl le) =
          record {
            exact = λ k. all;
            counted = some_begins (top - place) (sent ++ more) (drop place text) all;
            within = λ short. fits (length text) place (length sent) (length more) (length begins.0) (length (sent ++ more)) (h.within short) size long;
          }
        where
          here : now ≡ place + length sent
          here = at_place (place + length sent) now is le
            where
              at_place : (n m : ℕ) → m ≡ min n top → n ≤ top → m ≡ n
              at_place n m e l = omega (arith, e, l)

          first : Begins sent (drop place text)
          first = h.exact le

          rest : drop now text ≡ first.0
          rest = ap (λ (n : ℕ). drop n text) here ∙ sym (drop-drop (length sent) place text) ∙ ap (drop (length sent)) first.1 ∙ drop_at sent first.0 (length sent) refl

          all : Begins (sent ++ more) (drop place text)
          all = (begins.0, first.1 ∙ ap (λ (l : List ℕ). sent ++ l) (sym rest ∙ begins.1) ∙ sym (append_assoc sent more begins.0))

          size : length text - place ≡ length sent + (length more + length begins.0)
          size =
              sym (length-drop place text) ∙ ap length first.1 ∙ length-append sent first.0
              ∙ ap (λ (n : ℕ). length sent + n) (ap length (sym rest ∙ begins.1) ∙ length-append more begins.0)

          fits : (all place now new rest both : ℕ) → place + now ≤ all → all - place ≡ now + (new + rest) → both ≡ now + new → place + both ≤ all
          fits all place now new rest both l e f = omega (arith, l, e, f)
      by_count (inr gt) =
          record {
            exact = λ k. absurd (over place (length sent) (length more) (length (sent ++ more)) long k gt);
            counted = take-append-le (top - place) sent more (enough place (length sent) gt) ∙ h.counted
                ∙ ap (λ (n : ℕ). take n (drop place text)) (both_full place (length sent) (length more) (length (sent ++ more)) long gt);
            within = λ short. absurd (too_long (length text) place (length sent) (h.within short) short gt);
          }
        where
          over : (place now new both : ℕ) → both ≡ now + new → place + both ≤ top → top < place + now → ⊥
          over place now new both e l g = omega (arith, e, l, g)

          enough : (place now : ℕ) → top < place + now → top - place ≤ now
          enough place now g = omega (arith, g)

          both_full : (place now new both : ℕ) → both ≡ now + new → top < place + now → min now (top - place) ≡ min both (top - place)
          both_full place now new both e g = omega (arith, e, g)

          too_long : (all place now : ℕ) → place + now ≤ all → all ≤ top → top < place + now → ⊥
          too_long all place now l m g = omega (arith, l, m, g)

  pub sent_same : (place : ℕ) (text sent next : List ℕ) → next ≡ sent → IsSentTo place text sent → IsSentTo place text next
  sent_same place text sent next is h = subst (IsSentTo place text) (sym is) h

  -- where the next byte comes from
  pub next_place : (place now sent new both : ℕ) → now ≡ min (place + sent) top → both ≡ sent + new → min (now + new) top ≡ min (place + both) top
  next_place place now sent new both e f = omega (arith, e, f)

  pub first_place : (place none : ℕ) → place ≤ top → none ≡ 0 → place ≡ min (place + none) top
  first_place place none le e = omega (arith, le, e)

-- so it is for a count of bytes
pub sent_from : (place : ℕ) (text sent : List ℕ) → IsSentTo most place text sent → IsSentFrom place text sent
sent_from place text sent h = record { whole = λ short. all (short_is (length text) short); counted = h.counted }
  where
    short_is : (n : ℕ) → n < 2 ^ 64 → n ≤ most
    short_is n lt = omega (arith, lt)

    both : (n m k : ℕ) → n ≤ m → m ≤ k → n ≤ k
    both n m k a b = omega (arith, a, b)

    all : length text ≤ most → sent ≡ take (length sent) (drop place text)
    all le =
        let begins = h.exact (both (place + length sent) (length text) most (h.within le) le) in
        sym (ap (take (length sent)) begins.1 ∙ take_at sent begins.0 (length sent) refl)
