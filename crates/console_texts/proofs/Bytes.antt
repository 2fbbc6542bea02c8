-- A byte more of a text that is copied.
use Rattle.std.proofs.Common.{◌≡◌, ℕ, zero, suc, true, nat_lt, map, ◌+◌, ◌-◌, ◌<◌, ◌≤◌, List, [], ◌∷◌, ◌++◌, length, take, drop, get_or, set, append_assoc, refl, sym, ◌∙◌, ap, arith}
use Rattle.std.proofs.lemmas.List.{length-append, drop-append-le, take-append-le, length-drop, length-take, drop_more, set_at, take_more, take_all, get_or-map, length-map}
use Rattle.std.proofs.Math.Seq.{take-length}
use Rattle.time_sharing.specs.Machine.{Item}
use Rattle.time_sharing.specs.Texts.{written, sent}
use Rattle.console_texts.specs.declared.copying.Window.{Window}
use Rattle.console_texts.specs.Parts.{Transcripts, Kept, text_of, text_at}
use Rattle.console_texts.specs.Copying.{IsCopied}
use Rattle.console_texts.proofs.Laws.{written-append, sent-append}

-- the slice keeps its length
length_kept : (from : ℕ) (text slice into : List ℕ) (w : Window) → IsCopied from text slice w into → length into ≡ length slice
length_kept from text slice into w h =
    let e = ap (λ (xs : List ℕ). length xs) h.bytes in
    let a = length-append (take w.at (drop from text)) (drop w.at slice) in
    let t = length-take w.at (drop from text) in
    let d = length-drop from text in
    let s = length-drop w.at slice in
    let k = h.at in
    omega (arith, e, a, t, d, s, k)

long_by : (text : List ℕ) (x : ℕ) → length (text ++ x ∷ []) ≡ length text + 1
long_by text x = length-append text (x ∷ [])

-- what stands before the place is passed over
pub passed : (from n : ℕ) (text more slice into : List ℕ) (w : Window) → IsCopied from text slice w into → length more ≡ n → 0 < n → n ≤ w.skip → IsCopied from (text ++ more) slice (record w { skip = w.skip - n }) into
passed from n text more slice into w h long more_than few =
    let a = length-append text more in
    let k = h.skip in
    let m = h.at in
    let none : w.at ≡ 0 = omega (arith, k, m, few, more_than) in
    record {
      skip = omega (arith, k, a, long, few);
      at = omega (arith, none, k, a, long, few);
      bytes = h.bytes ∙ ap (λ (i : ℕ). take i (drop from text) ++ drop i slice) none ∙ ap (λ (i : ℕ). take i (drop from (text ++ more)) ++ drop i slice) (sym none);
    }

pub byte_passed : (from : ℕ) (text slice into : List ℕ) (w : Window) (x : ℕ) → IsCopied from text slice w into → 0 < w.skip → IsCopied from (text ++ x ∷ []) slice (record w { skip = w.skip - 1 }) into
byte_passed from text slice into w x h some = passed from 1 text (x ∷ []) slice into w h refl (omega arith) (omega (arith, some))

pub byte_put : (from : ℕ) (text slice into : List ℕ) (w : Window) (x : ℕ) → IsCopied from text slice w into → w.skip ≤ 0 → w.at < length into
    → IsCopied from (text ++ x ∷ []) slice (record w { at = w.at + 1 }) (set into w.at x)
byte_put from text slice into w x h none some =
    let n = length_kept from text slice into w h in
    let k = h.skip in
    let m = h.at in
    let within : from ≤ length text = omega (arith, k, none) in
    let here : w.at ≡ length text - from = omega (arith, m, n, some) in
    let d = length-drop from text in
    let front : take w.at (drop from text) ≡ drop from text = ap (λ (i : ℕ). take i (drop from text)) (here ∙ sym d) ∙ take-length (drop from text) in
    let whole : drop from (text ++ x ∷ []) ≡ drop from text ++ x ∷ [] = drop-append-le from text (x ∷ []) within in
    let a = long_by text x in
    let b = long_by (drop from text) x in
    let full : w.at + 1 ≡ length (drop from text ++ x ∷ []) = omega (arith, here, d, b) in
    record {
      skip = omega (arith, k, none, a, within);
      at = omega (arith, here, a, n, some, within);
      bytes =
          ap (λ (xs : List ℕ). set xs w.at x) (h.bytes ∙ ap (λ (xs : List ℕ). xs ++ drop w.at slice) front)
          ∙ set_end (drop from text) slice w.at x (here ∙ sym d) (omega (arith, n, some))
          ∙ sym (append_assoc (drop from text) (x ∷ []) (drop (w.at + 1) slice))
          ∙ ap (λ (xs : List ℕ). xs ++ drop (w.at + 1) slice) (sym (ap (take (w.at + 1)) whole ∙ ap (λ (i : ℕ). take i (drop from text ++ x ∷ [])) full ∙ take-length (drop from text ++ x ∷ [])));
    }
  where
    set_end : (front slice : List ℕ) (i x : ℕ) → i ≡ length front → i < length slice → set (front ++ drop i slice) i x ≡ front ++ x ∷ drop (i + 1) slice
    set_end front slice i x is lt = ap (λ (xs : List ℕ). set (front ++ xs) i x) (drop_more slice i 0 lt) ∙ set_at front _ _ x i (sym is)

pub byte_over : (from : ℕ) (text slice into : List ℕ) (w : Window) (x : ℕ) → IsCopied from text slice w into → w.skip ≤ 0 → length into ≤ w.at → IsCopied from (text ++ x ∷ []) slice w into
byte_over from text slice into w x h none full =
    let n = length_kept from text slice into w h in
    let k = h.skip in
    let m = h.at in
    let within : from ≤ length text = omega (arith, k, none) in
    let d = length-drop from text in
    let a = long_by text x in
    record {
      skip = omega (arith, k, none, a, within);
      at = omega (arith, m, n, full, a, within);
      bytes = h.bytes ∙ ap (λ (xs : List ℕ). xs ++ drop w.at slice) (sym (ap (take w.at) (drop-append-le from text (x ∷ []) within) ∙ take-append-le w.at (drop from text) (x ∷ []) (omega (arith, m, d))));
    }

pub text_more : (text bytes : List ℕ) (i d : ℕ) → i < length bytes → (text ++ take i bytes) ++ get_or bytes i d ∷ [] ≡ text ++ take (i + 1) bytes
text_more text bytes i d within = append_assoc text (take i bytes) (get_or bytes i d ∷ []) ∙ ap (λ (xs : List ℕ). text ++ xs) (sym (take_more bytes i d within))

pub text_whole : (text bytes : List ℕ) (i : ℕ) → length bytes ≤ i → text ++ take i bytes ≡ text ++ bytes
text_whole text bytes i h = ap (λ (xs : List ℕ). text ++ xs) (take_all i bytes h)

pub items_more : (text : List ℕ) (items : List Item) (i : ℕ) (x : Item) → i < length items → x ≡ get_or items i x
    → (text ++ sent (written (take i items))) ++ sent (written (x ∷ [])) ≡ text ++ sent (written (take (i + 1) items))
items_more text items i x within is =
    append_assoc text (sent (written (take i items))) (sent (written (x ∷ [])))
    ∙ ap (λ (xs : List ℕ). text ++ xs)
    (sym (sent-append (written (take i items)) (written (x ∷ []))) ∙ ap sent (sym (written-append (take i items) (x ∷ [])))
    ∙ ap (λ (is : List Item). sent (written is)) (ap (λ (y : Item). take i items ++ y ∷ []) is ∙ sym (take_more items i x within)))

pub items_whole : (text : List ℕ) (items : List Item) (i : ℕ) → length items ≤ i → text ++ sent (written (take i items)) ≡ text ++ sent (written items)
items_whole text items i h = ap (λ (is : List Item). text ++ sent (written is)) (take_all i items h)

pub items_count : (items : List Item) (i : ℕ) (x : Item) → i < length items → x ≡ get_or items i x
    → length (sent (written (take (i + 1) items))) ≡ length (sent (written (take i items))) + length (sent (written (x ∷ [])))
items_count items i x within is = ap (λ (xs : List ℕ). length xs) (sym (items_more [] items i x within is)) ∙ length-append (sent (written (take i items))) (sent (written (x ∷ [])))

-- nothing of the text is copied yet
pub copied_none : (from : ℕ) (slice : List ℕ) → IsCopied from [] slice (record { skip = from; at = 0 }) slice
copied_none from slice = record { skip = omega arith; at = omega arith; bytes = refl }

-- the row of a console's number
pub text_found : (ts : Transcripts) (rows found : List Kept) (c n : ℕ) (k : Kept) → found ≡ rows → n ≡ c → 0 < n → true ≡ nat_lt (n - 1) (length found) → k ≡ get_or found (n - 1) k → text_at ts rows c ≡ text_of ts k.shown
text_found ts rows found c n k same number some within is =
    ap (λ (ks : List Kept). text_at ts ks c) (sym same) ∙ ap (λ (i : ℕ). text_at ts found i) (sym number) ∙ found_at n some (grind (arith, within)) is
  where
    found_at : (i : ℕ) → 0 < i → i - 1 < length found → k ≡ get_or found (i - 1) k → text_at ts found i ≡ text_of ts k.shown
    found_at zero h lt e = absurd (omega arith)
    found_at (suc m) h lt e =
        let one : suc m - 1 ≡ m = omega arith in
        let inside : m < length found = omega (arith, lt) in
        let long = length-map found (λ (x : Kept). x.shown) in
        get_or-map (text_of ts) (map (λ (x : Kept). x.shown) found) m k.shown [] (omega (arith, long, inside))
        ∙ ap (text_of ts) (get_or-map (λ (x : Kept). x.shown) found m k k.shown inside ∙ ap (λ (x : Kept). x.shown) (ap (λ (j : ℕ). get_or found j k) (sym one) ∙ sym e))
