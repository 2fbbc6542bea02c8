-- To replace a file's content is the same over files, and over what is known of them.
use Rattle.std.proofs.Common.{◌≡◌, ℕ, Bool, true, false, List, [], ◌∷◌, length, map, Option, Some, None, Ok, Err, refl, sym, ap, ◌∙◌}
use Rattle.std.specs.Prelude.{if◌then◌else◌, nat_le, sum}
use Rattle.std.proofs.lemmas.List.{length-replicate}
use Rattle.ctss_types.specs.Names.{NamePair}
use Rattle.ctss_types.specs.declared.file.FileBody.{FileBody}
use Rattle.ctss_types.specs.declared.file.Refusal.TheVariants.{ReadOnly, Quota}
use Rattle.file_model.specs.Files.{file_named, is_named, is_read_only, with_change, with_new, if_they_fit, tracks_of, tracks_of_words, put, put_of}
use Rattle.file_map.specs.Known.{blank, known, known_of}

blank_twice : (f : FileBody) → blank (blank f) ≡ blank f
blank_twice f = ap (λ (n : ℕ). record f { words = Rattle.std.specs.Prelude.replicate n 0 }) (length-replicate {A = ℕ} (length f.words) 0)

abbrev blank_option : Option FileBody → Option FileBody
blank_option None = None
blank_option (Some f) = Some (blank f)

named_blank : (name : NamePair) (fs : List FileBody) → file_named name (map blank fs) ≡ blank_option (file_named name fs)
named_blank name [] = refl
named_blank name (f ∷ fs) = by_test (is_named name f) (named_blank name fs)
  where
    by_test : (b : Bool) → file_named name (map blank fs) ≡ blank_option (file_named name fs)
        → (if b then Some (blank f) else file_named name (map blank fs)) ≡ blank_option (if b then Some f else file_named name fs)
    by_test true more = refl
    by_test false more = more

-- with one file changed in its words
abbrev rewritten : NamePair → List ℕ → List FileBody → List FileBody
rewritten name words fs = with_change name (λ g. record g { words = words }) fs

rewritten_known : (name : NamePair) (words : List ℕ) (fs : List FileBody) → map blank (rewritten name words (map blank fs)) ≡ map blank (rewritten name words fs)
rewritten_known name words [] = refl
rewritten_known name words (f ∷ fs) = λ i. by_test (is_named name f) i ∷ rewritten_known name words fs i
  where
    by_test : (b : Bool) → blank (if b then record (blank f) { words = words } else blank f) ≡ blank (if b then record f { words = words } else f)
    by_test true = refl
    by_test false = blank_twice f

counts_known : (fs : List FileBody) → map (λ (f : FileBody). tracks_of_words (length f.words)) (map blank fs) ≡ map (λ (f : FileBody). tracks_of_words (length f.words)) fs
counts_known [] = refl
counts_known (f ∷ fs) = λ i. tracks_of_words (length-replicate {A = ℕ} (length f.words) 0 i) ∷ counts_known fs i

tracks_known : (fs : List FileBody) → tracks_of (map blank fs) ≡ tracks_of fs
tracks_known fs = ap sum (counts_known fs)

new_known : (name : NamePair) (words : List ℕ) (fs : List FileBody) → map blank (with_new name words (map blank fs)) ≡ map blank (with_new name words fs)
new_known name words [] = refl
new_known name words (f ∷ fs) = λ i. blank_twice f i ∷ new_known name words fs i

-- what is known of files tells whether they fit
fit_known : (quota : ℕ) (fs gs : List FileBody) → map blank fs ≡ map blank gs → known_of false (if_they_fit quota fs) ≡ known_of false (if_they_fit quota gs)
unfolding known
fit_known quota fs gs same =
    let tracks : tracks_of fs ≡ tracks_of gs = sym (tracks_known fs) ∙ ap tracks_of same ∙ tracks_known gs in
    ap (λ (n : ℕ). known_of false (if nat_le n quota then Ok fs else Err Quota)) tracks ∙ by_test (nat_le (tracks_of gs) quota)
  where
    by_test : (b : Bool) → known_of false (if b then Ok fs else Err Quota) ≡ known_of false (if b then Ok gs else Err Quota)
    by_test true = ap (λ (hs : List FileBody). Ok hs) same
    by_test false = refl

put_of_known : (file : Option FileBody) (name : NamePair) (words : List ℕ) (quota : ℕ) (fs : List FileBody)
    → known_of false (put_of (blank_option file) name words quota (map blank fs)) ≡ known_of false (put_of file name words quota fs)
put_of_known None name words quota fs = fit_known quota (with_new name words (map blank fs)) (with_new name words fs) (new_known name words fs)
put_of_known (Some f) name words quota fs = by_test (is_read_only f) (fit_known quota (rewritten name words (map blank fs)) (rewritten name words fs) (rewritten_known name words fs))
  where
    by_test : (b : Bool) → known_of false (if_they_fit quota (rewritten name words (map blank fs))) ≡ known_of false (if_they_fit quota (rewritten name words fs))
        → known_of false (if b then Err ReadOnly else if_they_fit quota (rewritten name words (map blank fs))) ≡ known_of false (if b then Err ReadOnly else if_they_fit quota (rewritten name words fs))
    by_test true same = refl
    by_test false same = same

pub put_known : (tells : Bool) (name : NamePair) (words : List ℕ) (quota : ℕ) (fs : List FileBody) → known_of tells (put name words quota (known tells fs)) ≡ known_of tells (put name words quota fs)
unfolding known
put_known true name words quota fs = refl
put_known false name words quota fs =
    ap (λ (file : Option FileBody). known_of false (put_of file name words quota (map blank fs))) (named_blank name fs)
    ∙ put_of_known (file_named name fs) name words quota fs
