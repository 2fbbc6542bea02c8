-- Files of one directory that are read one after another: what each read tells is told by one list of files.
use Rattle.std.proofs.Common.{◌≡◌, ℕ, Bool, true, false, ◌&&◌, nat_eq, if◌then◌else◌, List, [], ◌∷◌, length, map, find, replicate, Option, Some, None, refl, sym, ap, ap₂, ◌∙◌, subst, arith, eqb-true}
use Rattle.std.specs.declared.result.Result.{Result}
use Rattle.std.proofs.lemmas.Bool.{and_parts, false≢true}
use Rattle.std.proofs.lemmas.Bool.Decides.{nat_tests}
use Rattle.ctss_types.specs.Names.{NamePair}
use Rattle.ctss_types.specs.declared.file.FileBody.{FileBody}
use Rattle.file_model.specs.Files.{same_name, is_named, file_named, got, got_of}
use Rattle.file_map.specs.Known.{blank, known}

-- the files of a list, but those of a name from another list
abbrev pub exchanged : NamePair → (files others : List FileBody) → List FileBody
exchanged name [] others = []
exchanged name (f ∷ files) [] = []
exchanged name (f ∷ files) (g ∷ others) = (if is_named name f then g else f) ∷ exchanged name files others

abbrev head_or : FileBody → List FileBody → FileBody
head_or d [] = d
head_or d (f ∷ files) = f

abbrev tail_of : List FileBody → List FileBody
tail_of [] = []
tail_of (f ∷ files) = files

-- lists of the same files, as far as is known
same_head : (f g : FileBody) (files others : List FileBody) → map blank (f ∷ files) ≡ map blank (g ∷ others) → blank f ≡ blank g
same_head f g files others h = ap (head_or (blank f)) h

same_tail : (f g : FileBody) (files others : List FileBody) → map blank (f ∷ files) ≡ map blank (g ∷ others) → map blank files ≡ map blank others
same_tail f g files others h = ap tail_of h

same_names : (name : NamePair) (f g : FileBody) → blank f ≡ blank g → is_named name f ≡ is_named name g
same_names name f g h = ap (λ (x : FileBody). is_named name x) h

one_blank : (b : Bool) (f g : FileBody) → blank f ≡ blank g → blank (if b then g else f) ≡ blank f
one_blank true f g h = sym h
one_blank false f g h = refl

exchanged_known : (name : NamePair) (files others : List FileBody) → map blank files ≡ map blank others → map blank (exchanged name files others) ≡ map blank files
exchanged_known name [] others h = refl
exchanged_known name (f ∷ files) [] h = absurd cc
exchanged_known name (f ∷ files) (g ∷ others) h =
    ap₂ (λ (x : FileBody) (l : List FileBody). x ∷ l) (one_blank (is_named name f) f g (same_head f g files others h))
    (exchanged_known name files others (same_tail f g files others h))

exchanged_named : (name : NamePair) (files others : List FileBody) → map blank files ≡ map blank others → file_named name (exchanged name files others) ≡ file_named name others
exchanged_named name [] [] h = refl
exchanged_named name [] (g ∷ others) h = absurd cc
exchanged_named name (f ∷ files) [] h = absurd cc
exchanged_named name (f ∷ files) (g ∷ others) h =
    by_test (is_named name f) refl (exchanged_named name files others (same_tail f g files others h))
  where
    same : is_named name f ≡ is_named name g
    same = same_names name f g (same_head f g files others h)

    by_test : (b : Bool) → is_named name f ≡ b → file_named name (exchanged name files others) ≡ file_named name others
        → file_named name (exchanged name (f ∷ files) (g ∷ others)) ≡ file_named name (g ∷ others)
    by_test true e rest =
        let too : is_named name g ≡ true = sym same ∙ e in
        ap (λ (b : Bool). file_named name ((if b then g else f) ∷ exchanged name files others)) e
        ∙ ap (λ (b : Bool). if b then Some g else file_named name (exchanged name files others)) too
        ∙ sym (ap (λ (b : Bool). if b then Some g else file_named name others) too)
    by_test false e rest =
        let too : is_named name g ≡ false = sym same ∙ e in
        ap (λ (b : Bool). file_named name ((if b then g else f) ∷ exchanged name files others)) e
        ∙ ap (λ (b : Bool). if b then Some f else file_named name (exchanged name files others)) e
        ∙ rest ∙ sym (ap (λ (b : Bool). if b then Some g else file_named name others) too)

-- a file has one name
one_name : (name other : NamePair) (f : FileBody) → same_name other name ≡ false → is_named name f ≡ true → is_named other f ≡ false
one_name name other f apart h = by_test (is_named other f) refl
  where
    by_test : (b : Bool) → is_named other f ≡ b → b ≡ false
    by_test false e = refl
    by_test true e =
        let here = and_parts (nat_eq f.name.first name.first) (nat_eq f.name.second name.second) h in
        let there = and_parts (nat_eq f.name.first other.first) (nat_eq f.name.second other.second) e in
        let first : nat_eq other.first name.first ≡ true =
        ap₂ nat_eq (sym (eqb-true f.name.first other.first there.0)) refl ∙ here.0 in
        let second : nat_eq other.second name.second ≡ true =
        ap₂ nat_eq (sym (eqb-true f.name.second other.second there.1)) refl ∙ here.1 in
        let same : same_name other name ≡ true = ap₂ (λ (a b : Bool). a && b) first second in
        absurd (false≢true (sym apart ∙ same))

exchanged_other : (name other : NamePair) (files others : List FileBody) → same_name other name ≡ false → map blank files ≡ map blank others
    → file_named other (exchanged name files others) ≡ file_named other files
exchanged_other name other [] others apart h = refl
exchanged_other name other (f ∷ files) [] apart h = absurd cc
exchanged_other name other (f ∷ files) (g ∷ others) apart h =
    by_test (is_named name f) refl (exchanged_other name other files others apart (same_tail f g files others h))
  where
    same : is_named other f ≡ is_named other g
    same = same_names other f g (same_head f g files others h)

    by_test : (b : Bool) → is_named name f ≡ b → file_named other (exchanged name files others) ≡ file_named other files
        → file_named other (exchanged name (f ∷ files) (g ∷ others)) ≡ file_named other (f ∷ files)
    by_test false e rest = by_other (is_named other f) refl
      where
        by_other : (c : Bool) → is_named other f ≡ c → file_named other (exchanged name (f ∷ files) (g ∷ others)) ≡ file_named other (f ∷ files)
        by_other true k = rw (e, k) refl
        by_other false k = rw (e, k) rest
    by_test true e rest =
        let not_f : is_named other f ≡ false = one_name name other f apart e in
        let not_g : is_named other g ≡ false = sym same ∙ not_f in
        rw (e, not_f, not_g) rest

-- one list for both
pub record Joined (tells : Bool) (files fs gs : List FileBody) (name : NamePair) : Type 0 where
  pub all : List FileBody
  pub are : known tells all ≡ files
  pub read : got name all ≡ got name gs
  pub others : (other : NamePair) → same_name other name ≡ false → got other all ≡ got other fs

-- What was read of files, and then of one more that none of those was, is read of one list of files.
pub joined : (tells : Bool) (files fs gs : List FileBody) (name : NamePair) → known tells fs ≡ files → known tells gs ≡ files → Joined tells files fs gs name
unfolding known
joined true files fs gs name h k =
    let same : fs ≡ gs = h ∙ sym k in
    record { all = fs; are = h; read = ap (got name) same; others = λ other apart. refl }
joined false files fs gs name h k =
    let same : map blank fs ≡ map blank gs = h ∙ sym k in
    record {
      all = exchanged name fs gs;
      are = exchanged_known name fs gs same ∙ h;
      read = ap got_of (exchanged_named name fs gs same);
      others = λ other apart. ap got_of (exchanged_other name other fs gs apart same);
    }
