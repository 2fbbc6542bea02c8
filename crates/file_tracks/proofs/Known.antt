-- The files that a port stands for, and those that its disk may have.
use Rattle.std.specs.Prelude.{Bool, Option, None, Some, Ok, Err, replicate}
use Rattle.std.specs.List.{All}
use Rattle.std.specs.declared.result.Result.{Result}
use Rattle.std.proofs.Common.{◌≡◌, ℕ, ◌≤◌, List, [], ◌∷◌, map, length, refl, sym, ◌∙◌, ap, subst}
use Rattle.std.proofs.lemmas.List.Elements.{All-head, All-tail}
use Rattle.faults.specs.Faults.{WhereTold}
use Rattle.ctss_types.specs.declared.file.FileBody.{FileBody}
use Rattle.ctss_types.specs.declared.file.Refusal.{Refusal}
use Rattle.file_map.specs.declared.fault.PortFault.{PortFault}
use Rattle.file_map.specs.declared.fault.PortFault.TheVariants.{Refused, Disk, NoMemory}
use Rattle.file_map.specs.Answers.{Answers, Leaves}
use Rattle.file_map.specs.Known.{blank, known, known_of, AnswersOver}
use Rattle.file_tracks.specs.Stored.{content, files_on, HasTracks, IsWhole, IsDirectory, MayBe, LeavesAny}
use Rattle.file_tracks.specs.Seen.{blank_of, tells_of, files_seen, seen_is_known}
use Rattle.file_tracks.specs.declared.table.Filed.{Filed}
use Rattle.file_tracks.proofs.Tables.{content-length}
use Rattle.file_tracks.proofs.Zeros.{rows_of, may_rows, reach_rows, rows_whole, rows_seen}

-- without its words a file is the same, whatever the contents are
blanks_are : (contents : List (List ℕ)) (fs : List Filed) → All HasTracks fs → All (IsWhole contents) fs → map blank (files_on contents fs) ≡ map blank_of fs
blanks_are contents [] tracks whole = refl
blanks_are contents (f ∷ fs) tracks whole =
    let here : length (content contents f) ≡ f.words = content-length contents f (All-head HasTracks f fs tracks) (All-head (IsWhole contents) f fs whole) in
    let more = blanks_are contents fs (All-tail HasTracks f fs tracks) (All-tail (IsWhole contents) f fs whole) in
    λ j. record { name = f.name; mode = f.mode; words = replicate (here j) 0 } ∷ more j

-- files that a disk may have are known as those that the port stands for
pub known_is : (told : Option (List (List ℕ))) (fs : List Filed) → All HasTracks fs → (contents : List (List ℕ)) → MayBe told contents → All (IsWhole contents) fs
    → known (tells_of told) (files_on contents fs) ≡ files_seen told fs
unfolding known tells_of files_seen
known_is None fs tracks contents may whole = blanks_are contents fs tracks whole
known_is (Some r) fs tracks contents may whole = ap (λ (x : List (List ℕ)). files_on x fs) (sym may)

pub answers_over : {T : Type 0} (told : Option (List (List ℕ))) (fs : List Filed) → All HasTracks fs → (result : Result T PortFault) (tells : List FileBody → Result T Refusal)
    → ((contents : List (List ℕ)) × (MayBe told contents × (All (IsWhole contents) fs × Answers result (tells (files_on contents fs)))))
    → AnswersOver (tells_of told) (files_seen told fs) result tells
answers_over told fs tracks result tells a = (files_on a.0 fs, (known_is told fs tracks a.0 a.1.0 a.1.1.0, a.1.1.1))

-- what holds with all contents with which tracks are whole holds of the files that the port stands for
pub with_seen : (P : List FileBody → Type 0) (told : Option (List (List ℕ))) (taken : List Bool) (quota used : ℕ) (fs : List Filed) → IsDirectory told taken quota used fs
    → ((contents : List (List ℕ)) → All (IsWhole contents) fs → P (files_on contents fs)) → P (files_seen told fs)
with_seen P told taken quota used fs usable h = subst P (rows_seen taken quota used fs told usable) (h (rows_of told (length taken)) (rows_whole taken quota used fs told usable))

-- a call that makes no call of the disk
pub with_both : (P : List FileBody → List FileBody → Type 0) (told : Option (List (List ℕ))) (taken taken' : List Bool) (quota used quota' used' : ℕ) (fs fs' : List Filed)
    → IsDirectory told taken quota used fs → IsDirectory told taken' quota' used' fs' → length taken' ≡ length taken
    → ((contents : List (List ℕ)) → P (files_on contents fs) (files_on contents fs')) → P (files_seen told fs) (files_seen told fs')
with_both P told taken taken' quota used quota' used' fs fs' usable works' many h =
    let one = rows_seen taken quota used fs told usable in
    let two = ap (λ (n : ℕ). files_on (rows_of told n) fs') (sym many) ∙ rows_seen taken' quota' used' fs' told works' in
    subst (λ (xs : List FileBody). P (files_seen told fs) xs) two (subst (λ (xs : List FileBody). P xs (files_on (rows_of told (length taken)) fs')) one (h (rows_of told (length taken))))

-- a call that writes
module _ (told : List FileBody → Result (List FileBody) Refusal) (old new : Option (List (List ℕ))) (taken : List Bool) (quota used : ℕ) (fs fs' : List Filed)
    (usable : IsDirectory old taken quota used fs) (reaches : WhereTold old (λ contents. length taken ≤ length contents)) where
  abbrev pub Any : Result (Unit {0}) PortFault → Type 0
  Any result = LeavesAny result told old new (length taken) fs fs'

  abbrev pub Now : Result (Unit {0}) PortFault → Type 0
  Now result = (now : List (List ℕ)) × (MayBe new now × (All (IsWhole now) fs' × Leaves result (told (files_seen old fs)) (files_seen old fs) (files_on now fs')))

  now_of : (result : Result (Unit {0}) PortFault) → Any result → Now result
  now_of result any =
      let a = any (rows_of old (length taken)) (may_rows old (length taken)) (reach_rows old (length taken) reaches) (rows_whole taken quota used fs old usable) in
      (a.0, (a.1.0, (a.1.1.0, subst (λ (xs : List FileBody). Leaves result (told xs) xs (files_on a.0 fs')) (rows_seen taken quota used fs old usable) a.1.1.1)))

  module _ (tracked : All HasTracks fs') (tells : tells_of new ≡ tells_of old) where
    -- what is left is known as what the port stands for then
    known_now : (now : List (List ℕ)) → MayBe new now → All (IsWhole now) fs' → known (tells_of old) (files_on now fs') ≡ files_seen new fs'
    known_now now may whole = ap (λ (t : Bool). known t (files_on now fs')) (sym tells) ∙ known_is new fs' tracked now may whole

    stays_seen : (now : List (List ℕ)) → MayBe new now → All (IsWhole now) fs' → files_on now fs' ≡ files_seen old fs → files_seen new fs' ≡ files_seen old fs
    stays_seen now may whole e = sym (known_now now may whole) ∙ ap (known (tells_of old)) e ∙ seen_is_known old fs

    left_by : (result : Result (Unit {0}) PortFault) → Now result → Leaves result (known_of (tells_of old) (told (files_seen old fs))) (files_seen old fs) (files_seen new fs')
    left_by (Ok x) a = ap (known_of (tells_of old)) a.1.1.1 ∙ ap Ok (known_now a.0 a.1.0 a.1.1.0)
    left_by (Err (Refused r)) a = (ap (known_of (tells_of old)) a.1.1.1.0, stays_seen a.0 a.1.0 a.1.1.0 a.1.1.1.1)
    left_by (Err Disk) a = tt
    left_by (Err NoMemory) a = stays_seen a.0 a.1.0 a.1.1.0 a.1.1.1

  pub leaves_seen : (result : Result (Unit {0}) PortFault) → ((result ≡ Err Disk → ⊥) → Any result) → ((result ≡ Err Disk → ⊥) → All HasTracks fs') → ((result ≡ Err Disk → ⊥) → tells_of new ≡ tells_of old)
      → Leaves result (known_of (tells_of old) (told (files_seen old fs))) (files_seen old fs) (files_seen new fs')
  leaves_seen (Ok x) any tracked tells = left_by (tracked (λ e. cc)) (tells (λ e. cc)) (Ok x) (now_of (Ok x) (any (λ e. cc)))
  leaves_seen (Err (Refused r)) any tracked tells =
      left_by (tracked (λ e. cc)) (tells (λ e. cc)) (Err (Refused r)) (now_of (Err (Refused r)) (any (λ e. cc)))
  leaves_seen (Err Disk) any tracked tells = tt
  leaves_seen (Err NoMemory) any tracked tells =
      left_by (tracked (λ e. cc)) (tells (λ e. cc)) (Err NoMemory) (now_of (Err NoMemory) (any (λ e. cc)))
