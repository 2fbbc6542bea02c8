-- Answers of a directory that may not tell its records, as replies.
use Rattle.std.proofs.Common.{if◌then◌else◌, Option, None, Some, ◌≡◌, ◌+◌, ◌*◌, ℕ, Bool, true, false, not, List, [], ◌∷◌, map, filter, Ok, Err, refl, sym, ap, ◌∙◌, subst}
use Rattle.std.specs.declared.result.Result.{Result}
use Rattle.ctss_types.specs.Names.{NamePair}
use Rattle.ctss_types.specs.declared.file.FileBody.{FileBody}
use Rattle.ctss_types.specs.declared.file.Refusal.{Refusal}
use Rattle.ctss_types.specs.declared.file.Refusal.TheVariants.{ReadOnly}
use Rattle.ctss_types.specs.declared.file.CommonOp.TheVariants as op
use Rattle.ctss_types.specs.declared.file.Reply.TheVariants as reply
use Rattle.file_model.specs.declared.Stat.{Stat}
use Rattle.file_model.specs.Files.{stat, read, got, written, put, deleted, deleted_of, file_named, is_named, is_read_only}
use Rattle.file_model.specs.Commons.{size_reply, words_reply, done_reply, left_by}
use Rattle.file_map.specs.declared.fault.PortFault.{PortFault}
use Rattle.file_map.specs.declared.fault.PortFault.TheVariants.{Refused}
use Rattle.file_map.specs.Answers.{Answers, Leaves}
use Rattle.file_map.specs.Known.{blank, known, known_of, AnswersOver}
use Rattle.file_map.specs.Applied.{IsApplied}

-- a size
pub stat_told : (t : Bool) (q : ℕ) (name : NamePair) (s : Stat) (files : List FileBody) → known t files ≡ files → stat name files ≡ Ok s
    → IsApplied t q (op.Stat name) (reply.Size (4 * s.words + s.mode)) files files
stat_told t q name s files was h = record { files = files; was = was; answer = sym (ap size_reply h); now = was }

pub stat_refused : (t : Bool) (q : ℕ) (name : NamePair) (fault : PortFault) (r : Refusal) (files : List FileBody) → known t files ≡ files → fault ≡ Refused r → Answers {T = Stat} (Err fault) (stat name files)
    → IsApplied t q (op.Stat name) (reply.Refused r) files files
stat_refused t q name fault r files was is h = record {
  files = files;
  was = was;
  answer = sym (ap size_reply (subst (λ (f : PortFault). Answers {T = Stat} (Err f) (stat name files)) is h));
  now = was;
}

-- words read
pub read_told : (t : Bool) (q : ℕ) (name : NamePair) (place count : ℕ) (words : List ℕ) (old new : List FileBody) → AnswersOver t old (Ok words) (read name place count) → new ≡ old
    → IsApplied t q (op.Read name place count) (reply.Words words) old new
read_told t q name place count words old new h left = record { files = h.0; was = h.1.0; answer = sym (ap words_reply h.1.1); now = h.1.0 ∙ sym left }

pub read_refused : (t : Bool) (q : ℕ) (name : NamePair) (place count : ℕ) (fault : PortFault) (r : Refusal) (old new : List FileBody) → AnswersOver {T = List ℕ} t old (Err fault) (read name place count) → fault ≡ Refused r → new ≡ old
    → IsApplied t q (op.Read name place count) (reply.Refused r) old new
read_refused t q name place count fault r old new h is left = record {
  files = h.0;
  was = h.1.0;
  answer = sym (ap words_reply (subst (λ (f : PortFault). Answers {T = List ℕ} (Err f) (read name place count h.0)) is h.1.1));
  now = h.1.0 ∙ sym left;
}

-- all words read
pub get_told : (t : Bool) (q : ℕ) (name : NamePair) (words : List ℕ) (old new : List FileBody) → AnswersOver t old (Ok words) (got name) → new ≡ old
    → IsApplied t q (op.Get name) (reply.Words words) old new
get_told t q name words old new h left = record { files = h.0; was = h.1.0; answer = sym (ap words_reply h.1.1); now = h.1.0 ∙ sym left }

pub get_refused : (t : Bool) (q : ℕ) (name : NamePair) (fault : PortFault) (r : Refusal) (old new : List FileBody) → AnswersOver {T = List ℕ} t old (Err fault) (got name) → fault ≡ Refused r → new ≡ old
    → IsApplied t q (op.Get name) (reply.Refused r) old new
get_refused t q name fault r old new h is left = record {
  files = h.0;
  was = h.1.0;
  answer = sym (ap words_reply (subst (λ (f : PortFault). Answers {T = List ℕ} (Err f) (got name h.0)) is h.1.1));
  now = h.1.0 ∙ sym left;
}

-- a change that is done, and one that is refused
done_by : (t : Bool) (told : Result (List FileBody) Refusal) (old new : List FileBody) → known_of t told ≡ Ok new → (reply.Done ≡ done_reply told) × (known t (left_by told old) ≡ new)
done_by t (Ok files) old new h = (refl, cc)
done_by t (Err r) old new h = cc

refused_by : (t : Bool) (told : Result (List FileBody) Refusal) (fault : PortFault) (r : Refusal) (old new : List FileBody) → known t old ≡ old → fault ≡ Refused r → Leaves {T = Unit {0}} (Err fault) (known_of t told) old new
    → (reply.Refused r ≡ done_reply told) × (known t (left_by told old) ≡ new)
refused_by t (Ok files) fault r old new was is h = let x = (subst (λ (f : PortFault). Leaves {T = Unit {0}} (Err f) (known_of t (Ok files)) old new) is h).0 in cc
refused_by t (Err e) fault r old new was is h =
    let left = subst (λ (f : PortFault). Leaves {T = Unit {0}} (Err f) (known_of t (Err e)) old new) is h in
    let same : e ≡ r = (let x = left.0 in cc) in
    (ap reply.Refused (sym same), was ∙ sym left.1)

pub write_done : (t : Bool) (q : ℕ) (name : NamePair) (place : ℕ) (words : List ℕ) (old new : List FileBody) → known t old ≡ old → known_of t (written name place words q old) ≡ Ok new
    → IsApplied t q (op.Write name place words) reply.Done old new
write_done t q name place words old new was h =
    let by = done_by t (written name place words q old) old new h in
    record { files = old; was = was; answer = by.0; now = by.1 }

pub write_refused : (t : Bool) (q : ℕ) (name : NamePair) (place : ℕ) (words : List ℕ) (fault : PortFault) (r : Refusal) (old new : List FileBody) → known t old ≡ old → fault ≡ Refused r → Leaves {T = Unit {0}} (Err fault) (known_of t (written name place words q old)) old new
    → IsApplied t q (op.Write name place words) (reply.Refused r) old new
write_refused t q name place words fault r old new was is h =
    let by = refused_by t (written name place words q old) fault r old new was is h in
    record { files = old; was = was; answer = by.0; now = by.1 }

pub put_done : (t : Bool) (q : ℕ) (name : NamePair) (words : List ℕ) (old new : List FileBody) → known t old ≡ old → known_of t (put name words q old) ≡ Ok new
    → IsApplied t q (op.Put name words) reply.Done old new
put_done t q name words old new was h =
    let by = done_by t (put name words q old) old new h in
    record { files = old; was = was; answer = by.0; now = by.1 }

pub put_refused : (t : Bool) (q : ℕ) (name : NamePair) (words : List ℕ) (fault : PortFault) (r : Refusal) (old new : List FileBody) → known t old ≡ old → fault ≡ Refused r → Leaves {T = Unit {0}} (Err fault) (known_of t (put name words q old)) old new
    → IsApplied t q (op.Put name words) (reply.Refused r) old new
put_refused t q name words fault r old new was is h =
    let by = refused_by t (put name words q old) fault r old new was is h in
    record { files = old; was = was; answer = by.0; now = by.1 }

-- a file taken out of known files leaves known ones
kept_if : (keeps : FileBody → Bool) (f : FileBody) (files : List FileBody) (b : Bool) → keeps f ≡ b → blank f ≡ f → map blank (filter keeps files) ≡ filter keeps files
    → map blank (filter keeps (f ∷ files)) ≡ filter keeps (f ∷ files)
kept_if keeps f files true is one rest = rw is (ap (λ (g : FileBody). g ∷ map blank (filter keeps files)) one ∙ ap (λ (fs : List FileBody). f ∷ fs) rest)
kept_if keeps f files false is one rest = rw is rest

kept_blank : (keeps : FileBody → Bool) (files : List FileBody) → map blank files ≡ files → map blank (filter keeps files) ≡ filter keeps files
kept_blank keeps [] h = refl
kept_blank keeps (f ∷ files) h =
    let one : blank f ≡ f = cc in
    let rest : map blank files ≡ files = cc in
    kept_if keeps f files (keeps f) refl one (kept_blank keeps files rest)

kept_known : (t : Bool) (keeps : FileBody → Bool) (files : List FileBody) → known t files ≡ files → known t (filter keeps files) ≡ filter keeps files
unfolding known
kept_known true keeps files h = refl
kept_known false keeps files h = kept_blank keeps files h

kept_when : (t b : Bool) (keeps : FileBody → Bool) (old new : List FileBody) → known t old ≡ old → (if b then Err ReadOnly else Ok (filter keeps old)) ≡ Ok new → known t new ≡ new
kept_when t true keeps old new was h = cc
kept_when t false keeps old new was h = let is : filter keeps old ≡ new = cc in subst (λ (fs : List FileBody). known t fs ≡ fs) is (kept_known t keeps old was)

deleted_known : (t : Bool) (file : Option FileBody) (name : NamePair) (old new : List FileBody) → known t old ≡ old → deleted_of file name old ≡ Ok new → known t new ≡ new
deleted_known t None name old new was h = cc
deleted_known t (Some f) name old new was h = kept_when t (is_read_only f) (λ (g : FileBody). not (is_named name g)) old new was h

pub delete_done : (t : Bool) (q : ℕ) (name : NamePair) (old new : List FileBody) → known t old ≡ old → deleted name old ≡ Ok new
    → IsApplied t q (op.Delete name) reply.Done old new
delete_done t q name old new was h = record {
  files = old;
  was = was;
  answer = sym (ap done_reply h);
  now = ap (λ (told : Result (List FileBody) Refusal). known t (left_by told old)) h ∙ deleted_known t (file_named name old) name old new was h;
}

pub delete_refused : (t : Bool) (q : ℕ) (name : NamePair) (fault : PortFault) (r : Refusal) (old new : List FileBody) → known t old ≡ old → fault ≡ Refused r → Leaves {T = Unit {0}} (Err fault) (deleted name old) old new
    → IsApplied t q (op.Delete name) (reply.Refused r) old new
delete_refused t q name fault r old new was is h =
    let left = subst (λ (f : PortFault). Leaves {T = Unit {0}} (Err f) (deleted name old) old new) is h in
    record {
      files = old;
      was = was;
      answer = sym (ap done_reply left.0);
      now = ap (λ (told : Result (List FileBody) Refusal). known t (left_by told old)) left.0 ∙ was ∙ sym left.1;
    }
