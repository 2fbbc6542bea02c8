-- Answers of a directory, in the words of rows.
use Rattle.std.proofs.Common.{◌≡◌, ℕ, Bool, List, [], ◌∷◌, Option, Some, None, Ok, Err, refl, sym, subst}
use Rattle.std.specs.declared.result.Result.{Result}
use Rattle.ctss_types.specs.Names.{NamePair}
use Rattle.ctss_types.specs.declared.file.FileBody.{FileBody}
use Rattle.ctss_types.specs.declared.file.Refusal.{Refusal}
use Rattle.time_sharing.specs.Machine.{Line, Ending}
use Rattle.time_sharing.specs.Rows.{Outcome}
use Rattle.file_model.specs.Files.{stat_of, put}
use Rattle.file_model.specs.declared.Stat.{Stat}
use Rattle.file_model.specs.Texts.{refusal_text}
use Rattle.file_map.specs.declared.fault.PortFault.{PortFault}
use Rattle.file_map.specs.declared.fault.PortFault.TheVariants.{Refused}
use Rattle.file_map.specs.Answers.{Answers, Leaves}
use Rattle.file_map.specs.Known.{known, known_of}
use Rattle.user_model.specs.Commands.{says, input_begun, input_made}
use Rattle.user_model.specs.User.{User}
use Rattle.user_model.specs.Answers.{IsRow}
use Rattle.user_model.specs.Inner.{Inner, Stored}

-- where a change is done or refused, so it is by its definition
pub known_done : (tells : Bool) (told : Result (List FileBody) Refusal) (new : List FileBody) → known_of tells told ≡ Ok new → (has : List FileBody) × (told ≡ Ok has) × (known tells has ≡ new)
known_done tells (Ok has) new h = let is : known tells has ≡ new = cc in (has, refl, is)
known_done tells (Err r) new h = cc

pub known_refused : (tells : Bool) (told : Result (List FileBody) Refusal) (r : Refusal) → known_of tells told ≡ Err r → told ≡ Err r
known_refused tells (Ok has) r h = cc
known_refused tells (Err q) r h = cc

-- INPUT of a file that is there, and of one that isn't
pub input_there : (name : NamePair) (file : Option FileBody) (s : Stat) (i : Inner) (n t : ℕ) → stat_of file ≡ Ok s → input_begun name file i n t ≡ says (refusal_text Refusal.NameUsed ∷ []) i n t
input_there name None s i n t h = cc
input_there name (Some f) s i n t h = refl

pub input_absent : (name : NamePair) (file : Option FileBody) (r : Refusal) (i : Inner) (n t : ℕ) → stat_of file ≡ Err r → input_begun name file i n t ≡ input_made name (put name [] i.account.tracks i.files) i n t
input_absent name None r i n t h = refl
input_absent name (Some f) r i n t h = cc

-- a row said in another way
pub row_of : (can b : Bool) (line : Option Line) (o p : Outcome Inner) (asks : Bool) (e : Ending) (asked : Bool) (old new : User) (before after : Stored) → o ≡ p → IsRow can b line p asks e asked old new before after → IsRow can b line o asks e asked old new before after
row_of can b line o p asks e asked old new before after is row = subst (λ (q : Outcome Inner). IsRow can b line q asks e asked old new before after) (sym is) row

-- refusals
pub refused_told : {T : Type 0} (fault : PortFault) (r : Refusal) (told : Result T Refusal) → fault ≡ Refused r → Answers {T = T} (Err fault) told → told ≡ Err r
refused_told {T} fault r told is h = subst (λ (f : PortFault). Answers {T = T} (Err f) told) is h

pub refused_change : (T : Type 0) (fault : PortFault) (r : Refusal) (tells : Bool) (told : Result (List FileBody) Refusal) (old new : List FileBody) → fault ≡ Refused r → Leaves {T = T} (Err fault) (known_of tells told) old new → (told ≡ Err r) × (new ≡ old)
refused_change T fault r tells told old new is h =
    let k = subst (λ (f : PortFault). Leaves {T = T} (Err f) (known_of tells told) old new) is h in
    (known_refused tells told r k.0, k.1)
