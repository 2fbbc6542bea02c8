-- Files each of which is read once, and the modules that they say.
use Rattle.std.proofs.Common.{◌≡◌, ℕ, ◌+◌, ◌<◌, length, drop, get_or, Bool, true, false, nat_eq, List, [], ◌∷◌, ◌++◌, Option, Some, None, Ok, Err, refl, sym, ap, ◌∙◌, subst, eqb-true, eq-eqb}
use Rattle.std.proofs.lemmas.List.{drop_more}
use Rattle.std.specs.Result.{IsErrAnd}
use Rattle.std.specs.declared.result.Result.{Result}
use Rattle.ctss_types.specs.declared.file.FileBody.{FileBody}
use Rattle.ctss_types.specs.declared.file.Refusal.{Refusal}
use Rattle.file_model.specs.Files.{same_name, got}
use Rattle.file_map.specs.Known.{known}
use Rattle.file_map.proofs.Joined.{joined}
use Rattle.link_model.specs.declared.types.Module.{Module}
use Rattle.link_model.specs.declared.types.LinkRefusal.{LinkRefusal}
use Rattle.link_model.specs.declared.types.LinkRefusal.TheVariants as refusal
use Rattle.link_model.specs.Modules.{module_of_words}
use Rattle.link_model.specs.Files.{module_name, module_said, module_got, said_of, files_linked_from, files_linked}
use Rattle.link_model.specs.Links.{link_of}
use Rattle.cmd_program.specs.declared.link.LinkFilesFault.{LinkFilesFault}
use Rattle.cmd_program.specs.declared.link.LinkFilesFault.TheVariants as fault
use Rattle.cmd_program.specs.declared.link.ModuleFile.{ModuleFile}
use Rattle.cmd_program.specs.Links.{Links, LinksOver, words_told, or_bad_module, module_told, words_kept, AreKept, AreRead, IsNext, IsRefused, ReadsNext, ReadsOver}

-- a file more behind those that were read: what was read before comes first
first_kept : (name : ℕ) (words : List ℕ) (kept : List ModuleFile) (f : ModuleFile) → words_kept name kept ≡ Some words
    → words_kept name (kept ++ f ∷ []) ≡ Some words
first_kept name words [] f h = absurd cc
first_kept name words (k ∷ kept) f h = by_test (nat_eq k.name name) refl (λ rest. first_kept name words kept f rest)
  where
    by_test : (b : Bool) → nat_eq k.name name ≡ b → (words_kept name kept ≡ Some words → words_kept name (kept ++ f ∷ []) ≡ Some words)
        → words_kept name ((k ∷ kept) ++ f ∷ []) ≡ Some words
    by_test true e more = rw e (rw e at h)
    by_test false e more = rw e (more (rw e at h))

-- and where its name wasn't read, it is found
last_kept : (name : ℕ) (kept : List ModuleFile) (f : ModuleFile) → words_kept name kept ≡ None
    → words_kept name (kept ++ f ∷ []) ≡ words_kept name (f ∷ [])
last_kept name [] f h = refl
last_kept name (k ∷ kept) f h = by_test (nat_eq k.name name) refl (λ rest. last_kept name kept f rest)
  where
    by_test : (b : Bool) → nat_eq k.name name ≡ b → (words_kept name kept ≡ None → words_kept name (kept ++ f ∷ []) ≡ words_kept name (f ∷ []))
        → words_kept name ((k ∷ kept) ++ f ∷ []) ≡ words_kept name (f ∷ [])
    by_test true e more = absurd (let g = (rw e at h) in cc)
    by_test false e more = rw (e, more (rw e at h)) refl

-- a file of another name was not read of this one
kept_apart : (name other : ℕ) (words : List ℕ) (kept : List ModuleFile) → words_kept name kept ≡ None → words_kept other kept ≡ Some words
    → same_name (module_name other) (module_name name) ≡ false
kept_apart name other words kept none some = by_test (nat_eq other name) refl
  where
    by_test : (b : Bool) → nat_eq other name ≡ b → same_name (module_name other) (module_name name) ≡ false
    by_test false e = rw e refl
    by_test true e =
        let same : words_kept other kept ≡ words_kept name kept = ap (λ (n : ℕ). words_kept n kept) (eqb-true other name e) in
        absurd cc

-- what files say of one name more, by its own read or by an earlier one
keeps_more : (fs : List FileBody) (kept : List ModuleFile) (f : ModuleFile) → AreKept fs kept → got (module_name f.name) fs ≡ Ok f.words
    → AreKept fs (kept ++ f ∷ [])
keeps_more fs kept f keep read = λ name words h. by_kept name words h (words_kept name kept) refl
  where
    by_name : (name : ℕ) (words : List ℕ) (b : Bool) → nat_eq f.name name ≡ b → words_kept name (f ∷ []) ≡ Some words
        → got (module_name name) fs ≡ Ok words
    by_name name words false e h = absurd (let g = (rw e at h) in cc)
    by_name name words true e h =
        let same : f.words ≡ words = (let g = (rw e at h) in cc) in
        ap (λ (n : ℕ). got (module_name n) fs) (sym (eqb-true f.name name e)) ∙ read ∙ ap (λ (w : List ℕ). Ok w) same

    by_kept : (name : ℕ) (words : List ℕ) → words_kept name (kept ++ f ∷ []) ≡ Some words → (o : Option (List ℕ)) → words_kept name kept ≡ o
        → got (module_name name) fs ≡ Ok words
    by_kept name words h None e = by_name name words (nat_eq f.name name) refl (sym (last_kept name kept f e) ∙ h)
    by_kept name words h (Some old) e = keep name words (let more = first_kept name old kept f e in cc)

-- the files before say all that the files behind one more do
kept_before : (fs : List FileBody) (kept : List ModuleFile) (f : ModuleFile) → AreKept fs (kept ++ f ∷ []) → AreKept fs kept
kept_before fs kept f keep = λ name words h. keep name words (first_kept name words kept f h)

-- one list of files for what was read before and for what is read of one name more
record Both (tells : Bool) (files gs : List FileBody) (name : ℕ) (kept : List ModuleFile) : Type 0 where
  all : List FileBody
  are : known tells all ≡ files
  keep : AreKept all kept
  read : got (module_name name) all ≡ got (module_name name) gs

both_read : (tells : Bool) (files gs : List FileBody) (name : ℕ) (kept : List ModuleFile) → words_kept name kept ≡ None → AreRead tells files kept
    → known tells gs ≡ files → Both tells files gs name kept
both_read tells files gs name kept none before h =
    let j = joined tells files before.all gs (module_name name) before.are h in
    record {
      all = j.all;
      are = j.are;
      keep = λ other words k. j.others (module_name other) (kept_apart name other words kept none k) ∙ before.keep other words k;
      read = j.read;
    }

-- what words that were read are told as
told_as : (r : Result (List ℕ) Refusal) (words : List ℕ) → words_told r ≡ Ok words → r ≡ Ok words
told_as (Ok w) words h = cc
told_as (Err e) words h = absurd cc

module_of_told : (r : Result (List ℕ) Refusal) (words : List ℕ) → r ≡ Ok words → module_told r ≡ or_bad_module (module_of_words words)
module_of_told r words h = ap module_told h

refused_as : (r : Result (List ℕ) Refusal) (why : LinkRefusal) → words_told r ≡ Err why → module_told r ≡ Err why
refused_as (Ok w) why h = absurd cc
refused_as (Err e) why h = (let same : refusal.NoFile ≡ why = cc in ap (λ (r : LinkRefusal). Err r) same)

-- a file is read for the first time
next_new : (tells : Bool) (files gs : List FileBody) (name : ℕ) (kept : List ModuleFile) (words : List ℕ) (m : Module) → words_kept name kept ≡ None
    → AreRead tells files kept → known tells gs ≡ files → words_told (got (module_name name) gs) ≡ Ok words → or_bad_module (module_of_words words) ≡ Ok m
    → IsNext tells files name kept (kept ++ record { name = name; words = words } ∷ []) m
next_new tells files gs name kept words m none before h told said =
    let both = both_read tells files gs name kept none before h in
    let f : ModuleFile = record { name = name; words = words } in
    record {
      read = record {
        all = both.all;
        are = both.are;
        keep = keeps_more both.all kept f both.keep (both.read ∙ told_as (got (module_name name) gs) words told);
      };
      before = λ fs keep. kept_before fs kept f keep;
      said = λ fs keep. module_of_told (got (module_name name) fs) words (keep name words (new_kept f none)) ∙ said;
    }
  where
    new_kept : (f : ModuleFile) → words_kept f.name kept ≡ None → words_kept f.name (kept ++ f ∷ []) ≡ Some f.words
    new_kept f none = last_kept f.name kept f none ∙ rw (eq-eqb f.name f.name refl) refl

no_module : (tells : Bool) (files gs : List FileBody) (name : ℕ) (kept : List ModuleFile) (words : List ℕ) (r : LinkRefusal) → words_kept name kept ≡ None
    → AreRead tells files kept → known tells gs ≡ files → words_told (got (module_name name) gs) ≡ Ok words → or_bad_module (module_of_words words) ≡ Err r
    → IsRefused tells files name kept r
no_module tells files gs name kept words r none before h told said =
    let both = both_read tells files gs name kept none before h in
    record {
      all = both.all;
      are = both.are;
      keep = both.keep;
      said =
          module_of_told (got (module_name name) both.all) words (both.read ∙ told_as (got (module_name name) gs) words told) ∙ said;
    }

no_file : (tells : Bool) (files gs : List FileBody) (name : ℕ) (kept : List ModuleFile) (r : LinkRefusal) → words_kept name kept ≡ None
    → AreRead tells files kept → known tells gs ≡ files → words_told (got (module_name name) gs) ≡ Err r → IsRefused tells files name kept r
no_file tells files gs name kept r none before h told =
    let both = both_read tells files gs name kept none before h in
    record {
      all = both.all;
      are = both.are;
      keep = both.keep;
      said = ap module_told both.read ∙ refused_as (got (module_name name) gs) r told;
    }

-- a module more, and a name less
linked_more : (modules : List Module) (m : Module) (name : ℕ) (names : List ℕ) (fs : List FileBody) → module_told (got (module_name name) fs) ≡ Ok m
    → files_linked_from modules (name ∷ names) fs ≡ files_linked_from (modules ++ m ∷ []) names fs
linked_more modules m name names fs h = by_got (got (module_name name) fs) h
  where
    by_said : (o : Option Module) → or_bad_module o ≡ Ok m → module_said o (λ m. files_linked_from (modules ++ m ∷ []) names fs) ≡ files_linked_from (modules ++ m ∷ []) names fs
    by_said None k = absurd cc
    by_said (Some n) k = ap (λ (x : Module). files_linked_from (modules ++ x ∷ []) names fs) (let same : n ≡ m = cc in same)

    by_got : (r : Result (List ℕ) Refusal) → module_told r ≡ Ok m
        → module_got r (λ m. files_linked_from (modules ++ m ∷ []) names fs) ≡ files_linked_from (modules ++ m ∷ []) names fs
    by_got (Ok words) k = by_said (module_of_words words) k
    by_got (Err e) k = absurd cc

linked_not : (modules : List Module) (name : ℕ) (names : List ℕ) (fs : List FileBody) (r : LinkRefusal) → module_told (got (module_name name) fs) ≡ Err r
    → files_linked_from modules (name ∷ names) fs ≡ Err r
linked_not modules name names fs r h = by_got (got (module_name name) fs) h
  where
    by_said : (o : Option Module) → or_bad_module o ≡ Err r → module_said o (λ m. files_linked_from (modules ++ m ∷ []) names fs) ≡ Err r
    by_said None k = cc
    by_said (Some n) k = absurd cc

    by_got : (o : Result (List ℕ) Refusal) → module_told o ≡ Err r → module_got o (λ m. files_linked_from (modules ++ m ∷ []) names fs) ≡ Err r
    by_got (Ok words) k = by_said (module_of_words words) k
    by_got (Err e) k = cc

-- whatever files say what was read, they are linked as these modules and the names behind
abbrev pub AreBehind : (names : List ℕ) (modules : List Module) (i : ℕ) (kept : List ModuleFile) → Type 0
AreBehind names modules i kept = (fs : List FileBody) → AreKept fs kept → files_linked names fs ≡ files_linked_from modules (drop i names) fs

behind_more : (tells : Bool) (files : List FileBody) (names : List ℕ) (modules : List Module) (i name : ℕ) (old new : List ModuleFile) (m : Module)
    → drop i names ≡ name ∷ drop (i + 1) names → AreBehind names modules i old → IsNext tells files name old new m
    → AreBehind names (modules ++ m ∷ []) (i + 1) new
behind_more tells files names modules i name old new m at behind next =
    λ fs keep. behind fs (next.before fs keep) ∙ ap (λ (l : List ℕ). files_linked_from modules l fs) at
    ∙ linked_more modules m name (drop (i + 1) names) fs (next.said fs keep)

behind_not : (tells : Bool) (files : List FileBody) (names : List ℕ) (modules : List Module) (i name : ℕ) (old : List ModuleFile) (r : LinkRefusal)
    → drop i names ≡ name ∷ drop (i + 1) names → AreBehind names modules i old → IsRefused tells files name old r
    → ReadsOver tells files (Err (fault.Refused r)) (files_linked names)
behind_not tells files names modules i name old r at behind refused = (
  refused.all,
  refused.are,
  behind refused.all refused.keep ∙ ap (λ (l : List ℕ). files_linked_from modules l refused.all) at
      ∙ linked_not modules name (drop (i + 1) names) refused.all r refused.said,
)

-- the answer by the modules that were read
pub links_over : (tells : Bool) (files : List FileBody) (names : List ℕ) (modules slice : List Module) (result : Result (List ℕ) LinkFilesFault)
    → ReadsOver tells files (Ok modules) (files_linked names) → slice ≡ modules → Links result (said_of (link_of slice))
    → LinksOver tells files result (files_linked names)
links_over tells files names modules slice result over is links =
    let told : files_linked names over.0 ≡ said_of (link_of slice) = over.2 ∙ ap (λ (ms : List Module). said_of (link_of ms)) (sym is) in
    (over.0, over.1, subst (λ (t : Result (List ℕ) LinkRefusal). Links result t) (sym told) links)

not_linked : (tells : Bool) (files : List FileBody) (names : List ℕ) (e : LinkFilesFault) → ReadsOver tells files (Err e) (files_linked names)
    → LinksOver {T = List ℕ} tells files (Err e) (files_linked names)
not_linked tells files names (fault.Refused r) over = over
not_linked tells files names fault.Disk over = over
not_linked tells files names fault.NoMemory over = over

pub refused_over : (tells : Bool) (files : List FileBody) (names : List ℕ) (e : LinkFilesFault) (result : Result (List ℕ) LinkFilesFault)
    → IsErrAnd result (λ (y : LinkFilesFault). y ≡ e) → ReadsOver tells files (Err e) (files_linked names) → LinksOver tells files result (files_linked names)
refused_over tells files names e (Ok words) h over = absurd h
refused_over tells files names e (Err y) h over =
    not_linked tells files names y (subst (λ (x : LinkFilesFault). ReadsOver tells files (Err x) (files_linked names)) (sym h) over)

-- where a file of a name isn't read, or its words are no module's
not_read : (tells : Bool) (files : List FileBody) (name : ℕ) (kept : List ModuleFile) (e : LinkFilesFault) → words_kept name kept ≡ None
    → AreRead tells files kept → LinksOver {T = List ℕ} tells files (Err e) (λ fs. words_told (got (module_name name) fs))
    → ReadsNext tells files name kept kept (Err e)
not_read tells files name kept (fault.Refused r) none before over = no_file tells files over.0 name kept r none before over.1 over.2
not_read tells files name kept fault.Disk none before over = tt
not_read tells files name kept fault.NoMemory none before over = tt

pub first_not_read : (tells : Bool) (files : List FileBody) (name : ℕ) (kept : List ModuleFile) (e : LinkFilesFault) (result : Result Module LinkFilesFault)
    → IsErrAnd result (λ (y : LinkFilesFault). y ≡ e) → words_kept name kept ≡ None → AreRead tells files kept
    → LinksOver {T = List ℕ} tells files (Err e) (λ fs. words_told (got (module_name name) fs)) → ReadsNext tells files name kept kept result
first_not_read tells files name kept e (Ok m) h none before over = absurd h
first_not_read tells files name kept e (Err y) h none before over =
    subst (λ (x : LinkFilesFault). ReadsNext tells files name kept kept (Err x)) (sym h) (not_read tells files name kept e none before over)

not_module : (tells : Bool) (files : List FileBody) (name : ℕ) (kept : List ModuleFile) (words : List ℕ) (e : LinkFilesFault) → words_kept name kept ≡ None
    → AreRead tells files kept → LinksOver tells files (Ok words) (λ fs. words_told (got (module_name name) fs))
    → Links {T = Module} (Err e) (or_bad_module (module_of_words words)) → ReadsNext tells files name kept kept (Err e)
not_module tells files name kept words (fault.Refused r) none before over said =
    no_module tells files over.0 name kept words r none before over.1 over.2 said
not_module tells files name kept words fault.Disk none before over said = tt
not_module tells files name kept words fault.NoMemory none before over said = tt

pub first_not_module : (tells : Bool) (files : List FileBody) (name : ℕ) (kept : List ModuleFile) (words slice : List ℕ) (e : LinkFilesFault)
    (result : Result Module LinkFilesFault) → IsErrAnd result (λ (y : LinkFilesFault). y ≡ e) → words_kept name kept ≡ None → AreRead tells files kept
    → LinksOver tells files (Ok words) (λ fs. words_told (got (module_name name) fs)) → slice ≡ words
    → Links {T = Module} (Err e) (or_bad_module (module_of_words slice)) → ReadsNext tells files name kept kept result
first_not_module tells files name kept words slice e (Ok m) h none before over is said = absurd h
first_not_module tells files name kept words slice e (Err y) h none before over is said =
    let here : Links {T = Module} (Err e) (or_bad_module (module_of_words words)) =
    subst (λ (w : List ℕ). Links {T = Module} (Err e) (or_bad_module (module_of_words w))) is said in
    subst (λ (x : LinkFilesFault). ReadsNext tells files name kept kept (Err x)) (sym h) (not_module tells files name kept words e none before over here)

pub first_is : (tells : Bool) (files : List FileBody) (name : ℕ) (kept new : List ModuleFile) (words slice : List ℕ) (m : Module)
    → words_kept name kept ≡ None → AreRead tells files kept → LinksOver tells files (Ok words) (λ fs. words_told (got (module_name name) fs))
    → slice ≡ words → or_bad_module (module_of_words slice) ≡ Ok m → new ≡ kept ++ record { name = name; words = words } ∷ []
    → IsNext tells files name kept new m
first_is tells files name kept new words slice m none before over is said made =
    let here : or_bad_module (module_of_words words) ≡ Ok m = ap (λ (w : List ℕ). or_bad_module (module_of_words w)) (sym is) ∙ said in
    subst (λ (k : List ModuleFile). IsNext tells files name kept k m) (sym made)
    (next_new tells files over.0 name kept words m none before over.1 over.2 here)

-- the names that are left at a name
left_of : (names : List ℕ) (i name : ℕ) → i < length names → name ≡ get_or names i name → drop i names ≡ name ∷ drop (i + 1) names
left_of names i name within is = drop_more names i name within ∙ ap (λ (n : ℕ). n ∷ drop (i + 1) names) (sym is)

-- a turn of the loop over names
pub behind_pushed : (tells : Bool) (files : List FileBody) (names : List ℕ) (modules more : List Module) (i name : ℕ) (old new : List ModuleFile) (m : Module)
    → i < length names → name ≡ get_or names i name → more ≡ modules ++ m ∷ [] → AreBehind names modules i old → IsNext tells files name old new m
    → AreBehind names more (i + 1) new
behind_pushed tells files names modules more i name old new m within is pushed behind next =
    subst (λ (ms : List Module). AreBehind names ms (i + 1) new) (sym pushed)
    (behind_more tells files names modules i name old new m (left_of names i name within is) behind next)

stopped : (tells : Bool) (files : List FileBody) (names : List ℕ) (modules : List Module) (i name : ℕ) (old new : List ModuleFile) (e : LinkFilesFault)
    → drop i names ≡ name ∷ drop (i + 1) names → AreRead tells files old → AreBehind names modules i old → ReadsNext tells files name old new (Err e)
    → ReadsOver tells files (Err e) (files_linked names)
stopped tells files names modules i name old new (fault.Refused r) at before behind next = behind_not tells files names modules i name old r at behind next
stopped tells files names modules i name old new fault.Disk at before behind next = (before.all, before.are, tt)
stopped tells files names modules i name old new fault.NoMemory at before behind next = (before.all, before.are, tt)

pub loop_stopped : (tells there : Bool) (files fs : List FileBody) (names : List ℕ) (modules : List Module) (i name : ℕ) (old new : List ModuleFile)
    (e : LinkFilesFault) (result : Result (List Module) LinkFilesFault) → tells ≡ there → files ≡ fs
    → IsErrAnd result (λ (y : LinkFilesFault). y ≡ e) → i < length names → name ≡ get_or names i name → AreRead tells files old
    → AreBehind names modules i old → ReadsNext tells files name old new (Err e) → ReadsOver there fs result (files_linked names)
loop_stopped tells there files fs names modules i name old new e (Ok ms) t f h within is before behind next = absurd h
loop_stopped tells there files fs names modules i name old new e (Err y) t f h within is before behind next =
    subst (λ (b : Bool). ReadsOver b fs (Err y) (files_linked names)) t
    (subst (λ (l : List FileBody). ReadsOver tells l (Err y) (files_linked names)) f
    (subst (λ (x : LinkFilesFault). ReadsOver tells files (Err x) (files_linked names)) (sym h)
    (stopped tells files names modules i name old new e (left_of names i name within is) before behind next)))

pub read_still : (tells there : Bool) (files fs : List FileBody) (kept : List ModuleFile) → there ≡ tells → fs ≡ files → AreRead tells files kept
    → AreRead there fs kept
read_still tells there files fs kept t f before = record { all = before.all; are = rw (t, f) before.are; keep = before.keep }
