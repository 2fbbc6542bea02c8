-- Names that are entered, one after another.
use Rattle.std.proofs.Common.{◌≡◌, ℕ, ◌+◌, ◌%◌, ◌^◌, ◌<◌, Bool, true, false, if◌then◌else◌, nat_eq, List, [], ◌∷◌, ◌++◌, length, drop, get_or, Option, Some, None, is_none, is_some, refl, sym, ap, ◌∙◌, append_assoc}
use Rattle.std.proofs.lemmas.List.{append-nil, drop_more}
use Rattle.std.specs.Map.{lookup}
use Rattle.indexmap.specs.IndexMap.{insert_entry}
use Rattle.fap_model.specs.Places.{value_in}
use Rattle.link_model.specs.declared.types.Module.{Module}
use Rattle.link_model.specs.declared.types.ModuleEntry.{ModuleEntry}
use Rattle.link_model.specs.Links.{places_of_all, entered, entered_from, repeated_in, externs_of_all, missing_in}

-- a new name goes last
new_case : (e : ℕ × ℕ) (es : List (ℕ × ℕ)) (name v : ℕ) (b : Bool) → nat_eq name e.0 ≡ b
    → (lookup (nat_eq name) es ≡ None → insert_entry nat_eq es name v ≡ es ++ (name, v) ∷ [])
    → lookup (nat_eq name) (e ∷ es) ≡ None → insert_entry nat_eq (e ∷ es) name v ≡ (e ∷ es) ++ (name, v) ∷ []
new_case e es name v true t ih = rw t (λ h. absurd (some_none h))
  where
    some_none : Some e.1 ≡ None → ⊥
    some_none h = cc
new_case e es name v false t ih = rw t (λ h. ap (λ (r : List (ℕ × ℕ)). e ∷ r) (ih h))

new_last : (es : List (ℕ × ℕ)) (name v : ℕ) → lookup (nat_eq name) es ≡ None → insert_entry nat_eq es name v ≡ es ++ (name, v) ∷ []
new_last [] name v h = refl
new_last (e ∷ es) name v h = new_case e es name v (nat_eq name e.0) refl (new_last es name v) h

pub added : (es new : List (ℕ × ℕ)) (name v : ℕ) → lookup (nat_eq name) es ≡ None → new ≡ insert_entry nat_eq es name v → new ≡ es ++ (name, v) ∷ []
added es new name v h e = e ∙ new_last es name v h

-- an entry that is found
pub found_again : (base : ℕ) (entries : List ModuleEntry) (i : ℕ) (e : ModuleEntry) (now : List (ℕ × ℕ)) (first : Option ℕ) → i < length entries
    → e ≡ get_or entries i e → is_some (value_in now e.name) ≡ true → repeated_in now (entered base (drop i entries)) ≡ first → Some e.name ≡ first
found_again base entries i e now first lt is some h =
    let here : drop i entries ≡ e ∷ drop (i + 1) entries = drop_more entries i e lt ∙ ap (λ (x : ModuleEntry). x ∷ drop (i + 1) entries) (sym is) in
    let there : is_none (value_in now e.name) ≡ false = turned (value_in now e.name) some in
    sym (sym h ∙ ap (λ (l : List ModuleEntry). repeated_in now (entered base l)) here
    ∙ ap (λ (b : Bool). if b then repeated_in (now ++ (e.name, (base + e.place) % 2 ^ 15) ∷ []) (entered base (drop (i + 1) entries)) else Some e.name) there)
  where
    turned : (o : Option ℕ) → is_some o ≡ true → is_none o ≡ false
    turned None e = absurd cc
    turned (Some x) e = refl

-- an entry more
pub entered_first : (base : ℕ) (entries : List ModuleEntry) (i : ℕ) (e : ModuleEntry) (now new : List (ℕ × ℕ)) (v : ℕ) (first : Option ℕ) → i < length entries
    → e ≡ get_or entries i e → value_in now e.name ≡ None → v ≡ (base + e.place) % 2 ^ 15 → new ≡ now ++ (e.name, v) ∷ []
    → repeated_in now (entered base (drop i entries)) ≡ first → repeated_in new (entered base (drop (i + 1) entries)) ≡ first
entered_first base entries i e now new v first lt is none value n h =
    let here : drop i entries ≡ e ∷ drop (i + 1) entries = drop_more entries i e lt ∙ ap (λ (x : ModuleEntry). x ∷ drop (i + 1) entries) (sym is) in
    let fresh : is_none (value_in now e.name) ≡ true = ap is_none none in
    ap (λ (l : List (ℕ × ℕ)). repeated_in l (entered base (drop (i + 1) entries))) (n ∙ ap (λ (x : ℕ). now ++ (e.name, x) ∷ []) value)
    ∙ sym (ap (λ (b : Bool). if b then repeated_in (now ++ (e.name, (base + e.place) % 2 ^ 15) ∷ []) (entered base (drop (i + 1) entries)) else Some e.name) fresh)
    ∙ sym (ap (λ (l : List ModuleEntry). repeated_in now (entered base l)) here) ∙ h

pub entered_all : (base : ℕ) (entries : List ModuleEntry) (i : ℕ) (e : ModuleEntry) (now new : List (ℕ × ℕ)) (v : ℕ) (total : List (ℕ × ℕ)) → i < length entries
    → e ≡ get_or entries i e → v ≡ (base + e.place) % 2 ^ 15 → new ≡ now ++ (e.name, v) ∷ []
    → now ++ entered base (drop i entries) ≡ total → new ++ entered base (drop (i + 1) entries) ≡ total
entered_all base entries i e now new v total lt is value n h =
    let here : drop i entries ≡ e ∷ drop (i + 1) entries = drop_more entries i e lt ∙ ap (λ (x : ModuleEntry). x ∷ drop (i + 1) entries) (sym is) in
    let rest : List (ℕ × ℕ) = entered base (drop (i + 1) entries) in
    ap (λ (l : List (ℕ × ℕ)). l ++ rest) (n ∙ ap (λ (x : ℕ). now ++ (e.name, x) ∷ []) value)
    ∙ append_assoc now ((e.name, (base + e.place) % 2 ^ 15) ∷ []) rest
    ∙ sym (ap (λ (l : List ModuleEntry). now ++ entered base l) here) ∙ h

-- modules

repeated_on : (seen more rest : List (ℕ × ℕ)) → repeated_in seen more ≡ None → repeated_in seen (more ++ rest) ≡ repeated_in (seen ++ more) rest
repeated_on seen [] rest h = ap (λ (l : List (ℕ × ℕ)). repeated_in l rest) (sym (append-nil seen))
repeated_on seen (e ∷ more) rest h = by_test (is_none (value_in seen e.0)) refl (λ on. repeated_on (seen ++ e ∷ []) more rest on)
  where
    by_test : (b : Bool) → is_none (value_in seen e.0) ≡ b
        → (repeated_in (seen ++ e ∷ []) more ≡ None → repeated_in (seen ++ e ∷ []) (more ++ rest) ≡ repeated_in (seen ++ e ∷ [] ++ more) rest)
        → repeated_in seen ((e ∷ more) ++ rest) ≡ repeated_in (seen ++ (e ∷ more)) rest
    by_test true t ih =
        let on : repeated_in (seen ++ e ∷ []) more ≡ None = rw t at h in
        rw t (ih on ∙ ap (λ (l : List (ℕ × ℕ)). repeated_in l rest) (append_assoc seen (e ∷ []) more))
    by_test false t ih = let no : Some e.0 ≡ None = rw t at h in absurd cc

repeated_here : (seen more rest : List (ℕ × ℕ)) (name : ℕ) → repeated_in seen more ≡ Some name → repeated_in seen (more ++ rest) ≡ Some name
repeated_here seen [] rest name h = absurd cc
repeated_here seen (e ∷ more) rest name h = by_test (is_none (value_in seen e.0)) refl (λ on. repeated_here (seen ++ e ∷ []) more rest name on)
  where
    by_test : (b : Bool) → is_none (value_in seen e.0) ≡ b
        → (repeated_in (seen ++ e ∷ []) more ≡ Some name → repeated_in (seen ++ e ∷ []) (more ++ rest) ≡ Some name)
        → repeated_in seen ((e ∷ more) ++ rest) ≡ Some name
    by_test true t ih = let on : repeated_in (seen ++ e ∷ []) more ≡ Some name = rw t at h in rw t (ih on)
    by_test false t ih = let is : Some e.0 ≡ Some name = rw t at h in rw t is

pub module_found : (base : ℕ) (modules : List Module) (i : ℕ) (m : Module) (now : List (ℕ × ℕ)) (name : ℕ) (first : Option ℕ) → i < length modules
    → m ≡ get_or modules i m → Some name ≡ repeated_in now (entered base m.entries) → repeated_in now (entered_from base (drop i modules)) ≡ first
    → Some name ≡ first
module_found base modules i m now name first lt is found h =
    let here : drop i modules ≡ m ∷ drop (i + 1) modules = drop_more modules i m lt ∙ ap (λ (x : Module). x ∷ drop (i + 1) modules) (sym is) in
    sym (sym h ∙ ap (λ (l : List Module). repeated_in now (entered_from base l)) here
    ∙ repeated_here now (entered base m.entries) (entered_from (base + length m.places) (drop (i + 1) modules)) name (sym found))

pub module_first : (base next : ℕ) (modules : List Module) (i : ℕ) (m : Module) (now new : List (ℕ × ℕ)) (first : Option ℕ) → i < length modules
    → m ≡ get_or modules i m → None ≡ repeated_in now (entered base m.entries) → new ≡ now ++ entered base m.entries → next ≡ base + length m.places
    → repeated_in now (entered_from base (drop i modules)) ≡ first → repeated_in new (entered_from next (drop (i + 1) modules)) ≡ first
module_first base next modules i m now new first lt is none n e h =
    let here : drop i modules ≡ m ∷ drop (i + 1) modules = drop_more modules i m lt ∙ ap (λ (x : Module). x ∷ drop (i + 1) modules) (sym is) in
    ap (λ (l : List (ℕ × ℕ)). repeated_in l (entered_from next (drop (i + 1) modules))) n
    ∙ ap (λ (b : ℕ). repeated_in (now ++ entered base m.entries) (entered_from b (drop (i + 1) modules))) e
    ∙ sym (repeated_on now (entered base m.entries) (entered_from (base + length m.places) (drop (i + 1) modules)) (sym none))
    ∙ sym (ap (λ (l : List Module). repeated_in now (entered_from base l)) here) ∙ h

pub module_all : (base next : ℕ) (modules : List Module) (i : ℕ) (m : Module) (now new total : List (ℕ × ℕ)) → i < length modules
    → m ≡ get_or modules i m → new ≡ now ++ entered base m.entries → next ≡ base + length m.places
    → now ++ entered_from base (drop i modules) ≡ total → new ++ entered_from next (drop (i + 1) modules) ≡ total
module_all base next modules i m now new total lt is n e h =
    let here : drop i modules ≡ m ∷ drop (i + 1) modules = drop_more modules i m lt ∙ ap (λ (x : Module). x ∷ drop (i + 1) modules) (sym is) in
    ap (λ (l : List (ℕ × ℕ)). l ++ entered_from next (drop (i + 1) modules)) n
    ∙ ap (λ (b : ℕ). now ++ entered base m.entries ++ entered_from b (drop (i + 1) modules)) e
    ∙ append_assoc now (entered base m.entries) (entered_from (base + length m.places) (drop (i + 1) modules))
    ∙ sym (ap (λ (l : List Module). now ++ entered_from base l) here) ∙ h

-- how many places are left
pub places_left : (modules : List Module) (i : ℕ) (m : Module) → i < length modules → m ≡ get_or modules i m
    → places_of_all (drop i modules) ≡ length m.places + places_of_all (drop (i + 1) modules)
places_left modules i m lt is =
    ap places_of_all (drop_more modules i m lt ∙ ap (λ (x : Module). x ∷ drop (i + 1) modules) (sym is))

-- names that are missing

missing_cons : (table : List (ℕ × ℕ)) (name : ℕ) (names : List ℕ) → value_in table name ≡ None → missing_in table (name ∷ names) ≡ Some name
missing_cons table name names h = rw h refl

missing_skip : (table : List (ℕ × ℕ)) (names rest : List ℕ) → missing_in table names ≡ None → missing_in table (names ++ rest) ≡ missing_in table rest
missing_skip table [] rest h = refl
missing_skip table (n ∷ names) rest h = by_test (is_none (value_in table n)) refl (λ on. missing_skip table names rest on)
  where
    by_test : (b : Bool) → is_none (value_in table n) ≡ b → (missing_in table names ≡ None → missing_in table (names ++ rest) ≡ missing_in table rest)
        → missing_in table ((n ∷ names) ++ rest) ≡ missing_in table rest
    by_test true t ih = let no : Some n ≡ None = rw t at h in absurd cc
    by_test false t ih = let on : missing_in table names ≡ None = rw t at h in rw t (ih on)

missing_here : (table : List (ℕ × ℕ)) (names rest : List ℕ) (name : ℕ) → missing_in table names ≡ Some name → missing_in table (names ++ rest) ≡ Some name
missing_here table [] rest name h = absurd cc
missing_here table (n ∷ names) rest name h = by_test (is_none (value_in table n)) refl (λ on. missing_here table names rest name on)
  where
    by_test : (b : Bool) → is_none (value_in table n) ≡ b → (missing_in table names ≡ Some name → missing_in table (names ++ rest) ≡ Some name)
        → missing_in table ((n ∷ names) ++ rest) ≡ Some name
    by_test true t ih = let is : Some n ≡ Some name = rw t at h in rw t is
    by_test false t ih = let on : missing_in table names ≡ Some name = rw t at h in rw t (ih on)

pub externs_found : (table : List (ℕ × ℕ)) (modules : List Module) (i : ℕ) (m : Module) (o first : Option ℕ) → i < length modules
    → m ≡ get_or modules i m → o ≡ missing_in table m.externs → is_some o ≡ true → missing_in table (externs_of_all (drop i modules)) ≡ first → o ≡ first
externs_found table modules i m None first lt is found some h = absurd cc
externs_found table modules i m (Some name) first lt is found some h =
    let here : drop i modules ≡ m ∷ drop (i + 1) modules = drop_more modules i m lt ∙ ap (λ (x : Module). x ∷ drop (i + 1) modules) (sym is) in
    sym (sym h ∙ ap (λ (l : List Module). missing_in table (externs_of_all l)) here
    ∙ missing_here table m.externs (externs_of_all (drop (i + 1) modules)) name (sym found))

pub externs_next : (table : List (ℕ × ℕ)) (modules : List Module) (i : ℕ) (m : Module) (o first : Option ℕ) → i < length modules
    → m ≡ get_or modules i m → o ≡ missing_in table m.externs → is_some o ≡ false → missing_in table (externs_of_all (drop i modules)) ≡ first
    → missing_in table (externs_of_all (drop (i + 1) modules)) ≡ first
externs_next table modules i m (Some name) first lt is found none h = absurd cc
externs_next table modules i m None first lt is found none h =
    let here : drop i modules ≡ m ∷ drop (i + 1) modules = drop_more modules i m lt ∙ ap (λ (x : Module). x ∷ drop (i + 1) modules) (sym is) in
    sym (missing_skip table m.externs (externs_of_all (drop (i + 1) modules)) (sym found))
    ∙ sym (ap (λ (l : List Module). missing_in table (externs_of_all l)) here) ∙ h
