-- The rows of what clap found, and what one use of an argument adds to them.
use Rattle.std.proofs.Common.{◌≡◌, ◌∙◌, Bool, true, false, ◌||◌, List, [], ◌∷◌, ◌++◌, append-nil, Option, Some, None, is_some, cond, refl, ap, true≢false}
use Rattle.std.specs.List.{find, fold}
use Rattle.std.specs.Option.{option_map}
use Rattle.std.specs.Str.{bytes_eq}
use Rattle.clap.specs.Walk.{Row, Rule, Text, at_row, default_rows, first_of, has_row, is_empty, more_values, reading_by, used_as, with_default}
use Rattle.clap.specs.Values.{reading_of}
use Rattle.clap.specs.Kinds.{or_else}
use Rattle.clap.specs.Faults.{default_fault, defaults_fault, given_default_fault}
use Rattle.clap.specs.declared.builder.action.ArgAction.TheVariants.{Set}
use Rattle.clap.specs.declared.builder.value_parser.ValueParser.TheVariants.{String}
use Rattle.clap.specs.declared.parser.matches.ValueSource.TheVariants.{CommandLine}

abbrev pub row_at : Text → List Row → Option Row
row_at id rows = find (λ r. bytes_eq r.id id) rows

-- the row of an argument that was used once
abbrev pub given : Text → Text → Row
given id v =
    record { id = id; values = v ∷ []; count = None; source = Some CommandLine; reading = reading_of String }

parts : {X : Type 0} (b : Bool) (x : X) (o : Option X) → cond b (Some x) o ≡ None → (b ≡ false) × (o ≡ None)
parts true x o e = absurd (true≢false (ap is_some e))
parts false x o e = (refl, e)

at_end : (id : Text) (change : Row → List Row) (missing rows : List Row) → row_at id rows ≡ None → at_row id change missing rows ≡ rows ++ missing
at_end id change missing [] e = refl
at_end id change missing (r ∷ rows) e =
    let p = parts (bytes_eq r.id id) r (row_at id rows) e in
    rw p.0 (ap (λ rs. r ∷ rs) (at_end id change missing rows p.1))

pub has_row_is : (id : Text) (rows : List Row) → has_row id rows ≡ is_some (row_at id rows)
has_row_is id [] = refl
has_row_is id (r ∷ rows) = go (bytes_eq r.id id) (has_row_is id rows)
  where
    go : (b : Bool) → has_row id rows ≡ is_some (row_at id rows) → (b || has_row id rows) ≡ is_some (cond b (Some r) (row_at id rows))
    go true e = refl
    go false e = e

-- a row more at the end, of this id or of another
pub row_kept : (id : Text) (r : Row) (rows : List Row) → bytes_eq r.id id ≡ false → row_at id (rows ++ r ∷ []) ≡ row_at id rows
row_kept id r [] miss = rw miss refl
row_kept id r (x ∷ rows) miss = ap (λ o. cond (bytes_eq x.id id) (Some x) o) (row_kept id r rows miss)

pub row_added : (id : Text) (r : Row) (rows : List Row) → bytes_eq r.id id ≡ true → row_at id rows ≡ None → row_at id (rows ++ r ∷ []) ≡ Some r
row_added id r [] hit e = rw hit refl
row_added id r (x ∷ rows) hit e =
    let p = parts (bytes_eq x.id id) x (row_at id rows) e in
    rw p.0 (row_added id r rows hit p.1)

-- the first use of an option or a place adds its row
pub used_first : (id v : Text) (rows : List Row) → row_at id rows ≡ None → used_as Set id (reading_of String) (v ∷ []) rows ≡ rows ++ given id v ∷ []
used_first id v rows e =
    ap (at_row id (more_values CommandLine (v ∷ [])) (given id v ∷ [])) (at_end id (λ _. []) [] rows e ∙ append-nil rows)
    ∙ at_end id (more_values CommandLine (v ∷ [])) (given id v ∷ []) rows e

-- the value of a row
pub value_at : (id key : Text) (rows : List Row) (o : Option Text) → row_at id rows ≡ option_map (given key) o → first_of id rows ≡ o
value_at id key rows None e = rw e refl
value_at id key rows (Some v) e = rw e refl

-- ---- arguments with no default

abbrev pub HaveNoDefaults : List Rule → Type 0
HaveNoDefaults [] = Unit {0}
HaveNoDefaults (a ∷ rules) = (a.defaults ≡ []) × HaveNoDefaults rules

no_default : (a : Rule) (rows : List Row) → a.defaults ≡ [] → with_default rows a ≡ rows
no_default a rows e = go (has_row a.id rows)
  where
    go : (b : Bool) → cond b rows (default_rows a.id (reading_by a) a.defaults rows) ≡ rows
    go true = refl
    go false = ap (λ ds. default_rows a.id (reading_by a) ds rows) e

no_default_fault : (a : Rule) (rows : List Row) → a.defaults ≡ [] → default_fault rows a ≡ []
no_default_fault a rows e = go (has_row a.id rows)
  where
    go : (b : Bool) → cond (b || is_empty a.defaults) [] (given_default_fault a a.defaults) ≡ []
    go true = refl
    go false = ap (λ ds. cond (is_empty ds) [] (given_default_fault a ds)) e

pub none_added : (rules : List Rule) (rows : List Row) → HaveNoDefaults rules → fold with_default rows rules ≡ rows
none_added [] rows h = refl
none_added (a ∷ rules) rows h = ap (λ r. fold with_default r rules) (no_default a rows h.0) ∙ none_added rules rows h.1

pub none_at_fault : (rules : List Rule) (rows : List Row) → HaveNoDefaults rules → defaults_fault rows rules ≡ []
unfolding defaults_fault
none_at_fault [] rows h = refl
none_at_fault (a ∷ rules) rows h =
    ap (λ f. or_else f (defaults_fault (with_default rows a) rules)) (no_default_fault a rows h.0) ∙ none_at_fault rules (with_default rows a) h.1
