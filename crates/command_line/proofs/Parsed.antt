-- What clap gives for words of which none is another option.
use Rattle.std.proofs.Common.{◌≡◌, false, true, List, [], ◌∷◌, Option, Some, None, codes, refl, sym, ap, ◌∙◌, subst, inl, inr}
use Rattle.std.specs.List.{fold, list_any}
use Rattle.clap.specs.Walk.{Text, nothing_held, rows_of, walk_from, walked}
use Rattle.clap.specs.Simple.{App, HasMatchesOf, built, is_simple, matches_of}
use Rattle.clap.specs.Kinds.{HasKind, IsAmong, Kinds, or_else}
use Rattle.clap.specs.Values.{kind_of}
use Rattle.clap.specs.Matches.{found_of}
use Rattle.clap.specs.Faults.{fault_of, is_simple_and_free, walk_fault}
use Rattle.clap.specs.declared.error.Error.{Error}
use Rattle.clap.specs.declared.error.kind.ErrorKind.{ErrorKind}
use Rattle.clap.specs.declared.error.kind.ErrorKind.TheVariants.{OutOfMemory}
use Rattle.clap.specs.declared.parser.matches.ArgMatches.{ArgMatches}
use Rattle.clap.proofs.FaultLemmas.{leaf_fault}
use Rattle.clap.proofs.OnLiterals.{clap_on_literals}
use Rattle.clap.proofs.WalkLemmas.{first_value-rows}
use Rattle.command_line.specs.Places.{Placed, command_read, is_other_option, placed_of, values_found}
use Rattle.command_line.proofs.Steps.{end_fault, outcome_is, placed_in, rules, top, unless}
use Rattle.command_line.proofs.WordsRead.{words_read}

simple : is_simple command_read ≡ true
unfolding clap_on_literals
simple = refl

free : is_simple_and_free command_read ≡ true
unfolding clap_on_literals
free = refl

fault_is : (words : List Text) → fault_of command_read words
    ≡ or_else (walk_fault top [] (walk_from nothing_held) words) (end_fault (fold (walked rules []) (walk_from nothing_held) words).held)
fault_is words = leaf_fault (built command_read) nothing_held words refl

-- the values are those that `sorted` gives, unless clap is at fault, and then `sorted` gives none
found : (words : List Text) → list_any is_other_option words ≡ false
    → unless (fault_of command_read words) (Some (placed_in (matches_of command_read words))) ≡ placed_of words
found words h =
    ap (λ f. unless f (Some (placed_in (matches_of command_read words)))) (fault_is words)
    ∙ (outcome_is (walk_from nothing_held) words ∙ words_read words h)

none_among : (k : ErrorKind) (f : Kinds) (o : Option Placed) → IsAmong k f → None ≡ unless f o
none_among k [] o among = absurd among
none_among k (x ∷ f) o among = refl

values_as_found : (m : ArgMatches) → values_found m ≡ placed_in (rows_of (found_of m))
values_as_found m =
    λ i. record {
      mode = first_value-rows (found_of m) (codes "MODE") i;
      number = first_value-rows (found_of m) (codes "NUMBER") i;
      port = first_value-rows (found_of m) (codes "PORT") i;
      turns = first_value-rows (found_of m) (codes "TURNS") i;
    }

-- the same of a command that is the one above, as clap's clauses say it
module _ (a : App) (words : List Text) (is : a ≡ command_read) (no_other : list_any is_other_option words ≡ false) where
  pub accepted_at : (m : ArgMatches) → HasMatchesOf a words m → (is_simple_and_free a ≡ true → fault_of a words ≡ []) → Some (values_found m) ≡ placed_of words
  accepted_at m has passes =
      let rows : rows_of (found_of m) ≡ matches_of command_read words = (has (ap is_simple is ∙ simple)).0 ∙ ap (λ b. matches_of b words) is in
      let no_fault : fault_of command_read words ≡ [] = ap (λ b. fault_of b words) (sym is) ∙ passes (ap is_simple_and_free is ∙ free) in
      ap Some (values_as_found m ∙ ap placed_in rows)
      ∙ (ap (λ f. unless f (Some (placed_in (matches_of command_read words)))) (sym no_fault) ∙ found words no_other)

  pub refused_at : (e : Error) → (kind_of e ≡ OutOfMemory → ⊥) → (is_simple_and_free a ≡ true → HasKind (fault_of a words) e) → None ≡ placed_of words
  refused_at e other has = elim (has (ap is_simple_and_free is ∙ free)) [
    | inl memory ↦ absurd (other memory)
    | inr among ↦ none_among (kind_of e) (fault_of command_read words) _ (subst (λ b. IsAmong (kind_of e) (fault_of b words)) is among) ∙ found words no_other
  ]
