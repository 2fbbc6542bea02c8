-- Where clap's walk stands, and what one more word makes of it.
use Rattle.std.proofs.Common.{◌≡◌, ◌∙◌, ℕ, Bool, true, false, ◌||◌, ◌&&◌, not, List, [], ◌∷◌, ◌++◌, drop, Option, Some, None, cond, codes, refl, sym, ap, ap₂, subst, true≢false}
use Rattle.std.specs.List.{fold, starts_with}
use Rattle.std.specs.Prelude.{nat_eq}
use Rattle.std.specs.Str.{bytes_eq}
use Rattle.std.specs.Cmp.{unsigned_Decides}
use Rattle.std.proofs.lemmas.Slice.Eq.{bytes_eq-Decides, starts_is}
use Rattle.text_model.specs.Words.{is_option}
use Rattle.clap.specs.Lexer.{long_of, short_of}
use Rattle.clap.specs.Walk.{Held, Row, Rule, Text, Waiting, Walk, finished, first_of, idle, is_pending, option, pushed, settled, settled_rows, used, walked}
use Rattle.clap.specs.Simple.{Shape, built, filled, with_index}
use Rattle.clap.specs.Kinds.{Kinds, or_else}
use Rattle.clap.specs.Faults.{check_fault, defaults_fault, settle_fault, turn_fault, use_fault, walk_fault}
use Rattle.clap.specs.declared.error.kind.ErrorKind.TheVariants.{UnknownArgument, InvalidValue}
use Rattle.command_line.specs.Places.{Placed, command_read, is_other_option, mode_rule, number_rule, port_rule, turns_rule}

-- ---- the words that the command is given

pub data WordKind (w : Text) : Type 0 where
  IsPort : w ≡ codes "--port" → WordKind w
  IsTurns : w ≡ codes "--turns" → WordKind w
  HasPort : (v : Text) → w ≡ codes "--port=" ++ v → WordKind w
  HasTurns : (v : Text) → w ≡ codes "--turns=" ++ v → WordKind w
  IsBare : is_option w ≡ false → WordKind w

without_true : (b : Bool) → (b && true) ≡ false → b ≡ false
without_true true e = e
without_true false e = e

pub word_kind : (w : Text) → is_other_option w ≡ false → WordKind w
word_kind w h = go _ _ _ _ refl refl refl refl h
  where
    go : (a b c d : Bool) → bytes_eq w (codes "--port") ≡ a → bytes_eq w (codes "--turns") ≡ b
        → starts_with nat_eq w (codes "--port=") ≡ c → starts_with nat_eq w (codes "--turns=") ≡ d
        → (is_option w && not (a || (b || (c || d)))) ≡ false → WordKind w
    go true b c d ea eb ec ed e = IsPort ((bytes_eq-Decides w (codes "--port")).0 ea)
    go false true c d ea eb ec ed e = IsTurns ((bytes_eq-Decides w (codes "--turns")).0 eb)
    go false false true d ea eb ec ed e = HasPort (drop 7 w) ((starts_is unsigned_Decides w (codes "--port=") _ refl).0 ec)
    go false false false true ea eb ec ed e = HasTurns (drop 8 w) ((starts_is unsigned_Decides w (codes "--turns=") _ refl).0 ed)
    go false false false false ea eb ec ed e = IsBare (without_true _ e)

-- clap takes the word for no flag
pub record IsPlainWord (w : Text) : Type 0 where
  pub no_dashes : bytes_eq w (45 ∷ 45 ∷ []) ≡ false
  pub no_long : long_of w ≡ None
  pub no_short : short_of w ≡ None

pub plain_word : (w : Text) → is_option w ≡ false → IsPlainWord w
plain_word [] h = record { no_dashes = refl; no_long = refl; no_short = refl }
plain_word (b ∷ w) h = record { no_dashes = rw h refl; no_long = rw h refl; no_short = rw h refl }

-- ---- the walk

abbrev pub top : Shape
top = (built command_read).top

abbrev pub rules : List Rule
rules = top.rules

abbrev pub mode_use : Rule
mode_use = with_index 1 (filled mode_rule)

abbrev pub number_use : Rule
number_use = with_index 2 (filled number_rule)

abbrev pub port_use : Rule
port_use = with_index 3 (filled port_rule)

abbrev pub turns_use : Rule
turns_use = with_index 3 (filled turns_rule)

abbrev pub Pending : Type 0
Pending = Option (Text × List Text)

abbrev pub held_at : List Row → Pending → Held
held_at rows pending = record { rows = rows; pending = pending; skip = 0 }

abbrev pub walk_at : List Row → Pending → Waiting → ℕ → Walk
walk_at rows pending waiting position =
    record { held = held_at rows pending; waiting = waiting; position = position; is_trailing = false; stopped = None }

abbrev pub end_fault : Held → Kinds
end_fault h =
    or_else (settle_fault rules false h)
    (or_else (defaults_fault (settled rules h).rows rules) (check_fault top (finished rules h) false))

abbrev pub placed_in : List Row → Placed
placed_in rows =
    record {
      mode = first_of (codes "MODE") rows;
      number = first_of (codes "NUMBER") rows;
      port = first_of (codes "PORT") rows;
      turns = first_of (codes "TURNS") rows;
    }

-- what comes, unless something was at fault
abbrev pub unless : Kinds → Option Placed → Option Placed
unless [] o = o
unless (k ∷ ks) o = None

-- what is found where the words end
unfoldable pub outcome_end : Held → Option Placed
outcome_end h = unless (end_fault h) (Some (placed_in (finished rules h)))

-- what is found in the end, from where the walk stands and with the words to come
unfoldable pub outcome_from : Walk → List Text → Option Placed
outcome_from w [] = outcome_end w.held
outcome_from w (x ∷ words) = unless (turn_fault top [] w x) (outcome_from (walked rules [] w x) words)

unless_both : (a b : Kinds) (o : Option Placed) → unless (or_else a b) o ≡ unless a (unless b o)
unless_both [] b o = refl
unless_both (k ∷ ks) b o = refl

unless_none : (a : Kinds) → unless a None ≡ None
unless_none [] = refl
unless_none (k ∷ ks) = refl

unless_first : (a b c : Kinds) (o : Option Placed) → unless (or_else (or_else a b) c) o ≡ unless a (unless (or_else b c) o)
unless_first [] b c o = refl
unless_first (k ∷ ks) b c o = refl

-- as clap says it
pub outcome_is : (w : Walk) (words : List Text)
    → unless (or_else (walk_fault top [] w words) (end_fault (fold (walked rules []) w words).held)) (Some (placed_in (finished rules (fold (walked rules []) w words).held)))
    ≡ outcome_from w words
unfolding outcome_from outcome_end walk_fault
outcome_is w [] = refl
outcome_is w (x ∷ words) =
    unless_first (turn_fault top [] w x) (walk_fault top [] (walked rules [] w x) words) (end_fault (fold (walked rules []) (walked rules [] w x) words).held)
    (Some (placed_in (finished rules (fold (walked rules []) (walked rules [] w x) words).held)))
    ∙ ap (unless (turn_fault top [] w x)) (outcome_is (walked rules [] w x) words)

pub at_word : (w : Walk) (x : Text) (words : List Text) (f : Kinds) (after : Walk) → turn_fault top [] w x ≡ f → walked rules [] w x ≡ after
    → outcome_from w (x ∷ words) ≡ unless f (outcome_from after words)
unfolding outcome_from
at_word w x words f after fault is = ap₂ (λ k a. unless k (outcome_from a words)) fault is

pub fails_at : (w : Walk) (x : Text) (words : List Text) (k : _) (ks : Kinds) → turn_fault top [] w x ≡ k ∷ ks → outcome_from w (x ∷ words) ≡ None
unfolding outcome_from
fails_at w x words k ks fault = ap (λ f. unless f (outcome_from (walked rules [] w x) words)) fault

-- an argument is used with a value, and the walk goes on
abbrev pub outcome_using : Rule → Text → List Row → ℕ → List Text → Option Placed
outcome_using a v rows position words =
    unless (use_fault false a (v ∷ []) rows) (outcome_from (walk_at (used a (v ∷ []) rows) None idle position) words)

-- ---- a word where no option waits for its value

or_else_nothing : (a : Kinds) → or_else a [] ≡ a
or_else_nothing [] = refl
or_else_nothing (k ∷ ks) = refl

or_else_all : (a b : Kinds) → or_else (or_else a b) [] ≡ or_else a b
or_else_all [] b = or_else_nothing b
or_else_all (k ∷ ks) b = refl

never : {X : Type 0} (b : Bool) (x y : X) → cond (b && false) x y ≡ y
never true x y = refl
never false x y = refl

module _ (rows : List Row) (pending : Pending) where
  -- what settling the argument before gives
  abbrev fault : Kinds
  fault = settle_fault rules false (held_at rows pending)

  abbrev after : List Row
  after = settled_rows rules pending rows

  pub port_awaits : (position : ℕ) (words : List Text) → outcome_from (walk_at rows pending idle position) (codes "--port" ∷ words)
      ≡ unless fault (outcome_from (walk_at after (Some (codes "PORT", [])) (option (codes "PORT")) position) words)
  unfolding walked
  port_awaits position words = at_word (walk_at rows pending idle position) (codes "--port") words _ _ (or_else_nothing fault) refl

  pub turns_awaits : (position : ℕ) (words : List Text) → outcome_from (walk_at rows pending idle position) (codes "--turns" ∷ words)
      ≡ unless fault (outcome_from (walk_at after (Some (codes "TURNS", [])) (option (codes "TURNS")) position) words)
  unfolding walked
  turns_awaits position words = at_word (walk_at rows pending idle position) (codes "--turns") words _ _ (or_else_nothing fault) refl

  pub port_given : (v : Text) (position : ℕ) (words : List Text) → outcome_from (walk_at rows pending idle position) ((codes "--port=" ++ v) ∷ words)
      ≡ unless fault (outcome_using port_use v after position words)
  unfolding walked
  port_given v position words =
      at_word (walk_at rows pending idle position) (codes "--port=" ++ v) words (or_else fault (use_fault false port_use (v ∷ []) after))
      (walk_at (used port_use (v ∷ []) after) None idle position) (or_else_all fault (use_fault false port_use (v ∷ []) after)) refl
      ∙ unless_both fault (use_fault false port_use (v ∷ []) after) _

  pub turns_given : (v : Text) (position : ℕ) (words : List Text) → outcome_from (walk_at rows pending idle position) ((codes "--turns=" ++ v) ∷ words)
      ≡ unless fault (outcome_using turns_use v after position words)
  unfolding walked
  turns_given v position words =
      at_word (walk_at rows pending idle position) (codes "--turns=" ++ v) words (or_else fault (use_fault false turns_use (v ∷ []) after))
      (walk_at (used turns_use (v ∷ []) after) None idle position) (or_else_all fault (use_fault false turns_use (v ∷ []) after)) refl
      ∙ unless_both fault (use_fault false turns_use (v ∷ []) after) _

  pub end_settles : outcome_end (held_at rows pending) ≡ unless fault (outcome_end (held_at after None))
  unfolding outcome_end
  end_settles = unless_both fault _ _

  first_walked : (w : Text) → IsPlainWord w → walked rules [] (walk_at rows pending idle 1) w ≡ walk_at after (Some (codes "MODE", w ∷ [])) idle 2
  unfolding walked
  first_walked w p =
      rw (p.no_dashes, p.no_long, p.no_short)
      (ap (λ (h : Held). record (walk_at rows pending idle 2) { held = pushed (codes "MODE") w h })
      (never (is_pending mode_use pending) (held_at rows pending) (held_at after None)))

  first_fault : (w : Text) → IsPlainWord w → turn_fault top [] (walk_at rows pending idle 1) w ≡ fault
  first_fault w p = rw (p.no_dashes, p.no_long, p.no_short) (never (is_pending mode_use pending) [] fault)

  second_walked : (w : Text) → IsPlainWord w → walked rules [] (walk_at rows pending idle 2) w ≡ walk_at after (Some (codes "NUMBER", w ∷ [])) idle 3
  unfolding walked
  second_walked w p =
      rw (p.no_dashes, p.no_long, p.no_short)
      (ap (λ (h : Held). record (walk_at rows pending idle 3) { held = pushed (codes "NUMBER") w h })
      (never (is_pending number_use pending) (held_at rows pending) (held_at after None)))

  second_fault : (w : Text) → IsPlainWord w → turn_fault top [] (walk_at rows pending idle 2) w ≡ fault
  second_fault w p = rw (p.no_dashes, p.no_long, p.no_short) (never (is_pending number_use pending) [] fault)

  third_fault : (w : Text) → IsPlainWord w → turn_fault top [] (walk_at rows pending idle 3) w ≡ UnknownArgument ∷ []
  third_fault w p = rw (p.no_dashes, p.no_long, p.no_short) refl

  pub first_taken : (w : Text) (words : List Text) → IsPlainWord w → outcome_from (walk_at rows pending idle 1) (w ∷ words)
      ≡ unless fault (outcome_from (walk_at after (Some (codes "MODE", w ∷ [])) idle 2) words)
  first_taken w words p = at_word (walk_at rows pending idle 1) w words fault _ (first_fault w p) (first_walked w p)

  pub second_taken : (w : Text) (words : List Text) → IsPlainWord w → outcome_from (walk_at rows pending idle 2) (w ∷ words)
      ≡ unless fault (outcome_from (walk_at after (Some (codes "NUMBER", w ∷ [])) idle 3) words)
  second_taken w words p = at_word (walk_at rows pending idle 2) w words fault _ (second_fault w p) (second_walked w p)

  pub third_refused : (w : Text) (words : List Text) → IsPlainWord w → outcome_from (walk_at rows pending idle 3) (w ∷ words) ≡ unless fault None
  third_refused w words p = fails_at (walk_at rows pending idle 3) w words UnknownArgument [] (third_fault w p) ∙ sym (unless_none fault)

-- ---- a word behind an option that waits for its value

abbrev pub awaiting : Text → List Row → ℕ → Walk
awaiting id rows position = walk_at rows (Some (id, [])) (option id) position

module _ (rows : List Row) (position : ℕ) where
  pub port_taken : (w : Text) (words : List Text) → IsPlainWord w → outcome_from (awaiting (codes "PORT") rows position) (w ∷ words)
      ≡ outcome_from (walk_at rows (Some (codes "PORT", w ∷ [])) idle position) words
  unfolding walked
  port_taken w words p =
      at_word (awaiting (codes "PORT") rows position) w words [] (walk_at rows (Some (codes "PORT", w ∷ [])) idle position)
      (rw (p.no_dashes, p.no_long, p.no_short) refl) (rw (p.no_dashes, p.no_long, p.no_short) refl)

  pub turns_taken : (w : Text) (words : List Text) → IsPlainWord w → outcome_from (awaiting (codes "TURNS") rows position) (w ∷ words)
      ≡ outcome_from (walk_at rows (Some (codes "TURNS", w ∷ [])) idle position) words
  unfolding walked
  turns_taken w words p =
      at_word (awaiting (codes "TURNS") rows position) w words [] (walk_at rows (Some (codes "TURNS", w ∷ [])) idle position)
      (rw (p.no_dashes, p.no_long, p.no_short) refl) (rw (p.no_dashes, p.no_long, p.no_short) refl)

  abbrev Wants : Text → Text → Type 0
  Wants id w = turn_fault top [] (awaiting id rows position) w ≡ InvalidValue ∷ []

  port_wants : (w : Text) → WordKind w → is_option w ≡ true → Wants (codes "PORT") w
  port_wants w (IsPort e) h = subst (Wants (codes "PORT")) (sym e) refl
  port_wants w (IsTurns e) h = subst (Wants (codes "PORT")) (sym e) refl
  port_wants w (HasPort v e) h = subst (Wants (codes "PORT")) (sym e) refl
  port_wants w (HasTurns v e) h = subst (Wants (codes "PORT")) (sym e) refl
  port_wants w (IsBare e) h = absurd (true≢false (sym h ∙ e))

  pub port_missed : (w : Text) (words : List Text) → WordKind w → is_option w ≡ true → outcome_from (awaiting (codes "PORT") rows position) (w ∷ words) ≡ None
  port_missed w words k h = fails_at (awaiting (codes "PORT") rows position) w words InvalidValue [] (port_wants w k h)

  turns_wants : (w : Text) → WordKind w → is_option w ≡ true → Wants (codes "TURNS") w
  turns_wants w (IsPort e) h = subst (Wants (codes "TURNS")) (sym e) refl
  turns_wants w (IsTurns e) h = subst (Wants (codes "TURNS")) (sym e) refl
  turns_wants w (HasPort v e) h = subst (Wants (codes "TURNS")) (sym e) refl
  turns_wants w (HasTurns v e) h = subst (Wants (codes "TURNS")) (sym e) refl
  turns_wants w (IsBare e) h = absurd (true≢false (sym h ∙ e))

  pub turns_missed : (w : Text) (words : List Text) → WordKind w → is_option w ≡ true → outcome_from (awaiting (codes "TURNS") rows position) (w ∷ words) ≡ None
  turns_missed w words k h = fails_at (awaiting (codes "TURNS") rows position) w words InvalidValue [] (turns_wants w k h)
