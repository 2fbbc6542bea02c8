-- What clap's walk finds, and what `sorted` makes of the same words.
use Rattle.std.proofs.Common.{◌≡◌, ◌∙◌, ℕ, Bool, true, false, ◌||◌, List, [], ◌∷◌, ◌++◌, Option, Some, None, cond, is_some, codes, refl, sym, ap, ap₂, subst, true≢false}
use Rattle.std.specs.List.{list_any}
use Rattle.std.specs.Prelude.{nat_eq, option_to_list}
use Rattle.std.specs.Option.{option_and_then, option_map}
use Rattle.std.specs.Cmp.{unsigned_Decides}
use Rattle.text_model.specs.Words.{NoValue, PortValue, SortedWords, TurnsValue, is_option, sorted, with_plain, with_port, with_turns}
use Rattle.clap.specs.Walk.{Row, Text, has_row, idle, settled_rows, used}
use Rattle.clap.specs.Kinds.{Kinds, or_else}
use Rattle.clap.specs.Faults.{check_fault, settle_fault, use_fault}
use Rattle.clap.specs.declared.error.kind.ErrorKind.{ErrorKind}
use Rattle.clap.specs.declared.error.kind.ErrorKind.TheVariants.{ArgumentConflict}
use Rattle.command_line.specs.Places.{Placed, is_other_option, one_at_most, placed_by}
use Rattle.command_line.proofs.Rows.{HaveNoDefaults, given, has_row_is, none_added, none_at_fault, row_added, row_at, row_kept, used_first, value_at}
use Rattle.command_line.proofs.Steps.{HasPort, HasTurns, IsBare, IsPort, IsTurns, Pending, WordKind, awaiting, end_settles, first_taken, held_at, mode_use, number_use, outcome_end, outcome_from, outcome_using, placed_in, plain_word, port_awaits, port_given, port_taken, port_use, port_missed, rules, second_taken, third_refused, top, turns_awaits, turns_given, turns_taken, turns_use, turns_missed, unless, walk_at, word_kind}

-- ---- what the words so far gave

pub data PlainSeen : Type 0 where
  NoWord : PlainSeen
  OneWord : Text → PlainSeen
  TwoWords : Text → Text → PlainSeen

abbrev first_seen : PlainSeen → Option Text
first_seen NoWord = None
first_seen (OneWord w) = Some w
first_seen (TwoWords w n) = Some w

abbrev second_seen : PlainSeen → Option Text
second_seen NoWord = None
second_seen (OneWord w) = None
second_seen (TwoWords w n) = Some n

abbrev seen_list : PlainSeen → List Text
seen_list NoWord = []
seen_list (OneWord w) = w ∷ []
seen_list (TwoWords w n) = w ∷ n ∷ []

abbrev position_behind : PlainSeen → ℕ
position_behind NoWord = 1
position_behind (OneWord w) = 2
position_behind (TwoWords w n) = 3

-- the rows hold these words and values, and nothing else at the four
pub record Stands (rows : List Row) (plain : PlainSeen) (port turns : Option Text) : Type 0 where
  pub mode : row_at (codes "MODE") rows ≡ option_map (given (codes "MODE")) (first_seen plain)
  pub number : row_at (codes "NUMBER") rows ≡ option_map (given (codes "NUMBER")) (second_seen plain)
  pub port_row : row_at (codes "PORT") rows ≡ option_map (given (codes "PORT")) port
  pub turns_row : row_at (codes "TURNS") rows ≡ option_map (given (codes "TURNS")) turns

-- ---- the words to come, sorted, behind those seen

abbrev placed_with : PlainSeen → Option Text → Option Text → Option SortedWords → Option Placed
placed_with plain port turns o =
    option_and_then (λ (s : SortedWords). placed_by (seen_list plain ++ s.plain) (option_to_list port ++ s.ports) (option_to_list turns ++ s.turns)) o

nothing_then : {X Y : Type 0} (o : Option X) → option_and_then {T = X} {U = Y} (λ x. None) o ≡ None
nothing_then None = refl
nothing_then (Some x) = refl

both_nothing : {X Y Z : Type 0} (o : Option X) (p : Option Y) → option_and_then {T = X} {U = Z} (λ x. option_and_then (λ y. None) p) o ≡ None
both_nothing None p = refl
both_nothing (Some x) p = nothing_then p

port_added : (plain : PlainSeen) (turns : Option Text) (v : Text) (o : Option SortedWords)
    → placed_with plain (Some v) turns o ≡ placed_with plain None turns (option_map (with_port v) o)
port_added plain turns v None = refl
port_added plain turns v (Some s) = refl

port_twice : (plain : PlainSeen) (p : Text) (turns : Option Text) (v : Text) (o : Option SortedWords)
    → placed_with plain (Some p) turns (option_map (with_port v) o) ≡ None
port_twice plain p turns v None = refl
port_twice plain p turns v (Some s) = refl

turns_added : (plain : PlainSeen) (port : Option Text) (v : Text) (o : Option SortedWords)
    → placed_with plain port (Some v) o ≡ placed_with plain port None (option_map (with_turns v) o)
turns_added plain port v None = refl
turns_added plain port v (Some s) = refl

turns_twice : (plain : PlainSeen) (port : Option Text) (t v : Text) (o : Option SortedWords)
    → placed_with plain port (Some t) (option_map (with_turns v) o) ≡ None
turns_twice plain port t v None = refl
turns_twice plain port t v (Some s) = nothing_then (one_at_most (option_to_list port ++ s.ports))

first_added : (port turns : Option Text) (w : Text) (o : Option SortedWords)
    → placed_with (OneWord w) port turns o ≡ placed_with NoWord port turns (option_map (with_plain w) o)
first_added port turns w None = refl
first_added port turns w (Some s) = refl

second_added : (port turns : Option Text) (w n : Text) (o : Option SortedWords)
    → placed_with (TwoWords w n) port turns o ≡ placed_with (OneWord w) port turns (option_map (with_plain n) o)
second_added port turns w n None = refl
second_added port turns w n (Some s) = refl

third_nowhere : (port turns : Option Text) (w n x : Text) (o : Option SortedWords)
    → placed_with (TwoWords w n) port turns (option_map (with_plain x) o) ≡ None
third_nowhere port turns w n x None = refl
third_nowhere port turns w n x (Some s) =
    both_nothing (one_at_most (option_to_list port ++ s.ports)) (one_at_most (option_to_list turns ++ s.turns))

-- `sorted` at a word that begins otherwise than with -
flipped : (b : ℕ) → nat_eq b 45 ≡ false → nat_eq 45 b ≡ false
flipped b h = go (nat_eq 45 b) refl
  where
    go : (c : Bool) → nat_eq 45 b ≡ c → c ≡ false
    go true e = absurd (true≢false (subst (λ (d : ℕ). nat_eq d 45 ≡ false) (sym ((unsigned_Decides 45 b).0 e)) h))
    go false e = refl

sorted_bare : (w : Text) (words : List Text) → is_option w ≡ false → sorted NoValue (w ∷ words) ≡ option_map (with_plain w) (sorted NoValue words)
sorted_bare [] words h = refl
sorted_bare (b ∷ w) words h = rw (h, flipped b h) refl

-- ---- one use of an argument that has no row yet

not_there : (id : Text) (rows : List Row) → row_at id rows ≡ None → has_row id rows ≡ false
not_there id rows e = has_row_is id rows ∙ ap is_some e

there : (id v : Text) (rows : List Row) → row_at id rows ≡ Some (given id v) → has_row id rows ≡ true
there id v rows e = has_row_is id rows ∙ ap is_some e

abbrev IdleReads : List Text → Type 0
IdleReads words = (rows : List Row) (plain : PlainSeen) (port turns : Option Text) → Stands rows plain port turns
    → outcome_from (walk_at rows None idle (position_behind plain)) words ≡ placed_with plain port turns (sorted NoValue words)

goes_on : (rows : List Row) (fault : Kinds) (used_rows : List Row) (position : ℕ) (words : List Text) → fault ≡ [] → used_rows ≡ rows
    → unless fault (outcome_from (walk_at used_rows None idle position) words) ≡ outcome_from (walk_at rows None idle position) words
goes_on rows fault used_rows position words f u = ap₂ (λ k r. unless k (outcome_from (walk_at r None idle position) words)) f u

stops : (fault : Kinds) (k : ErrorKind) (o : Option Placed) → fault ≡ k ∷ [] → unless fault o ≡ None
stops fault k o f = ap (λ ks. unless ks o) f

module _ (words : List Text) (reads : IdleReads words) where
  port_used : (rows : List Row) (plain : PlainSeen) (port turns : Option Text) (v : Text) → Stands rows plain port turns
      → outcome_using port_use v rows (position_behind plain) words ≡ placed_with plain port turns (option_map (with_port v) (sorted NoValue words))
  port_used rows plain None turns v s =
      let more : List Row = rows ++ given (codes "PORT") v ∷ [] in
      let passes : use_fault false port_use (v ∷ []) rows ≡ [] = rw (not_there (codes "PORT") rows s.port_row) refl in
      goes_on more (use_fault false port_use (v ∷ []) rows) (used port_use (v ∷ []) rows) (position_behind plain) words passes (used_first (codes "PORT") v rows s.port_row)
      ∙ reads more plain (Some v) turns (record {
        mode = row_kept (codes "MODE") (given (codes "PORT") v) rows refl ∙ s.mode;
        number = row_kept (codes "NUMBER") (given (codes "PORT") v) rows refl ∙ s.number;
        port_row = row_added (codes "PORT") (given (codes "PORT") v) rows refl s.port_row;
        turns_row = row_kept (codes "TURNS") (given (codes "PORT") v) rows refl ∙ s.turns_row;
      })
      ∙ port_added plain turns v (sorted NoValue words)
  port_used rows plain (Some p) turns v s =
      let conflict : use_fault false port_use (v ∷ []) rows ≡ ArgumentConflict ∷ [] = rw (there (codes "PORT") p rows s.port_row) refl in
      stops _ ArgumentConflict _ conflict ∙ sym (port_twice plain p turns v (sorted NoValue words))

  turns_used : (rows : List Row) (plain : PlainSeen) (port turns : Option Text) (v : Text) → Stands rows plain port turns
      → outcome_using turns_use v rows (position_behind plain) words ≡ placed_with plain port turns (option_map (with_turns v) (sorted NoValue words))
  turns_used rows plain port None v s =
      let more : List Row = rows ++ given (codes "TURNS") v ∷ [] in
      let passes : use_fault false turns_use (v ∷ []) rows ≡ [] = rw (not_there (codes "TURNS") rows s.turns_row) refl in
      goes_on more (use_fault false turns_use (v ∷ []) rows) (used turns_use (v ∷ []) rows) (position_behind plain) words passes (used_first (codes "TURNS") v rows s.turns_row)
      ∙ reads more plain port (Some v) (record {
        mode = row_kept (codes "MODE") (given (codes "TURNS") v) rows refl ∙ s.mode;
        number = row_kept (codes "NUMBER") (given (codes "TURNS") v) rows refl ∙ s.number;
        port_row = row_kept (codes "PORT") (given (codes "TURNS") v) rows refl ∙ s.port_row;
        turns_row = row_added (codes "TURNS") (given (codes "TURNS") v) rows refl s.turns_row;
      })
      ∙ turns_added plain port v (sorted NoValue words)
  turns_used rows plain port (Some t) v s =
      let conflict : use_fault false turns_use (v ∷ []) rows ≡ ArgumentConflict ∷ [] = rw (there (codes "TURNS") t rows s.turns_row) refl in
      stops _ ArgumentConflict _ conflict ∙ sym (turns_twice plain port t v (sorted NoValue words))

  first_used : (rows : List Row) (port turns : Option Text) (w : Text) → Stands rows NoWord port turns
      → outcome_using mode_use w rows 2 words ≡ placed_with NoWord port turns (option_map (with_plain w) (sorted NoValue words))
  first_used rows port turns w s =
      let more : List Row = rows ++ given (codes "MODE") w ∷ [] in
      let passes : use_fault false mode_use (w ∷ []) rows ≡ [] = rw (not_there (codes "MODE") rows s.mode) refl in
      goes_on more (use_fault false mode_use (w ∷ []) rows) (used mode_use (w ∷ []) rows) 2 words passes (used_first (codes "MODE") w rows s.mode)
      ∙ reads more (OneWord w) port turns (record {
        mode = row_added (codes "MODE") (given (codes "MODE") w) rows refl s.mode;
        number = row_kept (codes "NUMBER") (given (codes "MODE") w) rows refl ∙ s.number;
        port_row = row_kept (codes "PORT") (given (codes "MODE") w) rows refl ∙ s.port_row;
        turns_row = row_kept (codes "TURNS") (given (codes "MODE") w) rows refl ∙ s.turns_row;
      })
      ∙ first_added port turns w (sorted NoValue words)

  second_used : (rows : List Row) (port turns : Option Text) (w n : Text) → Stands rows (OneWord w) port turns
      → outcome_using number_use n rows 3 words ≡ placed_with (OneWord w) port turns (option_map (with_plain n) (sorted NoValue words))
  second_used rows port turns w n s =
      let more : List Row = rows ++ given (codes "NUMBER") n ∷ [] in
      let passes : use_fault false number_use (n ∷ []) rows ≡ [] = rw (not_there (codes "NUMBER") rows s.number) refl in
      goes_on more (use_fault false number_use (n ∷ []) rows) (used number_use (n ∷ []) rows) 3 words passes (used_first (codes "NUMBER") n rows s.number)
      ∙ reads more (TwoWords w n) port turns (record {
        mode = row_kept (codes "MODE") (given (codes "NUMBER") n) rows refl ∙ s.mode;
        number = row_added (codes "NUMBER") (given (codes "NUMBER") n) rows refl s.number;
        port_row = row_kept (codes "PORT") (given (codes "NUMBER") n) rows refl ∙ s.port_row;
        turns_row = row_kept (codes "TURNS") (given (codes "NUMBER") n) rows refl ∙ s.turns_row;
      })
      ∙ second_added port turns w n (sorted NoValue words)

-- ---- the end of the words

no_defaults : HaveNoDefaults rules
no_defaults = (refl, (refl, (refl, (refl, tt))))

abbrev placed_here : PlainSeen → Option Text → Option Text → Option Placed
placed_here NoWord port turns = None
placed_here plain port turns = Some (record { mode = first_seen plain; number = second_seen plain; port = port; turns = turns })

here_placed : (plain : PlainSeen) (port turns : Option Text) → placed_here plain port turns ≡ placed_with plain port turns (sorted NoValue [])
here_placed NoWord None None = refl
here_placed NoWord None (Some t) = refl
here_placed NoWord (Some p) None = refl
here_placed NoWord (Some p) (Some t) = refl
here_placed (OneWord w) None None = refl
here_placed (OneWord w) None (Some t) = refl
here_placed (OneWord w) (Some p) None = refl
here_placed (OneWord w) (Some p) (Some t) = refl
here_placed (TwoWords w n) None None = refl
here_placed (TwoWords w n) None (Some t) = refl
here_placed (TwoWords w n) (Some p) None = refl
here_placed (TwoWords w n) (Some p) (Some t) = refl

all_values : (rows : List Row) (plain : PlainSeen) (port turns : Option Text) → Stands rows plain port turns
    → placed_in rows ≡ record { mode = first_seen plain; number = second_seen plain; port = port; turns = turns }
all_values rows plain port turns s =
    λ i. record {
      mode = value_at (codes "MODE") (codes "MODE") rows (first_seen plain) s.mode i;
      number = value_at (codes "NUMBER") (codes "NUMBER") rows (second_seen plain) s.number i;
      port = value_at (codes "PORT") (codes "PORT") rows port s.port_row i;
      turns = value_at (codes "TURNS") (codes "TURNS") rows turns s.turns_row i;
    }

checked_end : (rows : List Row) (plain : PlainSeen) (port turns : Option Text) → Stands rows plain port turns
    → unless (check_fault top rows false) (Some (placed_in rows)) ≡ placed_here plain port turns
checked_end rows NoWord port turns s = rw s.mode refl
checked_end rows (OneWord w) port turns s =
    let passes : check_fault top rows false ≡ [] = rw s.mode refl in
    ap₂ unless passes (ap Some (all_values rows (OneWord w) port turns s))
checked_end rows (TwoWords w n) port turns s =
    let passes : check_fault top rows false ≡ [] = rw s.mode refl in
    ap₂ unless passes (ap Some (all_values rows (TwoWords w n) port turns s))

end_checked : (rows : List Row) → outcome_end (held_at rows None) ≡ unless (check_fault top rows false) (Some (placed_in rows))
unfolding outcome_end
end_checked rows =
    ap₂ (λ d r. unless (or_else d (check_fault top r false)) (Some (placed_in r))) (none_at_fault rules rows no_defaults) (none_added rules rows no_defaults)

end_read : (position : ℕ) (rows : List Row) (plain : PlainSeen) (port turns : Option Text) → Stands rows plain port turns
    → outcome_from (walk_at rows None idle position) [] ≡ placed_with plain port turns (sorted NoValue [])
unfolding outcome_from
end_read position rows plain port turns s = end_checked rows ∙ (checked_end rows plain port turns s ∙ here_placed plain port turns)

port_left : (rows : List Row) (position : ℕ) → outcome_from (awaiting (codes "PORT") rows position) [] ≡ None
unfolding outcome_from outcome_end
port_left rows position = refl

turns_left : (rows : List Row) (position : ℕ) → outcome_from (awaiting (codes "TURNS") rows position) [] ≡ None
unfolding outcome_from outcome_end
turns_left rows position = refl

end_settled : (rows : List Row) (pending : Pending) (position : ℕ) → outcome_from (walk_at rows pending idle position) []
    ≡ unless (settle_fault rules false (held_at rows pending)) (outcome_from (walk_at (settled_rows rules pending rows) None idle position) [])
unfolding outcome_from
end_settled rows pending position = end_settles rows pending

-- ---- all words

pub record Reads (words : List Text) : Type 0 where
  pub idle_reads : IdleReads words
  pub port_reads : (rows : List Row) (plain : PlainSeen) (port turns : Option Text) → Stands rows plain port turns
      → outcome_from (awaiting (codes "PORT") rows (position_behind plain)) words ≡ placed_with plain port turns (sorted PortValue words)
  pub turns_reads : (rows : List Row) (plain : PlainSeen) (port turns : Option Text) → Stands rows plain port turns
      → outcome_from (awaiting (codes "TURNS") rows (position_behind plain)) words ≡ placed_with plain port turns (sorted TurnsValue words)
  pub settles : (rows : List Row) (pending : Pending) (plain : PlainSeen) → outcome_from (walk_at rows pending idle (position_behind plain)) words
      ≡ unless (settle_fault rules false (held_at rows pending)) (outcome_from (walk_at (settled_rows rules pending rows) None idle (position_behind plain)) words)

reads_end : Reads []
reads_end =
    record {
      idle_reads = λ rows plain port turns s. end_read (position_behind plain) rows plain port turns s;
      port_reads = λ rows plain port turns s. port_left rows (position_behind plain);
      turns_reads = λ rows plain port turns s. turns_left rows (position_behind plain);
      settles = λ rows pending plain. end_settled rows pending (position_behind plain);
    }

module _ (words : List Text) (reads : Reads words) where
  abbrev Settles : List Row → Pending → Text → PlainSeen → Type 0
  Settles rows pending w plain = outcome_from (walk_at rows pending idle (position_behind plain)) (w ∷ words)
      ≡ unless (settle_fault rules false (held_at rows pending)) (outcome_from (walk_at (settled_rows rules pending rows) None idle (position_behind plain)) (w ∷ words))

  settles_word : (w : Text) → WordKind w → (rows : List Row) (pending : Pending) (plain : PlainSeen) → Settles rows pending w plain
  settles_word w (IsPort e) rows pending plain =
      subst (λ (y : Text). Settles rows pending y plain) (sym e)
      (port_awaits rows pending (position_behind plain) words
      ∙ ap (unless (settle_fault rules false (held_at rows pending))) (sym (port_awaits (settled_rows rules pending rows) None (position_behind plain) words)))
  settles_word w (IsTurns e) rows pending plain =
      subst (λ (y : Text). Settles rows pending y plain) (sym e)
      (turns_awaits rows pending (position_behind plain) words
      ∙ ap (unless (settle_fault rules false (held_at rows pending))) (sym (turns_awaits (settled_rows rules pending rows) None (position_behind plain) words)))
  settles_word w (HasPort v e) rows pending plain =
      subst (λ (y : Text). Settles rows pending y plain) (sym e)
      (port_given rows pending v (position_behind plain) words
      ∙ ap (unless (settle_fault rules false (held_at rows pending))) (sym (port_given (settled_rows rules pending rows) None v (position_behind plain) words)))
  settles_word w (HasTurns v e) rows pending plain =
      subst (λ (y : Text). Settles rows pending y plain) (sym e)
      (turns_given rows pending v (position_behind plain) words
      ∙ ap (unless (settle_fault rules false (held_at rows pending))) (sym (turns_given (settled_rows rules pending rows) None v (position_behind plain) words)))
  settles_word w (IsBare h) rows pending NoWord =
      first_taken rows pending w words (plain_word w h)
      ∙ ap (unless (settle_fault rules false (held_at rows pending))) (sym (first_taken (settled_rows rules pending rows) None w words (plain_word w h)))
  settles_word w (IsBare h) rows pending (OneWord x) =
      second_taken rows pending w words (plain_word w h)
      ∙ ap (unless (settle_fault rules false (held_at rows pending))) (sym (second_taken (settled_rows rules pending rows) None w words (plain_word w h)))
  settles_word w (IsBare h) rows pending (TwoWords x n) =
      third_refused rows pending w words (plain_word w h)
      ∙ ap (unless (settle_fault rules false (held_at rows pending))) (sym (third_refused (settled_rows rules pending rows) None w words (plain_word w h)))

  idle_word : (w : Text) → WordKind w → IdleReads (w ∷ words)
  idle_word w (IsPort e) rows plain port turns s =
      subst (λ (y : Text). outcome_from (walk_at rows None idle (position_behind plain)) (y ∷ words) ≡ placed_with plain port turns (sorted NoValue (y ∷ words))) (sym e)
      (port_awaits rows None (position_behind plain) words ∙ reads.port_reads rows plain port turns s)
  idle_word w (IsTurns e) rows plain port turns s =
      subst (λ (y : Text). outcome_from (walk_at rows None idle (position_behind plain)) (y ∷ words) ≡ placed_with plain port turns (sorted NoValue (y ∷ words))) (sym e)
      (turns_awaits rows None (position_behind plain) words ∙ reads.turns_reads rows plain port turns s)
  idle_word w (HasPort v e) rows plain port turns s =
      subst (λ (y : Text). outcome_from (walk_at rows None idle (position_behind plain)) (y ∷ words) ≡ placed_with plain port turns (sorted NoValue (y ∷ words))) (sym e)
      (port_given rows None v (position_behind plain) words ∙ port_used words reads.idle_reads rows plain port turns v s)
  idle_word w (HasTurns v e) rows plain port turns s =
      subst (λ (y : Text). outcome_from (walk_at rows None idle (position_behind plain)) (y ∷ words) ≡ placed_with plain port turns (sorted NoValue (y ∷ words))) (sym e)
      (turns_given rows None v (position_behind plain) words ∙ turns_used words reads.idle_reads rows plain port turns v s)
  idle_word w (IsBare h) rows NoWord port turns s =
      first_taken rows None w words (plain_word w h) ∙ (reads.settles rows (Some (codes "MODE", w ∷ [])) (OneWord w)
      ∙ (first_used words reads.idle_reads rows port turns w s ∙ ap (placed_with NoWord port turns) (sym (sorted_bare w words h))))
  idle_word w (IsBare h) rows (OneWord x) port turns s =
      second_taken rows None w words (plain_word w h) ∙ (reads.settles rows (Some (codes "NUMBER", w ∷ [])) (TwoWords x w)
      ∙ (second_used words reads.idle_reads rows port turns x w s ∙ ap (placed_with (OneWord x) port turns) (sym (sorted_bare w words h))))
  idle_word w (IsBare h) rows (TwoWords x n) port turns s =
      third_refused rows None w words (plain_word w h)
      ∙ (sym (third_nowhere port turns x n w (sorted NoValue words)) ∙ ap (placed_with (TwoWords x n) port turns) (sym (sorted_bare w words h)))

  port_word : (w : Text) → WordKind w → (rows : List Row) (plain : PlainSeen) (port turns : Option Text) → Stands rows plain port turns
      → outcome_from (awaiting (codes "PORT") rows (position_behind plain)) (w ∷ words) ≡ placed_with plain port turns (sorted PortValue (w ∷ words))
  port_word w k rows plain port turns s = go (is_option w) refl
    where
      go : (b : Bool) → is_option w ≡ b
          → outcome_from (awaiting (codes "PORT") rows (position_behind plain)) (w ∷ words)
          ≡ placed_with plain port turns (cond b None (option_map (with_port w) (sorted NoValue words)))
      go true h = port_missed rows (position_behind plain) w words k h
      go false h =
          port_taken rows (position_behind plain) w words (plain_word w h) ∙ (reads.settles rows (Some (codes "PORT", w ∷ [])) plain
          ∙ port_used words reads.idle_reads rows plain port turns w s)

  turns_word : (w : Text) → WordKind w → (rows : List Row) (plain : PlainSeen) (port turns : Option Text) → Stands rows plain port turns
      → outcome_from (awaiting (codes "TURNS") rows (position_behind plain)) (w ∷ words) ≡ placed_with plain port turns (sorted TurnsValue (w ∷ words))
  turns_word w k rows plain port turns s = go (is_option w) refl
    where
      go : (b : Bool) → is_option w ≡ b
          → outcome_from (awaiting (codes "TURNS") rows (position_behind plain)) (w ∷ words)
          ≡ placed_with plain port turns (cond b None (option_map (with_turns w) (sorted NoValue words)))
      go true h = turns_missed rows (position_behind plain) w words k h
      go false h =
          turns_taken rows (position_behind plain) w words (plain_word w h) ∙ (reads.settles rows (Some (codes "TURNS", w ∷ [])) plain
          ∙ turns_used words reads.idle_reads rows plain port turns w s)

  reads_word : (w : Text) → WordKind w → Reads (w ∷ words)
  reads_word w k =
      record {
        idle_reads = idle_word w k;
        port_reads = port_word w k;
        turns_reads = turns_word w k;
        settles = settles_word w k;
      }

neither : (a b : Bool) → (a || b) ≡ false → (a ≡ false) × (b ≡ false)
neither true b h = absurd (true≢false h)
neither false b h = (refl, h)

pub all_read : (words : List Text) → list_any is_other_option words ≡ false → Reads words
all_read [] h = reads_end
all_read (w ∷ words) h =
    let p = neither _ _ h in
    reads_word words (all_read words p.1) w (word_kind w p.0)

nothing_stands : Stands [] NoWord None None
nothing_stands = record { mode = refl; number = refl; port_row = refl; turns_row = refl }

-- clap's walk over all the words
pub words_read : (words : List Text) → list_any is_other_option words ≡ false
    → outcome_from (walk_at [] None idle 1) words ≡ placed_with NoWord None None (sorted NoValue words)
words_read words h = (all_read words h).idle_reads [] NoWord None None nothing_stands
