-- Any row as a step of a user whose words and files lie apart: one law for all that the machine gives, supervisor entries among it, one for
-- what was still to be stored, one for commands, one for lines of INPUT.
use Rattle.std.proofs.Common.{◌≡◌, ℕ, suc, ◌-◌, Bool, true, false, not, ◌&&◌, ◌||◌, List, [], ◌∷◌, ◌++◌, ◌+◌, length, drop, Option, Some, None, refl, sym, ap, ◌∙◌, subst, zero-add}
use Rattle.std.specs.Prelude.{slice_get, if◌then◌else◌}
use Rattle.std.specs.declared.result.Result.{Result}
use Rattle.time_sharing.specs.Machine.{Line, Item, Ending, CommonOp, Reply, Done}
use Rattle.time_sharing.specs.Rows.{Outcome, some_line, is_logout, in_line, one_less, out_all, behind}
use Rattle.ctss_types.specs.Names.{NamePair}
use Rattle.machine_model.specs.Step.{Step, entry}
use Rattle.machine_model.specs.Machine.{step_of}
use Rattle.program_model.specs.declared.Call.{Call}
use Rattle.program_model.specs.declared.EntryFault.{EntryFault}
use Rattle.program_model.specs.Calls.{call_of}
use Rattle.program_model.specs.declared.Fill.{Fill}
use Rattle.program_model.specs.declared.ProgramState.{ProgramState}
use Rattle.program_model.specs.declared.ProgramState.TheVariants.{Dead, Dormant, Working}
use Rattle.user_model.specs.Inner.{Inner, Stored}
use Rattle.user_model.specs.declared.Command.{Command}
use Rattle.user_model.specs.Requests.{command_of}
use Rattle.user_model.specs.Commands.{command_row, command_asks, command_replied, input_row}
use Rattle.user_model.specs.Programs.{reads_line, asks_time, step_row, stepped_in, step_asks, step_replied, entry_asks, is_read, goes, at_break, with_step, breaks, filled_program}
use Rattle.program_model.specs.declared.DebugLine.{DebugLine}
use Rattle.program_model.specs.DebugLines.{debug_of}
use Rattle.program_model.specs.Stops.{Stops}
use Rattle.user_model.specs.Debugger.{debug_row, stores}
use Rattle.user_model.specs.Session.{works_in, is_none, next_of, AtCommand, AtInput}
use Rattle.user_model.specs.User.{User, can_step, asks_common, in_store, core_after, store_after, IsStep}
use Rattle.user_model.specs.Steps.{left}
use Rattle.user_model.specs.Answers.{IsRow, noted, line_count, fed_with, by_row, marked, step_line, step_said, DidStep, DidBreak, DidFill, DidEntry, DidCommand, DidInput, DidDebug, EntryReplied, CommandReplied}
use Rattle.user_model.proofs.PlainRows.{quiet, same_step}
use Rattle.user_model.proofs.StepLaws.{run_left, run_ends, run_asks, run_makes, run_can, run_replied_left, run_replied_ends, run_replied_asks, run_takes_none, break_left, break_ends, break_asks, break_makes, break_can, debug_left, debug_ends, debug_asks, debug_makes, debug_sets, command_left, command_ends, command_clock, command_makes, at_debugger, line_can, command_can, command_replied_left, command_replied_ends, input_left, input_ends, input_asks, input_makes, fill_left, fill_ends, fill_asks, fill_makes, fill_can}

-- the two forms of what a row leaves
append-nil : (xs : List Item) → xs ++ [] ≡ xs
append-nil [] = refl
append-nil (x ∷ xs) = ap (λ (ys : List Item). x ∷ ys) (append-nil xs)

noted_is : (xs ys : List Item) → noted xs ys ≡ xs ++ ys
noted_is xs [] = sym (append-nil xs)
noted_is xs (y ∷ ys) = refl

still_on : (b on : Bool) → on ≡ true → (if b then false else on) ≡ not b
still_on true on h = refl
still_on false on h = h

behind_is : (line : Option Line) (xs : List Line) → drop (line_count line) xs ≡ behind line xs
behind_is None xs = refl
behind_is (Some l) [] = refl
behind_is (Some l) (x ∷ xs) = refl

fed_is : (ls : List Line) (k : ℕ) → fed_with ls k ≡ length ls + k
fed_is [] k = sym (zero-add k)
fed_is (l ∷ ls) k = refl

row_left : (b : Bool) (line : Option Line) (o : Outcome Inner) (e : Ending) (p q : User) (c d : Stored) → p.on ≡ true → q ≡ by_row b line o p → core_after e o.inner.blocks d.core ≡ o.inner.core → d.files ≡ o.inner.files →
    in_store (store_after e q.inner.blocks d) q ≡ left b line o (in_store c p)
unfolding left
row_left b line o e p q c d on is core files =
    (λ j. in_store (store_after e (is j).inner.blocks d) (is j))
    ∙ (λ j. in_store (record { core = core j; files = files j }) (by_row b line o p))
    ∙ (λ j. record p {
      inner = o.inner;
      on = still_on (is_logout o.ending) p.on on j;
      unread = if is_logout o.ending then [] else o.front ++ behind_is line p.unread j;
      fed = if is_logout o.ending then 0 else fed_is o.front (one_less line p.fed) j;
      transcript = noted_is p.transcript (in_line line ++ out_all o.written) j;
      own = suc p.own;
      own_at_command = if b then p.own else p.own_at_command;
    })

given_back : (can b : Bool) (line : Option Line) (o : Outcome Inner) (asks : Bool) (e : Ending) (asked : Bool) (p q : User) (c d : Stored) → p.on ≡ true → IsRow can b line o asks e asked p q c d →
    in_store (store_after e q.inner.blocks d) q ≡ left b line o (in_store c p)
given_back can b line o asks e asked p q c d on is = row_left b line o e p q c d on is.1 is.2 is.3

-- a step that could be done and makes no common operation
both : (a b : Bool) → (a && b) ≡ true → (a ≡ true) × (b ≡ true)
both true true h = (refl, refl)
both true false h = cc
both false _ h = cc

alone : (made : Option CommonOp) → is_none made ≡ true → made ≡ None
alone None h = refl
alone (Some op) h = cc

-- and a row of the program's own step, after which an open debugger knows of it
pub marked_row : (can b : Bool) (line : Option Line) (o : Outcome Inner) (asks : Bool) (e : Ending) (asked : Bool) (p q : User) (c d : Stored) → IsRow can b line o asks e asked p q c d → IsRow can b line (with_step o) asks e asked p (marked q) c d
marked_row can b line o asks e asked p q c d is = (is.0, ap marked is.1, is.2, is.3, is.4, is.5, is.6)

-- what the machine gave
pub row_turn : (t : ℕ) (p q : User) (c d : Stored) (s : Step) (e : Ending) (asked : Bool) → works_in p.inner.state ≡ true → p.inner.fill ≡ None → at_break p.inner ≡ false → step_of p.inner.regs c.core ≡ s → p.on ≡ true
    → DidStep s e asked t p q c d
    → IsStep e asked None t Done p (marked q) c d
row_turn t p q c d s e asked h none at is on row =
    let can = both (is_none (step_asks s (in_store c p).inner)) (not (reads_line s (in_store c p).inner) || some_line p.unread) row.0 in
    let made : step_asks s (in_store c p).inner ≡ None = alone (step_asks s (in_store c p).inner) can.0 in
    record {
      can = run_can (in_store c p) s h none at is ∙ (λ j. on j && can.1 j);
      left = given_back (is_none (step_asks s (in_store c p).inner) && (not (reads_line s (in_store c p).inner) || some_line p.unread)) false (step_line s (in_store c p)) (with_step (step_said s t (in_store c p))) (asks_time s (in_store c p).inner) e asked p (marked q) c d on
          (marked_row _ false (step_line s (in_store c p)) (step_said s t (in_store c p)) (asks_time s (in_store c p).inner) e asked p q c d row) ∙ sym (run_left t (in_store c p) s h none at is made);
      ends = row.4 ∙ sym (run_ends t (in_store c p) s h none at is made);
      asks = row.5 ∙ sym (run_asks (in_store c p) s h none at is);
      makes = sym (run_makes (in_store c p) s h none at is ∙ made);
      words = λ _. row.6;
    }

-- without the debugger there is none that knows of it
working : (s : ProgramState) → works_in s ≡ true → Working ≡ s
working Dead h = cc
working Dormant h = cc
working Working h = refl

pub shut_marked : (t : ℕ) (p q : User) (c d : Stored) (s : Step) (e : Ending) (asked : Bool) → works_in p.inner.state ≡ true → p.inner.debugger ≡ None
    → DidStep s e asked t p q c d → marked q ≡ q
shut_marked t p q c d s e asked h shut row =
    let i = (in_store c p).inner in
    let line = step_line s (in_store c p) in
    let n = suc p.own - p.own_at_command in
    let same : i ≡ quiet i = λ j. record i { state = sym (working i.state h) j; debugger = shut j } in
    let left : q.inner.debugger ≡ None =
    ap (λ (u : User). u.inner.debugger) row.1 ∙ ap (λ (k : Inner). (step_row s k line n t).inner.debugger) same ∙ (same_step s i line n n t).alone in
    λ j. record q { inner = record q.inner { debugger = (ap stepped_in left ∙ sym left) j } }

-- a break
pub break_turn : (t : ℕ) (p q : User) (c d : Stored) (e : Ending) (asked : Bool) → works_in p.inner.state ≡ true → p.inner.fill ≡ None → at_break p.inner ≡ true → p.on ≡ true
    → DidBreak e asked p q c d
    → IsStep e asked None t Done p q c d
break_turn t p q c d e asked h none at on row =
    record {
      can = break_can (in_store c p) h none at ∙ on;
      left = given_back true false None (breaks (in_store c p).inner (suc p.own - p.own_at_command)) false e asked p q c d on row ∙ sym (break_left t (in_store c p) h none at);
      ends = row.4 ∙ sym (break_ends t (in_store c p) h none at);
      asks = row.5 ∙ sym (break_asks (in_store c p) h none at);
      makes = sym (break_makes (in_store c p) h none at);
      words = λ _. row.6;
    }

-- what was still to be stored
pub fill_turn : (t : ℕ) (p q : User) (c d : Stored) (f : Fill) (e : Ending) (asked : Bool) → works_in p.inner.state ≡ true → p.inner.fill ≡ Some f → p.on ≡ true
    → DidFill f e asked p q c d
    → IsStep e asked None t Done p q c d
fill_turn t p q c d f e asked h is on row =
    record {
      can = fill_can (in_store c p) f h is ∙ on;
      left = given_back true false None (goes (filled_program f (in_store c p).inner)) false e asked p q c d on row ∙ sym (fill_left t (in_store c p) f h is);
      ends = row.4 ∙ sym (fill_ends t (in_store c p) f h is);
      asks = row.5 ∙ sym (fill_asks (in_store c p) f h is);
      makes = sym (fill_makes (in_store c p) f h is);
      words = λ _. row.6;
    }

-- a supervisor entry
pub entry_turn : (t : ℕ) (p q : User) (c d : Stored) (w : ℕ) (call : Result Call EntryFault) (e : Ending) (asked : Bool) → works_in p.inner.state ≡ true → p.inner.fill ≡ None → at_break p.inner ≡ false → step_of p.inner.regs c.core ≡ entry w → call_of p.inner.regs c.core w ≡ call → p.on ≡ true
    → DidEntry call e asked t p q c d
    → IsStep e asked None t Done p (marked q) c d
entry_turn t p q c d w call e asked h none at is what on row =
    row_turn t p q c d (entry w) e asked h none at is on
    (subst (λ (r : Result Call EntryFault). DidEntry r e asked t p q c d) (sym what) row)

-- a command

some_at : (xs : List Line) (l : Line) → slice_get xs 0 ≡ Some l → some_line xs ≡ true
some_at [] l h = cc
some_at (x ∷ xs) l h = refl

pub command_turn : (t : ℕ) (p q : User) (c d : Stored) (l : Line) (command : Command) (e : Ending) (asked : Bool) → next_of (in_store c p).inner ≡ AtCommand → slice_get p.unread 0 ≡ Some l → command_of l ≡ command → p.on ≡ true
    → DidCommand l command e asked t p q c d
    → IsStep e asked None t Done p q c d
command_turn t p q c d l command e asked next first what on row =
    let made : command_asks command (in_store c p).inner ≡ None = alone (command_asks command (in_store c p).inner) row.0 in
    record {
      can = line_can AtCommand (in_store c p) next refl ∙ (λ j. on j && some_at p.unread l first j);
      left = given_back (is_none (command_asks command (in_store c p).inner)) true (Some l) (command_row command (in_store c p).inner (record { line = l; fed = p.fed - 1 }) 1 t) true e asked p q c d on row ∙ sym (command_left t (in_store c p) l command next first what made);
      ends = row.4 ∙ sym (command_ends t (in_store c p) l command next first what made);
      asks = row.5 ∙ sym (command_clock (in_store c p) l next first);
      makes = sym (command_makes (in_store c p) l command next first what ∙ made);
      words = λ _. row.6;
    }

-- a line of INPUT
pub input_turn : (t : ℕ) (p q : User) (c d : Stored) (l : Line) (name : NamePair) (e : Ending) (asked : Bool) → next_of (in_store c p).inner ≡ AtInput name → slice_get p.unread 0 ≡ Some l → p.on ≡ true
    → DidInput l name e asked p q c d
    → IsStep e asked None t Done p q c d
input_turn t p q c d l name e asked next first on row =
    record {
      can = line_can (AtInput name) (in_store c p) next refl ∙ (λ j. on j && some_at p.unread l first j);
      left = given_back true false (Some l) (input_row name l (in_store c p).inner (suc p.own - p.own_at_command)) false e asked p q c d on row ∙ sym (input_left t (in_store c p) l name next first);
      ends = row.4 ∙ sym (input_ends t (in_store c p) l name next first);
      asks = row.5 ∙ sym (input_asks (in_store c p) l name next first);
      makes = sym (input_makes (in_store c p) l name next first);
      words = λ _. row.6;
    }

-- a line of the debugger
pub debug_turn : (t : ℕ) (p q : User) (c d : Stored) (l : Line) (s : Stops) (line : DebugLine) (e : Ending) (asked : Bool) → works_in p.inner.state ≡ false → p.inner.debugger ≡ Some s → slice_get p.unread 0 ≡ Some l → debug_of l ≡ line → p.on ≡ true
    → DidDebug l s line e asked p q c d
    → IsStep e asked None t Done p q c d
debug_turn t p q c d l s line e asked h open_ first what on row =
    let next = at_debugger (in_store c p).inner s h open_ in
    let o = debug_row s line (in_store c p).inner 1 in
    record {
      can = command_can (in_store c p) h ∙ (λ j. on j && some_at p.unread l first j);
      left = row_left true (Some l) o e p q c d on row.0 row.1 row.2 ∙ sym (debug_left t (in_store c p) l s next first ∙ (λ j. left true (Some l) (debug_row s (what j) (in_store c p).inner 1) (in_store c p)));
      ends = row.3 ∙ sym (debug_ends t (in_store c p) l s next first ∙ (λ j. (debug_row s (what j) (in_store c p).inner 1).ending));
      asks = row.4 ∙ sym (debug_asks (in_store c p) l s next first);
      makes = sym (debug_makes (in_store c p) l s next first);
      words = λ no. row.5 (ap stores (sym what) ∙ sym (debug_sets (in_store c p) l s h open_ first) ∙ no);
    }

-- a command that made a common operation
pub command_replied_turn : (t : ℕ) (r : Reply) (p q : User) (c d : Stored) (l : Line) (command : Command) (op : CommonOp) (e : Ending) (asked : Bool) → next_of (in_store c p).inner ≡ AtCommand → slice_get p.unread 0 ≡ Some l → command_of l ≡ command → p.on ≡ true
    → CommandReplied l command op r e asked t p q c d
    → IsStep e asked (Some op) t r p q c d
command_replied_turn t r p q c d l command op e asked next first what on row =
    record {
      can = line_can AtCommand (in_store c p) next refl ∙ (λ j. on j && some_at p.unread l first j);
      left = given_back true true (Some l) (command_replied command (in_store c p).inner 1 t r) true e asked p q c d on row.1 ∙ sym (command_replied_left t r (in_store c p) l command op next first what row.0);
      ends = row.1.4 ∙ sym (command_replied_ends t r (in_store c p) l command op next first what row.0);
      asks = row.1.5 ∙ sym (command_clock (in_store c p) l next first);
      makes = sym (command_makes (in_store c p) l command next first what ∙ row.0);
      words = λ _. row.1.6;
    }

-- a supervisor entry that made one
pub entry_replied_turn : (t : ℕ) (r : Reply) (p q : User) (c d : Stored) (w : ℕ) (call : Result Call EntryFault) (op : CommonOp) (e : Ending) (asked : Bool) → works_in p.inner.state ≡ true → p.inner.fill ≡ None → at_break p.inner ≡ false → step_of p.inner.regs c.core ≡ entry w → call_of p.inner.regs c.core w ≡ call → p.on ≡ true
    → EntryReplied call op r e asked p q c d
    → IsStep e asked (Some op) t r p (marked q) c d
entry_replied_turn t r p q c d w call op e asked h none at is what on said =
    let row : EntryReplied (call_of p.inner.regs c.core w) op r e asked p q c d = subst (λ (x : Result Call EntryFault). EntryReplied x op r e asked p q c d) (sym what) said in
    record {
      can = run_can (in_store c p) (entry w) h none at is ∙ (λ j. on j && (not (run_takes_none (in_store c p) (entry w) op row.0 j) || some_line p.unread));
      left = given_back true false None (with_step (step_replied (entry w) (in_store c p).inner r)) false e asked p (marked q) c d on (marked_row true false None (step_replied (entry w) (in_store c p).inner r) false e asked p q c d row.1) ∙ sym (run_replied_left t r (in_store c p) (entry w) op h none at is row.0);
      ends = row.1.4 ∙ sym (run_replied_ends t r (in_store c p) (entry w) op h none at is row.0);
      asks = row.1.5 ∙ sym (run_asks (in_store c p) (entry w) h none at is ∙ run_replied_asks (entry w) (in_store c p).inner op row.0);
      makes = sym (run_makes (in_store c p) (entry w) h none at is ∙ row.0);
      words = λ _. row.1.6;
    }

-- a command that is to make one, and an entry
pub command_asked : (p : User) (c : Stored) (l : Line) (command : Command) (op : CommonOp) → next_of (in_store c p).inner ≡ AtCommand → slice_get p.unread 0 ≡ Some l → command_of l ≡ command → p.on ≡ true
    → command_asks command (in_store c p).inner ≡ Some op → (can_step (in_store c p) ≡ true) × (asks_common (in_store c p) ≡ Some op)
command_asked p c l command op next first what on makes =
    (line_can AtCommand (in_store c p) next refl ∙ (λ j. on j && some_at p.unread l first j), command_makes (in_store c p) l command next first what ∙ makes)

pub entry_asked : (p : User) (c : Stored) (w : ℕ) (call : Result Call EntryFault) (op : CommonOp) → works_in p.inner.state ≡ true → p.inner.fill ≡ None → at_break p.inner ≡ false → step_of p.inner.regs c.core ≡ entry w → call_of p.inner.regs c.core w ≡ call → p.on ≡ true
    → entry_asks call c.core ≡ Some op → (can_step (in_store c p) ≡ true) × (asks_common (in_store c p) ≡ Some op)
entry_asked p c w call op h none at is what on said =
    let makes : step_asks (entry w) (in_store c p).inner ≡ Some op = ap (λ (x : Result Call EntryFault). entry_asks x c.core) what ∙ said in
    (run_can (in_store c p) (entry w) h none at is ∙ (λ j. on j && (not (run_takes_none (in_store c p) (entry w) op makes j) || some_line p.unread)), run_makes (in_store c p) (entry w) h none at is ∙ makes)

-- a supervisor entry that waits for a line
none_at : (xs : List Line) → slice_get xs 0 ≡ None → some_line xs ≡ false
none_at [] h = refl
none_at (x ∷ xs) h = cc

and_none : (a : Bool) → (a && false) ≡ false
and_none true = refl
and_none false = refl

pub entry_waits : (p : User) (c : Stored) (w : ℕ) (call : Result Call EntryFault) → works_in p.inner.state ≡ true → p.inner.fill ≡ None → at_break p.inner ≡ false → step_of p.inner.regs c.core ≡ entry w → call_of p.inner.regs c.core w ≡ call
    → is_read call ≡ true → slice_get p.unread 0 ≡ None → can_step (in_store c p) ≡ false
entry_waits p c w call h none at is what reads empty =
    run_can (in_store c p) (entry w) h none at is
    ∙ (λ j. p.on && (not ((ap is_read what ∙ reads) j) || none_at p.unread empty j))
    ∙ and_none p.on

-- no program works, and a line is waited for
pub command_waits : (p : User) (c : Stored) → works_in p.inner.state ≡ false → slice_get p.unread 0 ≡ None → can_step (in_store c p) ≡ false
command_waits p c h none = command_can (in_store c p) h ∙ ap (λ (b : Bool). p.on && b) (none_at p.unread none) ∙ and_none p.on

and_off : (a b : Bool) → a ≡ false → (a && b) ≡ false
and_off true b h = cc
and_off false b h = refl

-- a session that isn't open
pub closed_waits : (p : User) (c : Stored) → p.on ≡ false → can_step (in_store c p) ≡ false
unfolding can_step
closed_waits p c off = and_off p.on _ off
