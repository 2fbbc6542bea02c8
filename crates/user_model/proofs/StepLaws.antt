-- What a step is, by what comes next: a line of the debugger or of INPUT, a command, a fill, a break, an instruction.
use Rattle.std.proofs.Common.{◌≡◌, ℕ, suc, ◌-◌, Bool, true, false, not, ◌&&◌, ◌||◌, List, [], ◌∷◌, Option, Some, None, Ok, Err, refl, sym, ap, ◌∙◌, arith}
use Rattle.std.specs.Prelude.{slice_get, if◌then◌else◌}
use Rattle.std.specs.declared.result.Result.{Result}
use Rattle.time_sharing.specs.Machine.{Line, Went, Stopped, Done, CommonOp, Reply}
use Rattle.time_sharing.specs.Rows.{Outcome, some_line, one_less, first_line, line_of}
use Rattle.time_sharing.specs.System.{clock_for}
use Rattle.ctss_types.specs.Names.{NamePair}
use Rattle.machine_model.specs.Step.{Step, went, halt, entry, illegal, outside}
use Rattle.machine_model.specs.Machine.{step_of}
use Rattle.program_model.specs.declared.Call.{Call}
use Rattle.program_model.specs.declared.Call.TheVariants.{ReadLine, GetTime}
use Rattle.program_model.specs.declared.EntryFault.{EntryFault}
use Rattle.program_model.specs.declared.EntryFault.TheVariants.{NoSuchEntry, Outside}
use Rattle.program_model.specs.declared.Fill.{Fill}
use Rattle.program_model.specs.declared.ProgramState.{ProgramState}
use Rattle.program_model.specs.declared.ProgramState.TheVariants.{Dead, Dormant, Working}
use Rattle.program_model.specs.Calls.{call_of}
use Rattle.program_model.specs.DebugLines.{debug_of}
use Rattle.program_model.specs.Stops.{Stops}
use Rattle.user_model.specs.Inner.{Inner}
use Rattle.user_model.specs.Debugger.{debug_row, is_debugged, stores, line_stores}
use Rattle.user_model.specs.declared.Command.{Command}
use Rattle.user_model.specs.Requests.{command_of}
use Rattle.user_model.specs.Commands.{CommandLine, command_row, command_asks, command_replied, input_row}
use Rattle.user_model.specs.Programs.{at_break, with_step, breaks, step_row, step_asks, step_replied, entry_row, entry_asks, call_row, reads_line, is_clock, asks_time, is_read, filled_program, goes}
use Rattle.user_model.specs.Session.{user_rows, works_in, Next, AtDebugger, AtInput, AtCommand, AtFill, AtBreak, AtInstruction, line_next, instruction_next, program_next, next_in, next_of, takes_line_at, counts_anew, some_text, asks_clock_at, act_at, line_asks, asks_common_at, act_by}
use Rattle.user_model.specs.User.{User, can_step, step, ending, asks_clock, asks_common, sets_word}
use Rattle.user_model.specs.Steps.{left}

-- a step, by what comes next

-- the line that it takes
abbrev pub line_at : Next → User → Option Line
line_at x p = first_line (takes_line_at x p.inner) p.unread

-- the own steps since the command, this one among them
abbrev pub count_at : Next → User → ℕ
count_at x p = suc p.own - (if counts_anew x then p.own else p.own_at_command)

-- the clock that it is told
abbrev pub clock_at : Next → ℕ → User → ℕ
clock_at x t p = clock_for (asks_clock_at x p.inner (line_at x p)) t

abbrev made_at : Option CommonOp → Next → ℕ → Reply → User → Outcome Inner
made_at made x t r p = act_by made x p.inner (line_at x p) (count_at x p) (one_less (line_at x p) p.fed) (clock_at x t p) r

-- the common operation that it makes
pub next_makes : (x : Next) (p : User) → next_of p.inner ≡ x → asks_common p ≡ asks_common_at x p.inner (line_at x p)
unfolding asks_common
next_makes x p e = λ j. asks_common_at (e j) p.inner (line_at (e j) p)

next_asks : (x : Next) (p : User) → next_of p.inner ≡ x → asks_clock p ≡ asks_clock_at x p.inner (line_at x p)
unfolding asks_clock
next_asks x p e = λ j. asks_clock_at (e j) p.inner (line_at (e j) p)

next_can : (x : Next) (p : User) → next_of p.inner ≡ x → can_step p ≡ (p.on && (not (takes_line_at x p.inner) || some_line p.unread))
unfolding can_step
next_can x p e = λ j. p.on && (not (takes_line_at (e j) p.inner) || some_line p.unread)

-- with the operation that it made, or none
made_left : (x : Next) (made : Option CommonOp) (t : ℕ) (r : Reply) (p : User) → next_of p.inner ≡ x → asks_common_at x p.inner (line_at x p) ≡ made →
    step t r p ≡ left (counts_anew x) (line_at x p) (made_at made x t r p) p
unfolding step left
made_left x made t r p e makes =
    (λ j. left (counts_anew (e j)) (line_at (e j) p) (made_at (asks_common_at (e j) p.inner (line_at (e j) p)) (e j) t r p) p)
    ∙ ap (λ (m : Option CommonOp). left (counts_anew x) (line_at x p) (made_at m x t r p) p) makes

made_ends : (x : Next) (made : Option CommonOp) (t : ℕ) (r : Reply) (p : User) → next_of p.inner ≡ x → asks_common_at x p.inner (line_at x p) ≡ made →
    ending t r p ≡ (made_at made x t r p).ending
unfolding ending
made_ends x made t r p e makes =
    (λ j. (made_at (asks_common_at (e j) p.inner (line_at (e j) p)) (e j) t r p).ending) ∙ ap (λ (m : Option CommonOp). (made_at m x t r p).ending) makes

-- what comes next

pub next_idle : (s : ProgramState) (i : Inner) → works_in s ≡ false → next_in s i ≡ line_next i.debugger i.input
next_idle Dead i h = refl
next_idle Dormant i h = refl
next_idle Working i h = cc

next_works : (s : ProgramState) (i : Inner) → works_in s ≡ true → next_in s i ≡ program_next i.fill i
next_works Dead i h = cc
next_works Dormant i h = cc
next_works Working i h = refl

pub at_debugger : (i : Inner) (d : Stops) → works_in i.state ≡ false → i.debugger ≡ Some d → next_of i ≡ AtDebugger d
at_debugger i d h open_ = next_idle i.state i h ∙ (λ j. line_next (open_ j) i.input)

pub at_input : (i : Inner) (name : NamePair) → works_in i.state ≡ false → i.debugger ≡ None → i.input ≡ Some name → next_of i ≡ AtInput name
at_input i name h shut some = next_idle i.state i h ∙ (λ j. line_next (shut j) (some j))

pub at_command : (i : Inner) → works_in i.state ≡ false → i.debugger ≡ None → i.input ≡ None → next_of i ≡ AtCommand
at_command i h shut none = next_idle i.state i h ∙ (λ j. line_next (shut j) (none j))

pub at_fill : (i : Inner) (f : Fill) → works_in i.state ≡ true → i.fill ≡ Some f → next_of i ≡ AtFill f
at_fill i f h is = next_works i.state i h ∙ ap (λ (fill : Option Fill). program_next fill i) is

at_run : (i : Inner) (b : Bool) (s : Step) → works_in i.state ≡ true → i.fill ≡ None → at_break i ≡ b → step_of i.regs i.core ≡ s → next_of i ≡ instruction_next b s
at_run i b s h is at e = next_works i.state i h ∙ ap (λ (fill : Option Fill). program_next fill i) is ∙ (λ j. instruction_next (at j) (e j))

pub at_instruction : (i : Inner) (s : Step) → works_in i.state ≡ true → i.fill ≡ None → at_break i ≡ false → step_of i.regs i.core ≡ s → next_of i ≡ AtInstruction s
at_instruction i s h is at e = at_run i false s h is at e

pub stops_at_break : (i : Inner) → works_in i.state ≡ true → i.fill ≡ None → at_break i ≡ true → next_of i ≡ AtBreak
stops_at_break i h is at = at_run i true _ h is at refl

-- lines

first_step : (n : ℕ) → suc n - n ≡ 1
first_step n = omega arith

pub front_is : (xs : List Line) (l : Line) → slice_get xs 0 ≡ Some l → first_line true xs ≡ Some l
front_is [] l h = cc
front_is (x ∷ xs) l h = h

or_true : (b : Bool) → (b && true) ≡ b
or_true true = refl
or_true false = refl

-- a step that takes a line can be done where one is unread
pub line_can : (x : Next) (p : User) → next_of p.inner ≡ x → takes_line_at x p.inner ≡ true → can_step p ≡ (p.on && some_line p.unread)
line_can x p next takes = next_can x p next ∙ ap (λ (b : Bool). p.on && (not b || some_line p.unread)) takes

-- and so any without a program that works
pub command_can : (p : User) → works_in p.inner.state ≡ false → can_step p ≡ (p.on && some_line p.unread)
command_can p h = line_can _ p (next_idle p.inner.state p.inner h) (takes p.inner.debugger p.inner.input)
  where
    takes : (d : Option Stops) (input : Option NamePair) → takes_line_at (line_next d input) p.inner ≡ true
    takes (Some d) input = refl
    takes None (Some name) = refl
    takes None None = refl

-- none of these is an instruction
pub idle_steps_none : (i : Inner) (s : Step) → works_in i.state ≡ false → next_of i ≡ AtInstruction s → ⊥
idle_steps_none i s h e = never i.debugger i.input (sym (next_idle i.state i h) ∙ e)
  where
    never : (d : Option Stops) (input : Option NamePair) → line_next d input ≡ AtInstruction s → ⊥
    never (Some d) input is = cc
    never None (Some name) is = cc
    never None None is = cc

-- a command

-- the line of a command, and the lines of command files behind it
abbrev pub taken_at : Line → User → CommandLine
taken_at l p = record { line = l; fed = p.fed - 1 }

pub command_makes : (p : User) (l : Line) (c : Command) → next_of p.inner ≡ AtCommand → slice_get p.unread 0 ≡ Some l → command_of l ≡ c → asks_common p ≡ command_asks c p.inner
command_makes p l c next is e =
    next_makes AtCommand p next ∙ ap (λ (line : Option Line). line_asks p.inner line) (front_is p.unread l is) ∙ ap (λ (d : Command). command_asks d p.inner) e

pub command_clock : (p : User) (l : Line) → next_of p.inner ≡ AtCommand → slice_get p.unread 0 ≡ Some l → asks_clock p ≡ true
command_clock p l next is = next_asks AtCommand p next ∙ ap some_text (front_is p.unread l is)

asks_in : (p : User) (l : Line) (c : Command) (made : Option CommonOp) → slice_get p.unread 0 ≡ Some l → command_of l ≡ c → command_asks c p.inner ≡ made → asks_common_at AtCommand p.inner (line_at AtCommand p) ≡ made
asks_in p l c made is e makes = ap (λ (line : Option Line). line_asks p.inner line) (front_is p.unread l is) ∙ ap (λ (d : Command). command_asks d p.inner) e ∙ makes

-- what it comes to, with the line that is there
command_outcome : (made : Option CommonOp) (line : Option Line) (n t : ℕ) (r : Reply) (p : User) (l : Line) → line ≡ Some l → n ≡ 1 →
    act_by made AtCommand p.inner line n (one_less line p.fed) (clock_for (some_text line) t) r ≡ act_by made AtCommand p.inner (Some l) 1 (p.fed - 1) t r
command_outcome made line n t r p l is one = λ j. act_by made AtCommand p.inner (is j) (one j) (one_less (is j) p.fed) (clock_for (some_text (is j)) t) r

pub command_left : (t : ℕ) (p : User) (l : Line) (c : Command) → next_of p.inner ≡ AtCommand → slice_get p.unread 0 ≡ Some l → command_of l ≡ c → command_asks c p.inner ≡ None →
    step t Done p ≡ left true (Some l) (command_row c p.inner (taken_at l p) 1 t) p
command_left t p l c next is e alone =
    made_left AtCommand None t Done p next (asks_in p l c None is e alone)
    ∙ (λ j. left true (front_is p.unread l is j) (command_outcome None (line_at AtCommand p) (count_at AtCommand p) t Done p l (front_is p.unread l is) (first_step p.own) j) p)
    ∙ ap (λ (d : Command). left true (Some l) (command_row d p.inner (taken_at l p) 1 t) p) e

pub command_ends : (t : ℕ) (p : User) (l : Line) (c : Command) → next_of p.inner ≡ AtCommand → slice_get p.unread 0 ≡ Some l → command_of l ≡ c → command_asks c p.inner ≡ None →
    ending t Done p ≡ (command_row c p.inner (taken_at l p) 1 t).ending
command_ends t p l c next is e alone =
    made_ends AtCommand None t Done p next (asks_in p l c None is e alone)
    ∙ ap (λ (o : Outcome Inner). o.ending) (command_outcome None (line_at AtCommand p) (count_at AtCommand p) t Done p l (front_is p.unread l is) (first_step p.own))
    ∙ ap (λ (d : Command). (command_row d p.inner (taken_at l p) 1 t).ending) e

pub command_replied_left : (t : ℕ) (r : Reply) (p : User) (l : Line) (c : Command) (op : CommonOp) → next_of p.inner ≡ AtCommand → slice_get p.unread 0 ≡ Some l → command_of l ≡ c → command_asks c p.inner ≡ Some op →
    step t r p ≡ left true (Some l) (command_replied c p.inner 1 t r) p
command_replied_left t r p l c op next is e makes =
    made_left AtCommand (Some op) t r p next (asks_in p l c (Some op) is e makes)
    ∙ (λ j. left true (front_is p.unread l is j) (command_outcome (Some op) (line_at AtCommand p) (count_at AtCommand p) t r p l (front_is p.unread l is) (first_step p.own) j) p)
    ∙ ap (λ (d : Command). left true (Some l) (command_replied d p.inner 1 t r) p) e

pub command_replied_ends : (t : ℕ) (r : Reply) (p : User) (l : Line) (c : Command) (op : CommonOp) → next_of p.inner ≡ AtCommand → slice_get p.unread 0 ≡ Some l → command_of l ≡ c → command_asks c p.inner ≡ Some op →
    ending t r p ≡ (command_replied c p.inner 1 t r).ending
command_replied_ends t r p l c op next is e makes =
    made_ends AtCommand (Some op) t r p next (asks_in p l c (Some op) is e makes)
    ∙ ap (λ (o : Outcome Inner). o.ending) (command_outcome (Some op) (line_at AtCommand p) (count_at AtCommand p) t r p l (front_is p.unread l is) (first_step p.own))
    ∙ ap (λ (d : Command). (command_replied d p.inner 1 t r).ending) e

-- a line of INPUT

pub input_makes : (p : User) (l : Line) (name : NamePair) → next_of p.inner ≡ AtInput name → slice_get p.unread 0 ≡ Some l → asks_common p ≡ None
input_makes p l name next is = next_makes (AtInput name) p next

pub input_left : (t : ℕ) (p : User) (l : Line) (name : NamePair) → next_of p.inner ≡ AtInput name → slice_get p.unread 0 ≡ Some l →
    step t Done p ≡ left false (Some l) (input_row name l p.inner (suc p.own - p.own_at_command)) p
input_left t p l name next is =
    made_left (AtInput name) None t Done p next refl
    ∙ (λ j. left false (front_is p.unread l is j) (act_at (AtInput name) p.inner (front_is p.unread l is j) (suc p.own - p.own_at_command) 0 0) p)

pub input_ends : (t : ℕ) (p : User) (l : Line) (name : NamePair) → next_of p.inner ≡ AtInput name → slice_get p.unread 0 ≡ Some l →
    ending t Done p ≡ (input_row name l p.inner (suc p.own - p.own_at_command)).ending
input_ends t p l name next is =
    made_ends (AtInput name) None t Done p next refl
    ∙ (λ j. (act_at (AtInput name) p.inner (front_is p.unread l is j) (suc p.own - p.own_at_command) 0 0).ending)

pub input_asks : (p : User) (l : Line) (name : NamePair) → next_of p.inner ≡ AtInput name → slice_get p.unread 0 ≡ Some l → asks_clock p ≡ false
input_asks p l name next is = next_asks (AtInput name) p next

-- a line of the debugger

pub debug_makes : (p : User) (l : Line) (d : Stops) → next_of p.inner ≡ AtDebugger d → slice_get p.unread 0 ≡ Some l → asks_common p ≡ None
debug_makes p l d next is = next_makes (AtDebugger d) p next

pub debug_left : (t : ℕ) (p : User) (l : Line) (d : Stops) → next_of p.inner ≡ AtDebugger d → slice_get p.unread 0 ≡ Some l →
    step t Done p ≡ left true (Some l) (debug_row d (debug_of l) p.inner 1) p
debug_left t p l d next is =
    made_left (AtDebugger d) None t Done p next refl
    ∙ (λ j. left true (front_is p.unread l is j) (act_at (AtDebugger d) p.inner (front_is p.unread l is j) (first_step p.own j) 0 0) p)

pub debug_ends : (t : ℕ) (p : User) (l : Line) (d : Stops) → next_of p.inner ≡ AtDebugger d → slice_get p.unread 0 ≡ Some l →
    ending t Done p ≡ (debug_row d (debug_of l) p.inner 1).ending
debug_ends t p l d next is =
    made_ends (AtDebugger d) None t Done p next refl
    ∙ (λ j. (act_at (AtDebugger d) p.inner (front_is p.unread l is j) (first_step p.own j) 0 0).ending)

pub debug_asks : (p : User) (l : Line) (d : Stops) → next_of p.inner ≡ AtDebugger d → slice_get p.unread 0 ≡ Some l → asks_clock p ≡ false
debug_asks p l d next is = next_asks (AtDebugger d) p next

-- the next step is SET where the line is
pub debug_sets : (p : User) (l : Line) (d : Stops) → works_in p.inner.state ≡ false → p.inner.debugger ≡ Some d → slice_get p.unread 0 ≡ Some l → sets_word p ≡ stores (debug_of l)
unfolding sets_word
debug_sets p l d h open_ is =
    ap (λ (o : Option Stops). is_debugged o && not (works_in p.inner.state) && line_stores (line_of user_rows p)) open_
    ∙ ap (λ (b : Bool). not b && line_stores (line_of user_rows p)) h
    ∙ (λ j. line_stores (line_at (at_debugger p.inner d h open_ j) p))
    ∙ ap line_stores (front_is p.unread l is)

-- a program that is still to be filled

pub fill_makes : (p : User) (f : Fill) → works_in p.inner.state ≡ true → p.inner.fill ≡ Some f → asks_common p ≡ None
fill_makes p f h is = next_makes (AtFill f) p (at_fill p.inner f h is)

pub fill_left : (t : ℕ) (p : User) (f : Fill) → works_in p.inner.state ≡ true → p.inner.fill ≡ Some f →
    step t Done p ≡ left false None (goes (filled_program f p.inner)) p
fill_left t p f h is = made_left (AtFill f) None t Done p (at_fill p.inner f h is) refl

pub fill_ends : (t : ℕ) (p : User) (f : Fill) → works_in p.inner.state ≡ true → p.inner.fill ≡ Some f → ending t Done p ≡ Went
fill_ends t p f h is = made_ends (AtFill f) None t Done p (at_fill p.inner f h is) refl

pub fill_asks : (p : User) (f : Fill) → works_in p.inner.state ≡ true → p.inner.fill ≡ Some f → asks_clock p ≡ false
fill_asks p f h is = next_asks (AtFill f) p (at_fill p.inner f h is)

pub fill_can : (p : User) (f : Fill) → works_in p.inner.state ≡ true → p.inner.fill ≡ Some f → can_step p ≡ p.on
fill_can p f h is = next_can (AtFill f) p (at_fill p.inner f h is) ∙ or_true p.on

-- an instruction

-- the clock matters only where it is asked for

call_clock : (c : Call) (i : Inner) (l : Option Line) (n t : ℕ) → call_row c i l n (clock_for (is_clock (Ok c)) t) ≡ call_row c i l n t
call_clock GetTime i l n t = refl
call_clock _ i l n t = refl

entry_clock : (call : Result Call EntryFault) (i : Inner) (l : Option Line) (n t : ℕ) → entry_row call i l n (clock_for (is_clock call) t) ≡ entry_row call i l n t
entry_clock (Ok call) i l n t = call_clock call i l n t
entry_clock (Err NoSuchEntry) i l n t = refl
entry_clock (Err (Outside a)) i l n t = refl

step_clock : (s : Step) (i : Inner) (l : Option Line) (n t : ℕ) → step_row s i l n (clock_for (asks_time s i) t) ≡ step_row s i l n t
step_clock (went r core) i l n t = refl
step_clock (halt r core) i l n t = refl
step_clock (entry w) i l n t = entry_clock (call_of i.regs i.core w) i l n t
step_clock illegal i l n t = refl
step_clock (outside a) i l n t = refl

pub run_makes : (p : User) (s : Step) → works_in p.inner.state ≡ true → p.inner.fill ≡ None → at_break p.inner ≡ false → step_of p.inner.regs p.inner.core ≡ s → asks_common p ≡ step_asks s p.inner
run_makes p s h is at e = next_makes (AtInstruction s) p (at_instruction p.inner s h is at e)

pub run_left : (t : ℕ) (p : User) (s : Step) → works_in p.inner.state ≡ true → p.inner.fill ≡ None → at_break p.inner ≡ false → step_of p.inner.regs p.inner.core ≡ s → step_asks s p.inner ≡ None →
    step t Done p ≡ left false (first_line (reads_line s p.inner) p.unread) (with_step (step_row s p.inner (first_line (reads_line s p.inner) p.unread) (suc p.own - p.own_at_command) t)) p
run_left t p s h is at e alone =
    made_left (AtInstruction s) None t Done p (at_instruction p.inner s h is at e) alone
    ∙ ap (λ (o : Outcome Inner). left false (line_at (AtInstruction s) p) (with_step o) p) (step_clock s p.inner (line_at (AtInstruction s) p) (suc p.own - p.own_at_command) t)

pub run_ends : (t : ℕ) (p : User) (s : Step) → works_in p.inner.state ≡ true → p.inner.fill ≡ None → at_break p.inner ≡ false → step_of p.inner.regs p.inner.core ≡ s → step_asks s p.inner ≡ None →
    ending t Done p ≡ (step_row s p.inner (first_line (reads_line s p.inner) p.unread) (suc p.own - p.own_at_command) t).ending
run_ends t p s h is at e alone =
    made_ends (AtInstruction s) None t Done p (at_instruction p.inner s h is at e) alone
    ∙ ap (λ (o : Outcome Inner). o.ending) (step_clock s p.inner (line_at (AtInstruction s) p) (suc p.own - p.own_at_command) t)

pub run_asks : (p : User) (s : Step) → works_in p.inner.state ≡ true → p.inner.fill ≡ None → at_break p.inner ≡ false → step_of p.inner.regs p.inner.core ≡ s → asks_clock p ≡ asks_time s p.inner
run_asks p s h is at e = next_asks (AtInstruction s) p (at_instruction p.inner s h is at e)

pub run_can : (p : User) (s : Step) → works_in p.inner.state ≡ true → p.inner.fill ≡ None → at_break p.inner ≡ false → step_of p.inner.regs p.inner.core ≡ s →
    can_step p ≡ (p.on && (not (reads_line s p.inner) || some_line p.unread))
run_can p s h is at e = next_can (AtInstruction s) p (at_instruction p.inner s h is at e)

-- a break

pub break_makes : (p : User) → works_in p.inner.state ≡ true → p.inner.fill ≡ None → at_break p.inner ≡ true → asks_common p ≡ None
break_makes p h is at = next_makes AtBreak p (stops_at_break p.inner h is at)

pub break_left : (t : ℕ) (p : User) → works_in p.inner.state ≡ true → p.inner.fill ≡ None → at_break p.inner ≡ true →
    step t Done p ≡ left false None (breaks p.inner (suc p.own - p.own_at_command)) p
break_left t p h is at = made_left AtBreak None t Done p (stops_at_break p.inner h is at) refl

pub break_ends : (t : ℕ) (p : User) → works_in p.inner.state ≡ true → p.inner.fill ≡ None → at_break p.inner ≡ true → ending t Done p ≡ Stopped
break_ends t p h is at = made_ends AtBreak None t Done p (stops_at_break p.inner h is at) refl

pub break_asks : (p : User) → works_in p.inner.state ≡ true → p.inner.fill ≡ None → at_break p.inner ≡ true → asks_clock p ≡ false
break_asks p h is at = next_asks AtBreak p (stops_at_break p.inner h is at)

pub break_can : (p : User) → works_in p.inner.state ≡ true → p.inner.fill ≡ None → at_break p.inner ≡ true → can_step p ≡ p.on
break_can p h is at = next_can AtBreak p (stops_at_break p.inner h is at) ∙ or_true p.on

-- an instruction that made a common operation

-- a call that makes a common operation takes no line
takes_none : (s : Step) (i : Inner) (op : CommonOp) → step_asks s i ≡ Some op → reads_line s i ≡ false
takes_none (went regs core) i op e = cc
takes_none (halt regs core) i op e = cc
takes_none (entry w) i op e = call_takes (call_of i.regs i.core w) e
  where
    call_takes : (call : Result Call EntryFault) → entry_asks call i.core ≡ Some op → is_read call ≡ false
    call_takes (Ok (ReadLine at count)) e = cc
    call_takes _ e = refl
takes_none illegal i op e = cc
takes_none (outside a) i op e = cc

pub run_replied_left : (t : ℕ) (r : Reply) (p : User) (s : Step) (op : CommonOp) → works_in p.inner.state ≡ true → p.inner.fill ≡ None → at_break p.inner ≡ false → step_of p.inner.regs p.inner.core ≡ s → step_asks s p.inner ≡ Some op →
    step t r p ≡ left false None (with_step (step_replied s p.inner r)) p
run_replied_left t r p s op h is at e makes =
    made_left (AtInstruction s) (Some op) t r p (at_instruction p.inner s h is at e) makes
    ∙ ap (λ (b : Bool). left false (first_line b p.unread) (with_step (step_replied s p.inner r)) p) (takes_none s p.inner op makes)

pub run_replied_ends : (t : ℕ) (r : Reply) (p : User) (s : Step) (op : CommonOp) → works_in p.inner.state ≡ true → p.inner.fill ≡ None → at_break p.inner ≡ false → step_of p.inner.regs p.inner.core ≡ s → step_asks s p.inner ≡ Some op →
    ending t r p ≡ (step_replied s p.inner r).ending
run_replied_ends t r p s op h is at e makes = made_ends (AtInstruction s) (Some op) t r p (at_instruction p.inner s h is at e) makes

-- what a step that makes a common operation waits for
pub run_takes_none : (p : User) (s : Step) (op : CommonOp) → step_asks s p.inner ≡ Some op → reads_line s p.inner ≡ false
run_takes_none p s op makes = takes_none s p.inner op makes

-- it doesn't ask for the clock
pub run_replied_asks : (s : Step) (i : Inner) (op : CommonOp) → step_asks s i ≡ Some op → asks_time s i ≡ false
run_replied_asks (went regs core) i op e = cc
run_replied_asks (halt regs core) i op e = cc
run_replied_asks (entry w) i op e = call_clock_none (call_of i.regs i.core w) e
  where
    call_clock_none : (call : Result Call EntryFault) → entry_asks call i.core ≡ Some op → is_clock call ≡ false
    call_clock_none (Ok GetTime) e = cc
    call_clock_none _ e = refl
run_replied_asks illegal i op e = cc
run_replied_asks (outside a) i op e = cc
