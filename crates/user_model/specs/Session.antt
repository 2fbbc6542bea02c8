-- claim: the rows of a user: what the machine made of rows is made of.
use Rattle.std.specs.Prelude.{ℕ, Bool, true, false, List, [], ◌∷◌, Option, Some, None, codes}
use Rattle.ctss_types.specs.Names.{NamePair}
use Rattle.ctss_types.specs.declared.script.Account.{Account}
use Rattle.ctss_types.specs.declared.file.FileBody.{FileBody}
use Rattle.time_sharing.specs.Machine.{Line, CutKind, Quit, Hang, Spent, End, CommonOp, Reply}
use Rattle.time_sharing.specs.Rows.{Rows, Outcome, Private}
use Rattle.file_model.specs.Files.{lasting}
use Rattle.cpu_regs.specs.Registers.{no_registers}
use Rattle.machine_model.specs.Step.{Step}
use Rattle.machine_model.specs.Machine.{step_of}
use Rattle.program_model.specs.declared.Fill.{Fill}
use Rattle.program_model.specs.declared.ProgramState.{ProgramState}
use Rattle.program_model.specs.declared.ProgramState.TheVariants.{Dead, Dormant, Working}
use Rattle.user_model.specs.Inner.{Inner, without_program}
use Rattle.user_model.specs.Texts.{logged_in_text, ready_text}
use Rattle.user_model.specs.Requests.{command_of}
use Rattle.program_model.specs.DebugLines.{debug_of}
use Rattle.program_model.specs.Stops.{Stops}
use Rattle.user_model.specs.Commands.{command_row, command_asks, command_replied, input_row}
use Rattle.user_model.specs.Debugger.{debug_row}
use Rattle.user_model.specs.Programs.{goes, at_break, breaks, with_step, filled_program, step_row, reads_line, asks_time, step_asks, step_replied}

-- What comes next of a user. Without a program that works each step takes a line: of the debugger, of INPUT for a file, or a command. A
-- program that works is filled with words first, and stops before an instruction at a breakpoint.
pub data Next : Type 0 where
  AtDebugger : (stops : Stops) → Next
  AtInput : (name : NamePair) → Next
  AtCommand : Next
  AtFill : (fill : Fill) → Next
  AtBreak : Next
  AtInstruction : (step : Step) → Next

abbrev pub line_next : Option Stops → Option NamePair → Next
line_next (Some s) input = AtDebugger s
line_next None (Some name) = AtInput name
line_next None None = AtCommand

abbrev pub instruction_next : Bool → Step → Next
instruction_next true s = AtBreak
instruction_next false s = AtInstruction s

abbrev pub program_next : Option Fill → Inner → Next
program_next (Some f) i = AtFill f
program_next None i = instruction_next (at_break i) (step_of i.regs i.core)

abbrev pub next_in : ProgramState → Inner → Next
next_in Dead i = line_next i.debugger i.input
next_in Dormant i = line_next i.debugger i.input
next_in Working i = program_next i.fill i

abbrev pub next_of : Inner → Next
next_of i = next_in i.state i

-- whether it takes a line
abbrev pub takes_line_at : Next → Inner → Bool
takes_line_at (AtDebugger s) i = true
takes_line_at (AtInput name) i = true
takes_line_at AtCommand i = true
takes_line_at (AtFill f) i = false
takes_line_at AtBreak i = false
takes_line_at (AtInstruction s) i = reads_line s i

-- a command counts own steps anew, and so does a line of the debugger: not so a line of INPUT
abbrev pub counts_anew : Next → Bool
counts_anew (AtDebugger s) = true
counts_anew AtCommand = true
counts_anew _ = false

abbrev pub some_text : Option Line → Bool
some_text None = false
some_text (Some l) = true

-- a command asks for the clock, which it prints, and GETTM does
abbrev pub asks_clock_at : Next → Inner → Option Line → Bool
asks_clock_at AtCommand i l = some_text l
asks_clock_at (AtInstruction s) i l = asks_time s i
asks_clock_at _ i l = false

-- what a line does, where there is one
abbrev pub by_line : (Line → Outcome Inner) → Inner → Option Line → Outcome Inner
by_line row i None = goes i
by_line row i (Some l) = row l

-- a step that makes no common operation, with the line that it takes, n own steps since the command, k lines of command files unread, and
-- the clock at t
abbrev pub act_at : Next → Inner → Option Line → (n k t : ℕ) → Outcome Inner
act_at (AtDebugger s) i line n k t = by_line (λ l. debug_row s (debug_of l) i n) i line
act_at (AtInput name) i line n k t = by_line (λ l. input_row name l i n) i line
act_at AtCommand i line n k t = by_line (λ l. command_row (command_of l) i (record { line = l; fed = k }) n t) i line
act_at (AtFill f) i line n k t = goes (filled_program f i)
act_at AtBreak i line n k t = breaks i n
act_at (AtInstruction s) i line n k t = with_step (step_row s i line n t)

abbrev pub line_asks : Inner → Option Line → Option CommonOp
line_asks i None = None
line_asks i (Some l) = command_asks (command_of l) i

-- the common operation that a step makes
abbrev pub asks_common_at : Next → Inner → Option Line → Option CommonOp
asks_common_at AtCommand i line = line_asks i line
asks_common_at (AtInstruction s) i line = step_asks s i
asks_common_at _ i line = None

-- a step that made a common operation, with its reply
abbrev pub replied_at : Next → Inner → Option Line → (n t : ℕ) → Reply → Outcome Inner
replied_at AtCommand i line n t r = by_line (λ l. command_replied (command_of l) i n t r) i line
replied_at (AtInstruction s) i line n t r = with_step (step_replied s i r)
replied_at _ i line n t r = goes i

-- a step, by whether it made a common operation
abbrev pub act_by : Option CommonOp → Next → Inner → Option Line → (n k t : ℕ) → Reply → Outcome Inner
act_by None next i line n k t r = act_at next i line n k t
act_by (Some op) next i line n k t r = replied_at next i line n t r

-- whether a program works
abbrev pub works_in : ProgramState → Bool
works_in Dead = false
works_in Dormant = false
works_in Working = true

abbrev pub is_none : {A : Type 0} → Option A → Bool
is_none None = true
is_none (Some a) = false

-- a quit stops a program that works
abbrev pub quitted : ProgramState → ProgramState
quitted Dead = Dead
quitted Dormant = Dormant
quitted Working = Dormant

-- what a quit says: where a program stopped by it, R n too
abbrev pub quit_text : ProgramState → ℕ → List Line
quit_text Dead n = codes "QUIT," ∷ []
quit_text Dormant n = codes "QUIT," ∷ []
quit_text Working n = codes "QUIT," ∷ ready_text n ∷ []

-- what a cut does to the inner state: INPUT is over and the debugger closed, and with the session its program and its files of mode 0 go
abbrev pub inner_cut : CutKind → Inner → Inner
inner_cut Quit i = record i { state = quitted i.state; fill = None; input = None; debugger = None }
inner_cut Hang i = without_program (record i { files = lasting i.files; input = None })
inner_cut Spent i = without_program (record i { files = lasting i.files; input = None })
inner_cut End i = i

abbrev pub user_rows : Rows Inner
user_rows =
    record {
      takes_line = λ i. takes_line_at (next_of i) i;
      is_command = λ i. counts_anew (next_of i);
      asks_clock = λ i l. asks_clock_at (next_of i) i l;
      asks_common = λ i l. asks_common_at (next_of i) i l;
      act = λ i l n k t r. act_by (asks_common_at (next_of i) i l) (next_of i) i l n k t r;
      opened = λ i. i;
      opened_text = λ i. logged_in_text i.account.name ∷ [];
      cut = inner_cut;
      cut_text = λ kind i n. quit_text i.state n;
    }

-- a user of an account with its first files, before any session
abbrev pub first_state : Account → List FileBody → Private Inner
first_state account files =
    record {
      inner = record { account = account; files = files; state = Dead; regs = no_registers; blocks = 0; core = []; fill = None; input = None; debugger = None };
      on = false;
      unread = [];
      lines = 0;
      fed = 0;
      transcript = [];
      own = 0;
      own_at_command = 0;
    }

-- what stands for a number that is no user's
abbrev pub no_account : Account
no_account = record { name = 0; password = 0; blocks = 0; tracks = 0 }

abbrev pub nobody : Private Inner
nobody = first_state no_account []
