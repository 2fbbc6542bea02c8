-- claim: one user's inner state: all of a user but the unread lines, the transcript and the counts.
use Rattle.std.specs.Prelude.{ℕ, ◌-◌, ◌*◌, List, [], ◌++◌, length, take, replicate, Option, Some, None}
use Rattle.ctss_types.specs.declared.script.Account.{Account}
use Rattle.ctss_types.specs.Names.{NamePair}
use Rattle.ctss_types.specs.declared.file.FileBody.{FileBody}
use Rattle.cpu_regs.specs.declared.regs.Regs.{Regs}
use Rattle.cpu_regs.specs.Registers.{no_registers}
use Rattle.program_model.specs.declared.ProgramState.{ProgramState}
use Rattle.program_model.specs.declared.ProgramState.TheVariants.{Dead, Working}
use Rattle.program_model.specs.declared.Fill.{Fill}
use Rattle.program_model.specs.Stops.{Stops}

pub record Inner : Type 0 where
  pub account : Account
  pub files : List FileBody
  pub state : ProgramState
  pub regs : Regs
  -- the program's size in blocks, and its words, 256 a block
  pub blocks : ℕ
  pub core : List ℕ
  -- what is still to be stored into the core
  pub fill : Option Fill
  -- the file that lines are typed into
  pub input : Option NamePair
  -- the debugger: closed, or open with what it knows
  pub debugger : Option Stops

-- what of a user lies outside its session: the words of its program, and its files
pub record Stored : Type 0 where
  pub core : List ℕ
  pub files : List FileBody

-- the size of the user's program in blocks; no program is 0
abbrev pub blocks_of : Inner → ℕ
blocks_of i = i.blocks

-- a core of so many plus zeros
abbrev pub zeros : ℕ → List ℕ
zeros blocks = replicate (256 * blocks) 0

-- a core cut to so many blocks, or extended to them by plus zeros
abbrev pub recut : ℕ → List ℕ → List ℕ
recut blocks core = take (256 * blocks) core ++ replicate (256 * blocks - length core) 0

-- another program of so many blocks works, whose words and registers are still to be stored
abbrev pub with_program : ℕ → Fill → Inner → Inner
with_program blocks fill i = record i { state = Working; regs = no_registers; blocks = blocks; core = zeros blocks; fill = Some fill }

-- no program is left, and the debugger is closed
abbrev pub without_program : Inner → Inner
without_program i = record i { state = Dead; regs = no_registers; blocks = 0; core = []; fill = None; debugger = None }
