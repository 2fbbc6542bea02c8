-- claim: the steps of a program that works: what each end of an instruction and each supervisor entry does.
use Rattle.std.specs.Prelude.{ℕ, ◌+◌, ◌*◌, Bool, true, false, if◌then◌else◌, ◌||◌, nat_eq, nat_lt, nat_le, List, [], ◌∷◌, ◌++◌, length, codes, Option, Some, None, Ok, Err}
use Rattle.std.specs.declared.result.Result.{Result}
use Rattle.time_sharing.specs.Machine.{Line, Ending, Went, Stopped, Resized, CommonOp, Reply}
use Rattle.time_sharing.specs.Rows.{Outcome}
use Rattle.ctss_types.specs.declared.file.FileBody.{FileBody}
use Rattle.ctss_types.specs.declared.file.CommonOp.TheVariants as op
use Rattle.ctss_types.specs.declared.file.Refusal.{Refusal}
use Rattle.ctss_types.specs.declared.file.Reply.TheVariants.{Done, Size, Words, Refused}
use Rattle.file_model.specs.declared.Stat.{Stat}
use Rattle.file_model.specs.Files.{stat, read, got}
use Rattle.file_model.specs.Texts.{refusal_number}
use Rattle.machine_model.specs.Step.{Step, went, halt, entry, illegal, outside}
use Rattle.program_model.specs.declared.Call.{Call}
use Rattle.program_model.specs.declared.Call.TheVariants.{ReadLine, WriteLine, GetTime, GetMemory, SetMemory, FileStat, ReadFile, WriteFile, DeleteFile, RenameFile, ChangeMode, Common, Dead, Dormant}
use Rattle.program_model.specs.declared.CommonCall.{CommonCall}
use Rattle.program_model.specs.declared.CommonCall.TheVariants as common
use Rattle.program_model.specs.declared.EntryFault.{EntryFault}
use Rattle.program_model.specs.declared.EntryFault.TheVariants.{NoSuchEntry, Outside}
use Rattle.program_model.specs.declared.ProgramState.TheVariants as program
use Rattle.program_model.specs.declared.Fill.{Fill}
use Rattle.program_model.specs.Fills.{fill_name, filled_core, filled_regs}
use Rattle.program_model.specs.Calls.{call_of, answered, is_line_count}
use Rattle.program_model.specs.Lines.{line_of_words, words_of_line, words_at, with_words}
use Rattle.program_model.specs.Decks.{words_got}
use Rattle.program_model.specs.Stops.{Stops, meets}
use Rattle.user_model.specs.Inner.{Inner, recut, without_program}
use Rattle.user_model.specs.OwnFiles.{FileChange, WritesFile, RenamesFile, DeletesFile, SetsMode, changed_files}
use Rattle.user_model.specs.Texts.{ready_text, stop_text}

-- what a row leaves, writes and ends as; no line goes before the unread ones
abbrev pub gives : Inner → List Line → Ending → Outcome Inner
gives i written e = record { inner = i; written = written; front = []; ending = e }

-- the program goes on
abbrev pub goes : Inner → Outcome Inner
goes i = gives i [] Went

-- the program doesn't run any more: these lines, and R n
abbrev pub stops : List Line → Inner → ℕ → Outcome Inner
stops lines i n = gives (record i { state = program.Dormant }) (lines ++ ready_text n ∷ []) Stopped

-- an answer to a call, with so many arguments
abbrev pub replied : Inner → ℕ → ℕ → Option ℕ → Inner
replied i arguments reply value = record i { regs = answered i.regs arguments reply value }

-- What an entry comes to, by a call with so many arguments. Whatever an entry is called, it does one of these.
pub data CallEffect : Type 0 where
  -- a number is told, and maybe a value
  Replies : (arguments reply : ℕ) (value : Option ℕ) → CallEffect
  -- so is 0, and words are stored from an address on
  RepliesWords : (arguments at : ℕ) (words : List ℕ) (value : Option ℕ) → CallEffect
  -- the directory is changed, or it is told why not
  RepliesChange : (arguments : ℕ) (change : FileChange) → CallEffect
  -- a line is printed
  WritesLine : (line : Line) → CallEffect
  -- there is no line to read
  WaitsForLine : CallEffect
  -- the program gets another size
  TakesSize : (blocks : ℕ) → CallEffect
  -- the program is over and goes, or is over and stays
  EndsProgram : CallEffect
  StopsProgram : CallEffect

-- an answer that is a refusal
abbrev pub refused : (arguments : ℕ) → Refusal → CallEffect
refused arguments r = Replies arguments (refusal_number r) None

-- the program goes on with files as they are after a change, or with the refusal
abbrev pub files_changed : Inner → ℕ → Result (List FileBody) Refusal → Outcome Inner
files_changed i arguments (Ok files) = goes (record (replied i arguments 0 None) { files = files })
files_changed i arguments (Err r) = goes (replied i arguments (refusal_number r) None)

-- the row of an entry that comes to this, with n own steps since the command
abbrev pub call_effect_row : CallEffect → Inner → ℕ → Outcome Inner
call_effect_row (Replies arguments reply value) i n = goes (replied i arguments reply value)
call_effect_row (RepliesWords arguments at words value) i n = goes (record (replied i arguments 0 value) { core = with_words i.core at words })
call_effect_row (RepliesChange arguments change) i n = files_changed i arguments (changed_files change i.account.tracks i.files)
call_effect_row (WritesLine line) i n = gives (replied i 1 0 None) (line ∷ []) Went
call_effect_row WaitsForLine i n = goes i
call_effect_row (TakesSize blocks) i n = gives (record (replied i 1 0 None) { blocks = blocks; core = recut blocks i.core }) [] Resized
call_effect_row EndsProgram i n = gives (without_program i) (ready_text n ∷ []) Stopped
call_effect_row StopsProgram i n = stops [] (replied i 0 0 None) n

-- a line is read into a buffer, and its length told
abbrev pub line_read : ℕ → ℕ → Option Line → CallEffect
line_read at count None = WaitsForLine
line_read at count (Some l) = RepliesWords 1 at (words_of_line count l) (Some (length l))

-- another size, from 1 block to the quota
abbrev pub size_set : (blocks quota now : ℕ) → CallEffect
size_set blocks quota now =
    if nat_eq blocks 0 || nat_lt quota blocks then Replies 1 3 None else (if nat_eq blocks now then Replies 1 0 None else TakesSize blocks)

-- 4 times a file's words, and its mode
abbrev pub file_told : Result Stat Refusal → CallEffect
file_told (Ok s) = Replies 1 0 (Some (4 * s.words + s.mode))
file_told (Err r) = refused 1 r

-- words of a file are read into a buffer
abbrev pub file_read : ℕ → Result (List ℕ) Refusal → CallEffect
file_read at (Ok words) = RepliesWords 3 at words None
file_read at (Err r) = refused 3 r

-- a call on a common file makes no operation where it has more than 432 words
abbrev pub is_common_count : ℕ → Bool
is_common_count count = nat_le count 432

-- the operation of a call on a common file
abbrev pub common_asks : CommonCall → List ℕ → Option CommonOp
common_asks (common.Stat name) core = Some (op.Stat name)
common_asks (common.Read name at count place) core = if is_common_count count then Some (op.Read name place count) else None
common_asks (common.Write name at count place) core = if is_common_count count then Some (op.Write name place (words_at core at count)) else None
common_asks (common.Delete name) core = Some (op.Delete name)

-- how many arguments it has
abbrev pub common_arguments : CommonCall → ℕ
common_arguments (common.Read name at count place) = 3
common_arguments (common.Write name at count place) = 3
common_arguments _ = 1

-- where words of a reply go
abbrev pub common_buffer : CommonCall → ℕ
common_buffer (common.Read name at count place) = at
common_buffer _ = 0

-- what an entry that makes no common operation comes to, with the line that it takes and the clock at t
abbrev pub call_effect : Call → Inner → Option Line → ℕ → CallEffect
call_effect (ReadLine at count) i l t = if is_line_count count then line_read at count l else Replies 1 7 None
call_effect (WriteLine at count) i l t = if is_line_count count then WritesLine (line_of_words (words_at i.core at count)) else Replies 1 7 None
call_effect GetTime i l t = Replies 0 0 (Some t)
call_effect GetMemory i l t = Replies 0 0 (Some (256 * i.blocks))
call_effect (SetMemory blocks) i l t = size_set blocks i.account.blocks i.blocks
call_effect (FileStat name) i l t = file_told (stat name i.files)
call_effect (ReadFile name at count place) i l t = file_read at (read name place count i.files)
call_effect (WriteFile name at count place) i l t = RepliesChange 3 (WritesFile name place (words_at i.core at count))
call_effect (DeleteFile name) i l t = RepliesChange 1 (DeletesFile name)
call_effect (RenameFile name to) i l t = RepliesChange 2 (RenamesFile name to)
call_effect (ChangeMode name mode) i l t = RepliesChange 2 (SetsMode name mode)
call_effect (Common call) i l t = Replies (common_arguments call) 7 None
call_effect Dead i l t = EndsProgram
call_effect Dormant i l t = StopsProgram

-- its row, with n own steps since the command
abbrev pub call_row : Call → Inner → Option Line → ℕ → ℕ → Outcome Inner
call_row c i l n t = call_effect_row (call_effect c i l t) i n

-- the common operation that a call makes
abbrev pub call_asks : Call → List ℕ → Option CommonOp
call_asks (Common call) core = common_asks call core
call_asks _ core = None

-- what a call that made a common operation comes to, with so many arguments, by the reply; words go to a buffer
abbrev pub reply_told : (arguments at : ℕ) → Reply → CallEffect
reply_told arguments at Done = Replies arguments 0 None
reply_told arguments at (Size n) = Replies arguments 0 (Some n)
reply_told arguments at (Words words) = RepliesWords arguments at words None
reply_told arguments at (Refused r) = refused arguments r

-- the program goes on, with the reply
abbrev pub reply_taken : Inner → (arguments at : ℕ) → Reply → Outcome Inner
reply_taken i arguments at r = call_effect_row (reply_told arguments at r) i 0

-- the row of an entry that made a common operation
abbrev pub call_replied : Call → Inner → Reply → Outcome Inner
call_replied (Common call) i r = reply_taken i (common_arguments call) (common_buffer call) r
call_replied _ i r = goes i

abbrev pub entry_row : Result Call EntryFault → Inner → Option Line → ℕ → ℕ → Outcome Inner
entry_row (Ok call) i l n t = call_row call i l n t
entry_row (Err NoSuchEntry) i l n t = stops (stop_text (codes "NO ENTRY") i.regs.ic ∷ []) i n
entry_row (Err (Outside a)) i l n t = stops (stop_text (codes "PROTECTION") i.regs.ic ∷ []) i n

abbrev pub entry_asks : Result Call EntryFault → List ℕ → Option CommonOp
entry_asks (Ok call) core = call_asks call core
entry_asks (Err fault) core = None

abbrev pub entry_replied : Result Call EntryFault → Inner → Reply → Outcome Inner
entry_replied (Ok call) i r = call_replied call i r
entry_replied (Err fault) i r = goes i

-- the row of what the machine's step gives; the place is that of the instruction
abbrev pub step_row : Step → Inner → Option Line → ℕ → ℕ → Outcome Inner
step_row (went r core) i l n t = goes (record i { regs = r; core = core })
step_row (halt r core) i l n t = stops (stop_text (codes "HALT") i.regs.ic ∷ []) (record i { regs = r; core = core }) n
step_row (entry w) i l n t = entry_row (call_of i.regs i.core w) i l n t
step_row illegal i l n t = stops (stop_text (codes "ILLEGAL") i.regs.ic ∷ []) i n
step_row (outside a) i l n t = stops (stop_text (codes "PROTECTION") i.regs.ic ∷ []) i n

-- whether a call reads a line, so that it waits for one
abbrev pub is_read : Result Call EntryFault → Bool
is_read (Ok (ReadLine at count)) = is_line_count count
is_read _ = false

abbrev pub reads_line : Step → Inner → Bool
reads_line (went r core) i = false
reads_line (halt r core) i = false
reads_line (entry w) i = is_read (call_of i.regs i.core w)
reads_line illegal i = false
reads_line (outside a) i = false

-- whether a call asks for the clock
abbrev pub is_clock : Result Call EntryFault → Bool
is_clock (Ok GetTime) = true
is_clock _ = false

abbrev pub asks_time : Step → Inner → Bool
asks_time (went r core) i = false
asks_time (halt r core) i = false
asks_time (entry w) i = is_clock (call_of i.regs i.core w)
asks_time illegal i = false
asks_time (outside a) i = false

-- what a step makes of the common files, and what it does with the reply
abbrev pub step_asks : Step → Inner → Option CommonOp
step_asks (went r core) i = None
step_asks (halt r core) i = None
step_asks (entry w) i = entry_asks (call_of i.regs i.core w) i.core
step_asks illegal i = None
step_asks (outside a) i = None

abbrev pub step_replied : Step → Inner → Reply → Outcome Inner
step_replied (went r core) i reply = goes i
step_replied (halt r core) i reply = goes i
step_replied (entry w) i reply = entry_replied (call_of i.regs i.core w) i reply
step_replied illegal i reply = goes i
step_replied (outside a) i reply = goes i

-- a program is filled with the words of its file
abbrev pub filled_program : Fill → Inner → Inner
filled_program f i =
    let words = words_got (got (fill_name f) i.files) in
    record i { core = filled_core f words i.core; regs = filled_regs f words i.regs; fill = None }

-- whether a program is to stop before its next instruction
abbrev pub at_break_in : Option Stops → ℕ → Bool
at_break_in None ic = false
at_break_in (Some s) ic = meets s ic

abbrev pub at_break : Inner → Bool
at_break i = at_break_in i.debugger i.regs.ic

-- an open debugger knows after an own step of the program that it has done one
abbrev pub stepped_in : Option Stops → Option Stops
stepped_in None = None
stepped_in (Some s) = Some (record s { stepped = true })

abbrev pub has_stepped : Inner → Inner
has_stepped i = record i { debugger = stepped_in i.debugger }

abbrev pub with_step : Outcome Inner → Outcome Inner
with_step o = record o { inner = has_stepped o.inner }

-- a break touches neither registers nor words
abbrev pub breaks : Inner → ℕ → Outcome Inner
breaks i n = stops (stop_text (codes "BREAK") i.regs.ic ∷ []) i n
