-- Each step of a user keeps the rules of the user's files, and the account.
use Rattle.std.proofs.Common.{◌≡◌, ℕ, Bool, true, false, List, [], ◌∷◌, Option, Some, None, Ok, Err, refl}
use Rattle.std.specs.Prelude.{if◌then◌else◌, nat_eq, nat_lt, length}
use Rattle.std.specs.declared.result.Result.{Result}
use Rattle.time_sharing.specs.Machine.{Line, CutKind, Quit, Hang, Spent, End, CommonOp, Reply}
use Rattle.time_sharing.specs.Rows.{Outcome}
use Rattle.ctss_types.specs.Names.{NamePair}
use Rattle.ctss_types.specs.declared.file.FileBody.{FileBody}
use Rattle.ctss_types.specs.declared.file.Refusal.{Refusal}
use Rattle.file_model.specs.Files.{file_named, put, appended}
use Rattle.machine_model.specs.Step.{Step, went, halt, entry, illegal, outside}
use Rattle.program_model.specs.declared.Call.{Call}
use Rattle.program_model.specs.declared.Call.TheVariants.{Common}
use Rattle.program_model.specs.declared.EntryFault.{EntryFault}
use Rattle.program_model.specs.declared.EntryFault.TheVariants.{NoSuchEntry, Outside}
use Rattle.program_model.specs.declared.DebugLine.{DebugLine}
use Rattle.program_model.specs.declared.DebugLine.TheVariants.{Break, Clear, Set}
use Rattle.program_model.specs.Calls.{call_of}
use Rattle.program_model.specs.DebugLines.{debug_of}
use Rattle.program_model.specs.Lines.{words_of_line, with_words}
use Rattle.program_model.specs.Stops.{Stops, is_full, with_break, without_break}
use Rattle.user_model.specs.Inner.{Inner}
use Rattle.user_model.specs.Requests.{command_of}
use Rattle.user_model.specs.Debugger.{debug_row, if_inside, with_breaks}
use Rattle.user_model.specs.OwnFiles.{FileChange, PutsFile, WritesFile, RenamesFile, DeletesFile, SetsMode, changed_files}
use Rattle.user_model.specs.Commands.{Effect, ChangesFiles, TypesInto, LogsOut, effect_row, command_effect, reply_effect, changed, input_made, input_begun, input_row, line_entered}
use Rattle.user_model.specs.Programs.{CallEffect, RepliesChange, call_effect_row, call_effect, reply_told, step_row, step_replied, entry_row, entry_replied, call_replied, common_arguments, common_buffer, files_changed}
use Rattle.user_model.specs.Session.{Next, AtDebugger, AtInput, AtCommand, AtInstruction, by_line, act_at, replied_at, act_by, inner_cut}
use Rattle.record_laws.specs.Rules.{KeepsRules}
use Rattle.record_laws.proofs.Changes.{Gives, lasting_keep, written_keeps, appended_keeps, put_keeps, renamed_keeps, deleted_keeps, moded_keeps}

-- the rules of a user's files are kept, and the account
abbrev pub KeepsFiles : Inner → Inner → Type 0
KeepsFiles i j = (j.account ≡ i.account) × (KeepsRules i.account.tracks i.files → KeepsRules i.account.tracks j.files)

-- an outcome keeps them
abbrev pub Keeps : Inner → Outcome Inner → Type 0
Keeps i o = KeepsFiles i o.inner

-- what is told of a change keeps them
abbrev Told : Inner → Result (List FileBody) Refusal → Type 0
Told i told = KeepsRules i.account.tracks i.files → Gives i.account.tracks told

-- one of two
either_way : (b : Bool) (i : Inner) (x y : Outcome Inner) → Keeps i x → Keeps i y → Keeps i (if b then x else y)
either_way true i x y one other = one
either_way false i x y one other = other

-- a program's steps

-- a call that changes the directory
files_keep : (i : Inner) (arguments : ℕ) (told : Result (List FileBody) Refusal) → Told i told
    → Keeps i (files_changed i arguments told)
files_keep i arguments (Ok files) k = (refl, k)
files_keep i arguments (Err r) k = (refl, λ h. h)

-- any change of the directory
any_change_keeps : (c : FileChange) (i : Inner) → Told i (changed_files c i.account.tracks i.files)
any_change_keeps (PutsFile name words) i = put_keeps name words i.account.tracks i.files
any_change_keeps (WritesFile name place words) i = written_keeps name place words i.account.tracks i.files
any_change_keeps (RenamesFile name to) i = renamed_keeps name to i.account.tracks i.files
any_change_keeps (DeletesFile name) i = deleted_keeps name i.account.tracks i.files
any_change_keeps (SetsMode name mode) i = moded_keeps name mode i.account.tracks i.files

-- whatever an entry comes to
call_keeps : (x : CallEffect) (i : Inner) (n : ℕ) → Keeps i (call_effect_row x i n)
call_keeps (RepliesChange arguments change) i n =
    files_keep i arguments (changed_files change i.account.tracks i.files) (any_change_keeps change i)
call_keeps _ i n = (refl, λ h. h)

-- an entry of the supervisor
entry_keeps : (call : Result Call EntryFault) (i : Inner) (l : Option Line) (n t : ℕ) → Keeps i (entry_row call i l n t)
entry_keeps (Ok call) i l n t = call_keeps (call_effect call i l t) i n
entry_keeps (Err NoSuchEntry) i l n t = (refl, λ h. h)
entry_keeps (Err (Outside a)) i l n t = (refl, λ h. h)

-- a step of the machine
step_keeps : (s : Step) (i : Inner) (l : Option Line) (n t : ℕ) → Keeps i (step_row s i l n t)
step_keeps (went r core) i l n t = (refl, λ h. h)
step_keeps (halt r core) i l n t = (refl, λ h. h)
step_keeps (entry w) i l n t = entry_keeps (call_of i.regs i.core w) i l n t
step_keeps illegal i l n t = (refl, λ h. h)
step_keeps (outside a) i l n t = (refl, λ h. h)

-- commands, and lines of INPUT

-- a command that changes the directory
change_keeps : (told : Result (List FileBody) Refusal) (i : Inner) (n t : ℕ) → Told i told
    → Keeps i (changed told i n t)
change_keeps (Ok files) i n t k = (refl, k)
change_keeps (Err r) i n t k = (refl, λ h. h)

-- the file of INPUT is made
made_keeps : (name : NamePair) (told : Result (List FileBody) Refusal) (i : Inner) (n t : ℕ) → Told i told
    → Keeps i (input_made name told i n t)
made_keeps name (Ok files) i n t k = (refl, k)
made_keeps name (Err r) i n t k = (refl, λ h. h)

-- INPUT begins
begun_keeps : (name : NamePair) (file : Option FileBody) (i : Inner) (n t : ℕ) → Keeps i (input_begun name file i n t)
begun_keeps name None i n t =
    made_keeps name (put name [] i.account.tracks i.files) i n t (put_keeps name [] i.account.tracks i.files)
begun_keeps name (Some f) i n t = (refl, λ h. h)

-- a line goes behind the file of INPUT
entered_keeps : (told : Result (List FileBody) Refusal) (i : Inner) (n : ℕ) → Told i told
    → Keeps i (line_entered told i n)
entered_keeps (Ok files) i n k = (refl, k)
entered_keeps (Err r) i n k = (refl, λ h. h)

-- a line of INPUT
input_keeps : (name : NamePair) (l : Line) (i : Inner) (n : ℕ) → Keeps i (input_row name l i n)
input_keeps name l i n =
    either_way (nat_eq (length l) 0) i _ _ (refl, λ h. h)
    (entered_keeps (appended name (words_of_line 14 l) i.account.tracks i.files) i n
    (appended_keeps name (words_of_line 14 l) i.account.tracks i.files))

-- whatever a command comes to
effect_keeps : (x : Effect) (i : Inner) (n t : ℕ) → Keeps i (effect_row x i n t)
effect_keeps (ChangesFiles change) i n t =
    change_keeps (changed_files change i.account.tracks i.files) i n t (any_change_keeps change i)
effect_keeps (TypesInto name) i n t = begun_keeps name (file_named name i.files) i n t
effect_keeps LogsOut i n t = (refl, lasting_keep i.account.tracks i.files)
effect_keeps _ i n t = (refl, λ h. h)

-- lines of the debugger

-- what is done at a place of the program
inside_keeps : (a : ℕ) (done i : Inner) → KeepsFiles i done → Keeps i (if_inside a done i)
inside_keeps a done i h = either_way (nat_lt a (length i.core)) i _ _ h (refl, λ k. k)

-- a line of the debugger
debug_keeps : (s : Stops) (line : DebugLine) (i : Inner) (n : ℕ) → Keeps i (debug_row s line i n)
debug_keeps s (Break a) i n =
    either_way (is_full s.breaks a) i _ _ (refl, λ h. h)
    (inside_keeps a (with_breaks s (with_break s.breaks a) i) i (refl, λ h. h))
debug_keeps s (Clear a) i n = inside_keeps a (with_breaks s (without_break s.breaks a) i) i (refl, λ h. h)
debug_keeps s (Set a v) i n = inside_keeps a (record i { core = with_words i.core a (v ∷ []) }) i (refl, λ h. h)
debug_keeps s _ i n = (refl, λ h. h)

-- any step that makes no common operation

-- a step that takes a line, where there is one
line_keeps : (row : Line → Outcome Inner) (i : Inner) (line : Option Line) → ((l : Line) → Keeps i (row l))
    → Keeps i (by_line row i line)
line_keeps row i None h = (refl, λ k. k)
line_keeps row i (Some l) h = h l

-- a step, by what comes next
act_keeps : (x : Next) (i : Inner) (line : Option Line) (n k t : ℕ) → Keeps i (act_at x i line n k t)
act_keeps (AtDebugger s) i line n k t = line_keeps _ i line (λ l. debug_keeps s (debug_of l) i n)
act_keeps (AtInput name) i line n k t = line_keeps _ i line (λ l. input_keeps name l i n)
act_keeps AtCommand i line n k t =
    line_keeps _ i line (λ l. effect_keeps (command_effect (command_of l) i (record { line = l; fed = k })) i n t)
act_keeps (AtInstruction s) i line n k t = step_keeps s i line n t
act_keeps _ i line n k t = (refl, λ h. h)

-- steps with a reply

-- a call that made a common operation
call_replied_keeps : (c : Call) (i : Inner) (r : Reply) → Keeps i (call_replied c i r)
call_replied_keeps (Common call) i r = call_keeps (reply_told (common_arguments call) (common_buffer call) r) i 0
call_replied_keeps _ i r = (refl, λ h. h)

-- an entry that made one
entry_replied_keeps : (call : Result Call EntryFault) (i : Inner) (r : Reply) → Keeps i (entry_replied call i r)
entry_replied_keeps (Ok call) i r = call_replied_keeps call i r
entry_replied_keeps (Err fault) i r = (refl, λ h. h)

-- a step of the machine that made one
step_replied_keeps : (s : Step) (i : Inner) (r : Reply) → Keeps i (step_replied s i r)
step_replied_keeps (went regs core) i r = (refl, λ h. h)
step_replied_keeps (halt regs core) i r = (refl, λ h. h)
step_replied_keeps (entry w) i r = entry_replied_keeps (call_of i.regs i.core w) i r
step_replied_keeps illegal i r = (refl, λ h. h)
step_replied_keeps (outside a) i r = (refl, λ h. h)

-- a step that made one, by what comes next
replied_keeps : (x : Next) (i : Inner) (line : Option Line) (n t : ℕ) (r : Reply) → Keeps i (replied_at x i line n t r)
replied_keeps AtCommand i line n t r = line_keeps _ i line (λ l. effect_keeps (reply_effect (command_of l) r) i n t)
replied_keeps (AtInstruction s) i line n t r = step_replied_keeps s i r
replied_keeps _ i line n t r = (refl, λ h. h)

-- any step, and any cut

-- any step
pub any_step_keeps : (made : Option CommonOp) (x : Next) (i : Inner) (line : Option Line) (n k t : ℕ) (r : Reply)
    → Keeps i (act_by made x i line n k t r)
any_step_keeps None x i line n k t r = act_keeps x i line n k t
any_step_keeps (Some op) x i line n k t r = replied_keeps x i line n t r

-- any cut
pub cut_keeps : (kind : CutKind) (i : Inner) → KeepsFiles i (inner_cut kind i)
cut_keeps Quit i = (refl, λ h. h)
cut_keeps Hang i = (refl, lasting_keep i.account.tracks i.files)
cut_keeps Spent i = (refl, lasting_keep i.account.tracks i.files)
cut_keeps End i = (refl, λ h. h)
