-- A step that goes on leaves the program's size.
use Rattle.std.proofs.Common.{◌≡◌, ℕ, suc, ◌-◌, Bool, true, false, List, [], ◌∷◌, Option, Some, None, Ok, Err, refl}
use Rattle.std.specs.Prelude.{if◌then◌else◌, nat_eq, nat_lt, length}
use Rattle.std.specs.declared.result.Result.{Result}
use Rattle.time_sharing.specs.Machine.{Line, Went, CommonOp, Reply}
use Rattle.time_sharing.specs.Rows.{Outcome, line_of, one_less, own_at_command_of}
use Rattle.ctss_types.specs.Names.{NamePair}
use Rattle.ctss_types.specs.declared.file.FileBody.{FileBody}
use Rattle.ctss_types.specs.declared.file.Refusal.{Refusal}
use Rattle.file_model.specs.Files.{file_named, put, appended}
use Rattle.machine_model.specs.Step.{Step, went, halt, entry, illegal, outside}
use Rattle.program_model.specs.declared.Call.{Call}
use Rattle.program_model.specs.declared.Call.TheVariants.{Common}
use Rattle.program_model.specs.declared.EntryFault.{EntryFault}
use Rattle.program_model.specs.declared.EntryFault.TheVariants.{NoSuchEntry, Outside}
use Rattle.program_model.specs.Calls.{call_of}
use Rattle.program_model.specs.Lines.{words_of_line, with_words}
use Rattle.user_model.specs.Inner.{Inner, blocks_of}
use Rattle.user_model.specs.Requests.{command_of}
use Rattle.program_model.specs.declared.DebugLine.{DebugLine}
use Rattle.program_model.specs.declared.DebugLine.TheVariants.{Break, Clear, Set}
use Rattle.program_model.specs.DebugLines.{debug_of}
use Rattle.program_model.specs.Stops.{Stops, is_full, with_break, without_break}
use Rattle.user_model.specs.Debugger.{debug_row, if_inside, with_breaks}
use Rattle.user_model.specs.OwnFiles.{changed_files}
use Rattle.user_model.specs.Commands.{Effect, ChangesFiles, TypesInto, effect_row, command_effect, reply_effect, changed, input_made, input_begun, input_row, line_entered}
use Rattle.user_model.specs.Programs.{CallEffect, RepliesChange, TakesSize, EndsProgram, StopsProgram, call_effect_row, call_effect, reply_told, step_row, step_replied, entry_row, entry_replied, call_replied, common_arguments, common_buffer, files_changed}
use Rattle.user_model.specs.Session.{user_rows, Next, AtDebugger, AtInput, AtCommand, AtFill, AtBreak, AtInstruction, next_of, by_line, act_at, act_by, asks_common_at, replied_at}
use Rattle.user_model.specs.User.{User, step, ending}

-- where an outcome goes on, the size is as it was
abbrev SizeStays : Inner → Outcome Inner → Type 0
SizeStays i o = o.ending ≡ Went → blocks_of o.inner ≡ blocks_of i

either_way : (b : Bool) (i : Inner) (x y : Outcome Inner) → SizeStays i x → SizeStays i y → SizeStays i (if b then x else y)
either_way true i x y one other = one
either_way false i x y one other = other

files_stay : (i : Inner) (arguments : ℕ) (told : Result (List FileBody) Refusal) → SizeStays i (files_changed i arguments told)
files_stay i arguments (Ok files) = λ e. refl
files_stay i arguments (Err r) = λ e. refl

-- whatever an entry comes to
call_stays : (x : CallEffect) (i : Inner) (n : ℕ) → SizeStays i (call_effect_row x i n)
call_stays (RepliesChange arguments change) i n = files_stay i arguments (changed_files change i.account.tracks i.files)
call_stays (TakesSize blocks) i n = λ e. cc
call_stays EndsProgram i n = λ e. cc
call_stays StopsProgram i n = λ e. cc
call_stays _ i n = λ e. refl

entry_stays : (call : Result Call EntryFault) (i : Inner) (l : Option Line) (n t : ℕ) → SizeStays i (entry_row call i l n t)
entry_stays (Ok call) i l n t = call_stays (call_effect call i l t) i n
entry_stays (Err NoSuchEntry) i l n t = λ e. cc
entry_stays (Err (Outside a)) i l n t = λ e. cc

step_stays : (s : Step) (i : Inner) (l : Option Line) (n t : ℕ) → SizeStays i (step_row s i l n t)
step_stays (went r core) i l n t = λ e. refl
step_stays (halt r core) i l n t = λ e. cc
step_stays (entry w) i l n t = entry_stays (call_of i.regs i.core w) i l n t
step_stays illegal i l n t = λ e. cc
step_stays (outside a) i l n t = λ e. cc

change_stays : (told : Result (List FileBody) Refusal) (i : Inner) (n t : ℕ) → SizeStays i (changed told i n t)
change_stays (Ok files) i n t = λ e. cc
change_stays (Err r) i n t = λ e. cc

made_stays : (name : NamePair) (told : Result (List FileBody) Refusal) (i : Inner) (n t : ℕ) → SizeStays i (input_made name told i n t)
made_stays name (Ok files) i n t = λ e. cc
made_stays name (Err r) i n t = λ e. cc

begun_stays : (name : NamePair) (file : Option FileBody) (i : Inner) (n t : ℕ) → SizeStays i (input_begun name file i n t)
begun_stays name None i n t = made_stays name (put name [] i.account.tracks i.files) i n t
begun_stays name (Some f) i n t = λ e. cc

entered_stays : (told : Result (List FileBody) Refusal) (i : Inner) (n : ℕ) → SizeStays i (line_entered told i n)
entered_stays (Ok files) i n = λ e. cc
entered_stays (Err r) i n = λ e. cc

input_stays : (name : NamePair) (l : Line) (i : Inner) (n : ℕ) → SizeStays i (input_row name l i n)
input_stays name l i n = either_way (nat_eq (length l) 0) i _ _ (λ e. cc) (entered_stays (appended name (words_of_line 14 l) i.account.tracks i.files) i n)

-- whatever a command comes to
effect_stays : (x : Effect) (i : Inner) (n t : ℕ) → SizeStays i (effect_row x i n t)
effect_stays (ChangesFiles change) i n t = change_stays (changed_files change i.account.tracks i.files) i n t
effect_stays (TypesInto name) i n t = begun_stays name (file_named name i.files) i n t
effect_stays _ i n t = λ e. cc

inside_stays : (a : ℕ) (done i : Inner) → SizeStays i (if_inside a done i)
inside_stays a done i = either_way (nat_lt a (length i.core)) i _ _ (λ e. cc) (λ e. cc)

debug_stays : (s : Stops) (line : DebugLine) (i : Inner) (n : ℕ) → SizeStays i (debug_row s line i n)
debug_stays s (Break a) i n = either_way (is_full s.breaks a) i _ _ (λ e. cc) (inside_stays a (with_breaks s (with_break s.breaks a) i) i)
debug_stays s (Clear a) i n = inside_stays a (with_breaks s (without_break s.breaks a) i) i
debug_stays s (Set a v) i n = inside_stays a (record i { core = with_words i.core a (v ∷ []) }) i
debug_stays s _ i n = λ e. cc

-- a step that takes a line, where there is one
line_stays : (row : Line → Outcome Inner) (i : Inner) (line : Option Line) → ((l : Line) → SizeStays i (row l)) → SizeStays i (by_line row i line)
line_stays row i None h = λ e. refl
line_stays row i (Some l) h = h l

act_stays : (x : Next) (i : Inner) (line : Option Line) (n k t : ℕ) → SizeStays i (act_at x i line n k t)
act_stays (AtDebugger s) i line n k t = line_stays _ i line (λ l. debug_stays s (debug_of l) i n)
act_stays (AtInput name) i line n k t = line_stays _ i line (λ l. input_stays name l i n)
act_stays AtCommand i line n k t = line_stays _ i line (λ l. effect_stays (command_effect (command_of l) i (record { line = l; fed = k })) i n t)
act_stays (AtFill f) i line n k t = λ e. refl
act_stays AtBreak i line n k t = λ e. cc
act_stays (AtInstruction s) i line n k t = step_stays s i line n t

call_replied_stays : (c : Call) (i : Inner) (r : Reply) → SizeStays i (call_replied c i r)
call_replied_stays (Common call) i r = call_stays (reply_told (common_arguments call) (common_buffer call) r) i 0
call_replied_stays _ i r = λ e. refl

entry_replied_stays : (call : Result Call EntryFault) (i : Inner) (r : Reply) → SizeStays i (entry_replied call i r)
entry_replied_stays (Ok call) i r = call_replied_stays call i r
entry_replied_stays (Err fault) i r = λ e. refl

step_replied_stays : (s : Step) (i : Inner) (r : Reply) → SizeStays i (step_replied s i r)
step_replied_stays (went regs core) i r = λ e. refl
step_replied_stays (halt regs core) i r = λ e. refl
step_replied_stays (entry w) i r = entry_replied_stays (call_of i.regs i.core w) i r
step_replied_stays illegal i r = λ e. refl
step_replied_stays (outside a) i r = λ e. refl

replied_stays : (x : Next) (i : Inner) (line : Option Line) (n t : ℕ) (r : Reply) → SizeStays i (replied_at x i line n t r)
replied_stays AtCommand i line n t r = line_stays _ i line (λ l. effect_stays (reply_effect (command_of l) r) i n t)
replied_stays (AtInstruction s) i line n t r = step_replied_stays s i r
replied_stays _ i line n t r = λ e. refl

either_stays : (made : Option CommonOp) (x : Next) (i : Inner) (line : Option Line) (n k t : ℕ) (r : Reply) → SizeStays i (act_by made x i line n k t r)
either_stays None x i line n k t r = act_stays x i line n k t
either_stays (Some op) x i line n k t r = replied_stays x i line n t r

pub went_stays : (t : ℕ) (r : Reply) (p : User) → ending t r p ≡ Went → blocks_of (step t r p).inner ≡ blocks_of p.inner
unfolding ending step
went_stays t r p e =
    either_stays (asks_common_at (next_of p.inner) p.inner (line_of user_rows p)) (next_of p.inner) p.inner (line_of user_rows p) (suc p.own - own_at_command_of user_rows p) (one_less (line_of user_rows p) p.fed) _ r e
