-- A step that ends as a program or a command is over leaves no program that works; so a user that can step then has a line.
use Rattle.std.proofs.Common.{◌≡◌, ℕ, suc, ◌-◌, Bool, true, false, not, ◌&&◌, ◌||◌, List, [], ◌∷◌, Option, Some, None, Ok, Err, refl, ap}
use Rattle.std.specs.Prelude.{if◌then◌else◌, nat_eq, nat_lt, length}
use Rattle.std.specs.declared.result.Result.{Result}
use Rattle.time_sharing.specs.Machine.{Line, CommonOp, Reply, Stopped, LoggedOut}
use Rattle.time_sharing.specs.Rows.{Outcome, machine, line_of, one_less, own_at_command_of, some_line}
use Rattle.ctss_types.specs.Names.{NamePair}
use Rattle.ctss_types.specs.declared.file.FileBody.{FileBody}
use Rattle.ctss_types.specs.declared.file.Refusal.{Refusal}
use Rattle.file_model.specs.Files.{file_named, put, appended}
use Rattle.machine_model.specs.Step.{Step, went, halt, entry, illegal, outside}
use Rattle.program_model.specs.declared.Call.{Call}
use Rattle.program_model.specs.declared.Call.TheVariants.{Common}
use Rattle.program_model.specs.declared.EntryFault.{EntryFault}
use Rattle.program_model.specs.declared.EntryFault.TheVariants.{NoSuchEntry, Outside}
use Rattle.program_model.specs.declared.DebugLine.{DebugLine}
use Rattle.program_model.specs.declared.DebugLine.TheVariants.{Break, Clear, Set, Go}
use Rattle.program_model.specs.declared.ProgramState.{ProgramState}
use Rattle.program_model.specs.declared.ProgramState.TheVariants.{Dead, Dormant, Working}
use Rattle.program_model.specs.declared.Fill.{Fill}
use Rattle.program_model.specs.Calls.{call_of}
use Rattle.program_model.specs.DebugLines.{debug_of}
use Rattle.program_model.specs.Lines.{words_of_line, with_words}
use Rattle.program_model.specs.Stops.{Stops, is_full, with_break, without_break}
use Rattle.user_model.specs.Inner.{Inner}
use Rattle.user_model.specs.Requests.{command_of}
use Rattle.user_model.specs.Debugger.{debug_row, if_inside, with_breaks}
use Rattle.user_model.specs.OwnFiles.{changed_files}
use Rattle.user_model.specs.Commands.{Effect, ChangesFiles, TypesInto, BeginsProgram, ContinuesProgram, LogsOut, effect_row, command_effect, reply_effect, changed, input_made, input_begun, input_row, line_entered}
use Rattle.user_model.specs.Programs.{CallEffect, RepliesChange, EndsProgram, StopsProgram, call_effect_row, call_effect, reply_told, step_row, step_replied, entry_row, entry_replied, call_replied, common_arguments, common_buffer, files_changed, at_break}
use Rattle.user_model.specs.Session.{user_rows, Next, AtDebugger, AtInput, AtCommand, AtFill, AtBreak, AtInstruction, next_of, next_in, line_next, program_next, instruction_next, by_line, act_at, asks_common_at, replied_at, act_by, works_in, takes_line_at}
use Rattle.user_model.specs.User.{User}

-- no program works
abbrev pub Rested : Inner → Type 0
Rested i = works_in i.state ≡ false

abbrev pub Rests : Outcome Inner → Type 0
Rests o = (o.ending ≡ Stopped → Rested o.inner) × (o.ending ≡ LoggedOut → Rested o.inner)

either_way : (b : Bool) (x y : Outcome Inner) → Rests x → Rests y → Rests (if b then x else y)
either_way true x y one other = one
either_way false x y one other = other

files_rest : (i : Inner) (arguments : ℕ) (told : Result (List FileBody) Refusal) → Rests (files_changed i arguments told)
files_rest i arguments (Ok files) = (λ e. cc, λ e. cc)
files_rest i arguments (Err r) = (λ e. cc, λ e. cc)

call_rests : (x : CallEffect) (i : Inner) (n : ℕ) → Rests (call_effect_row x i n)
call_rests (RepliesChange arguments change) i n = files_rest i arguments (changed_files change i.account.tracks i.files)
call_rests EndsProgram i n = (λ e. refl, λ e. cc)
call_rests StopsProgram i n = (λ e. refl, λ e. cc)
call_rests _ i n = (λ e. cc, λ e. cc)

entry_rests : (call : Result Call EntryFault) (i : Inner) (l : Option Line) (n t : ℕ) → Rests (entry_row call i l n t)
entry_rests (Ok call) i l n t = call_rests (call_effect call i l t) i n
entry_rests (Err NoSuchEntry) i l n t = (λ e. refl, λ e. cc)
entry_rests (Err (Outside a)) i l n t = (λ e. refl, λ e. cc)

step_rests : (s : Step) (i : Inner) (l : Option Line) (n t : ℕ) → Rests (step_row s i l n t)
step_rests (went r core) i l n t = (λ e. cc, λ e. cc)
step_rests (halt r core) i l n t = (λ e. refl, λ e. cc)
step_rests (entry w) i l n t = entry_rests (call_of i.regs i.core w) i l n t
step_rests illegal i l n t = (λ e. refl, λ e. cc)
step_rests (outside a) i l n t = (λ e. refl, λ e. cc)

change_rests : (told : Result (List FileBody) Refusal) (i : Inner) (n t : ℕ) → Rested i → Rests (changed told i n t)
change_rests (Ok files) i n t h = (λ e. h, λ e. cc)
change_rests (Err r) i n t h = (λ e. h, λ e. cc)

made_rests : (name : NamePair) (told : Result (List FileBody) Refusal) (i : Inner) (n t : ℕ) → Rested i → Rests (input_made name told i n t)
made_rests name (Ok files) i n t h = (λ e. h, λ e. cc)
made_rests name (Err r) i n t h = (λ e. h, λ e. cc)

begun_rests : (name : NamePair) (file : Option FileBody) (i : Inner) (n t : ℕ) → Rested i → Rests (input_begun name file i n t)
begun_rests name None i n t h = made_rests name (put name [] i.account.tracks i.files) i n t h
begun_rests name (Some f) i n t h = (λ e. h, λ e. cc)

entered_rests : (told : Result (List FileBody) Refusal) (i : Inner) (n : ℕ) → Rested i → Rests (line_entered told i n)
entered_rests (Ok files) i n h = (λ e. h, λ e. cc)
entered_rests (Err r) i n h = (λ e. h, λ e. cc)

input_rests : (name : NamePair) (l : Line) (i : Inner) (n : ℕ) → Rested i → Rests (input_row name l i n)
input_rests name l i n h = either_way (nat_eq (length l) 0) _ _ (λ e. h, λ e. cc) (entered_rests (appended name (words_of_line 14 l) i.account.tracks i.files) i n h)

effect_rests : (x : Effect) (i : Inner) (n t : ℕ) → Rested i → Rests (effect_row x i n t)
effect_rests (ChangesFiles change) i n t h = change_rests (changed_files change i.account.tracks i.files) i n t h
effect_rests (TypesInto name) i n t h = begun_rests name (file_named name i.files) i n t h
effect_rests (BeginsProgram blocks fill) i n t h = (λ e. cc, λ e. cc)
effect_rests ContinuesProgram i n t h = (λ e. cc, λ e. cc)
effect_rests LogsOut i n t h = (λ e. cc, λ e. refl)
effect_rests _ i n t h = (λ e. h, λ e. cc)

inside_rests : (a : ℕ) (done i : Inner) → Rested done → Rested i → Rests (if_inside a done i)
inside_rests a done i d h = either_way (nat_lt a (length i.core)) _ _ (λ e. d, λ e. cc) (λ e. h, λ e. cc)

debug_rests : (s : Stops) (line : DebugLine) (i : Inner) (n : ℕ) → Rested i → Rests (debug_row s line i n)
debug_rests s (Break a) i n h = either_way (is_full s.breaks a) _ _ (λ e. h, λ e. cc) (inside_rests a (with_breaks s (with_break s.breaks a) i) i h h)
debug_rests s (Clear a) i n h = inside_rests a (with_breaks s (without_break s.breaks a) i) i h h
debug_rests s (Set a v) i n h = inside_rests a (record i { core = with_words i.core a (v ∷ []) }) i h h
debug_rests s Go i n h = (λ e. cc, λ e. cc)
debug_rests s _ i n h = (λ e. h, λ e. cc)

line_rests : (row : Line → Outcome Inner) (i : Inner) (line : Option Line) → ((l : Line) → Rests (row l)) → Rests (by_line row i line)
line_rests row i None h = (λ e. cc, λ e. cc)
line_rests row i (Some l) h = h l

-- a step that takes a line is one at which no program works
abbrev Lines : Next → Inner → Type 0
Lines (AtDebugger s) i = Rested i
Lines (AtInput name) i = Rested i
Lines AtCommand i = Rested i
Lines _ i = Unit {0}

act_rests : (x : Next) (i : Inner) (line : Option Line) (n k t : ℕ) → Lines x i → Rests (act_at x i line n k t)
act_rests (AtDebugger s) i line n k t h = line_rests _ i line (λ l. debug_rests s (debug_of l) i n h)
act_rests (AtInput name) i line n k t h = line_rests _ i line (λ l. input_rests name l i n h)
act_rests AtCommand i line n k t h = line_rests _ i line (λ l. effect_rests (command_effect (command_of l) i (record { line = l; fed = k })) i n t h)
act_rests (AtFill f) i line n k t h = (λ e. cc, λ e. cc)
act_rests AtBreak i line n k t h = (λ e. refl, λ e. cc)
act_rests (AtInstruction s) i line n k t h = step_rests s i line n t

call_replied_rests : (c : Call) (i : Inner) (r : Reply) → Rests (call_replied c i r)
call_replied_rests (Common call) i r = call_rests (reply_told (common_arguments call) (common_buffer call) r) i 0
call_replied_rests _ i r = (λ e. cc, λ e. cc)

entry_replied_rests : (call : Result Call EntryFault) (i : Inner) (r : Reply) → Rests (entry_replied call i r)
entry_replied_rests (Ok call) i r = call_replied_rests call i r
entry_replied_rests (Err fault) i r = (λ e. cc, λ e. cc)

step_replied_rests : (s : Step) (i : Inner) (r : Reply) → Rests (step_replied s i r)
step_replied_rests (entry w) i r = entry_replied_rests (call_of i.regs i.core w) i r
step_replied_rests _ i r = (λ e. cc, λ e. cc)

replied_rests : (x : Next) (i : Inner) (line : Option Line) (n t : ℕ) (r : Reply) → Lines x i → Rests (replied_at x i line n t r)
replied_rests AtCommand i line n t r h = line_rests _ i line (λ l. effect_rests (reply_effect (command_of l) r) i n t h)
replied_rests (AtInstruction s) i line n t r h = step_replied_rests s i r
replied_rests _ i line n t r h = (λ e. cc, λ e. cc)

any_step_rests : (made : Option CommonOp) (x : Next) (i : Inner) (line : Option Line) (n k t : ℕ) (r : Reply) → Lines x i → Rests (act_by made x i line n k t r)
any_step_rests None x i line n k t r h = act_rests x i line n k t h
any_step_rests (Some op) x i line n k t r h = replied_rests x i line n t r h

line_lines : (i : Inner) (d : Option Stops) (input : Option NamePair) → Rested i → Lines (line_next d input) i × (takes_line_at (line_next d input) i ≡ true)
line_lines i None None h = (h, refl)
line_lines i None (Some name) h = (h, refl)
line_lines i (Some s) None h = (h, refl)
line_lines i (Some s) (Some name) h = (h, refl)

works_lines : (i : Inner) (f : Option Fill) (b : Bool) (s : Step) → Lines (elim f as (λ x. Next) [ None ↦ instruction_next b s | Some f ↦ AtFill f ]) i
works_lines i None true s = tt
works_lines i None false s = tt
works_lines i (Some f) b s = tt

lines_of : (i : Inner) → Lines (next_of i) i
lines_of i = by_state i.state refl
  where
    fill_lines : (f : Option Fill) → Lines (program_next f i) i
    fill_lines None = elim (at_break i) as (λ b. Lines (instruction_next b (Rattle.machine_model.specs.Machine.step_of i.regs i.core)) i) [ true ↦ tt | false ↦ tt ]
    fill_lines (Some f) = tt

    by_state : (s : ProgramState) → i.state ≡ s → Lines (next_in s i) i
    by_state Dead e = (line_lines i i.debugger i.input (ap works_in e)).0
    by_state Dormant e = (line_lines i i.debugger i.input (ap works_in e)).0
    by_state Working e = fill_lines i.fill

takes_line : (i : Inner) → Rested i → takes_line_at (next_of i) i ≡ true
takes_line i h = by_state i.state h
  where
    by_state : (s : ProgramState) → works_in s ≡ false → takes_line_at (next_in s i) i ≡ true
    by_state Dead e = (line_lines i i.debugger i.input h).1
    by_state Dormant e = (line_lines i i.debugger i.input h).1
    by_state Working e = cc

-- the facts on a user's machine

pub step_rested : (p : User) (t : ℕ) (r : Reply) → let m = machine user_rows in
    (m.ending p t r ≡ Stopped → Rested (m.step p t r).inner) × (m.ending p t r ≡ LoggedOut → Rested (m.step p t r).inner)
step_rested p t r =
    any_step_rests (asks_common_at (next_of p.inner) p.inner (line_of user_rows p)) (next_of p.inner) p.inner (line_of user_rows p)
    (suc p.own - own_at_command_of user_rows p) (one_less (line_of user_rows p) p.fed) t r (lines_of p.inner)

-- a user that can step while no program works has a line
pub can_has_line : (p : User) → Rested p.inner → (machine user_rows).can_step p ≡ true → some_line p.unread ≡ true
can_has_line p h can = by_test p.on (rw (takes_line p.inner h) at can)
  where
    by_test : (b : Bool) → (b && (not true || some_line p.unread)) ≡ true → some_line p.unread ≡ true
    by_test true e = e
    by_test false e = cc
