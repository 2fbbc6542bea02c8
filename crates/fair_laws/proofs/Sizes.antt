-- Each step of a user keeps its program within the blocks of its account.
use Rattle.std.proofs.Common.{◌≡◌, ℕ, Bool, true, false, ◌≤◌, ◌||◌, List, [], ◌∷◌, Option, Some, None, Ok, Err, refl, arith}
use Rattle.std.specs.Prelude.{if◌then◌else◌, nat_eq, nat_lt, nat_le, length, codes}
use Rattle.std.specs.declared.result.Result.{Result}
use Rattle.std.proofs.lemmas.Bool.Decides.{nat_tests}
use Rattle.time_sharing.specs.Machine.{Line, CutKind, Quit, Hang, Spent, End, CommonOp, Reply, Done}
use Rattle.ctss_types.specs.declared.file.Reply.TheVariants.{Size, Words, Refused}
use Rattle.time_sharing.specs.Rows.{Outcome}
use Rattle.ctss_types.specs.Names.{NamePair}
use Rattle.ctss_types.specs.declared.file.FileBody.{FileBody}
use Rattle.ctss_types.specs.declared.file.Refusal.{Refusal}
use Rattle.word36.specs.Bits.{address_of}
use Rattle.file_model.specs.Files.{file_named, put, appended, got, stat, read}
use Rattle.file_model.specs.declared.Stat.{Stat}
use Rattle.machine_model.specs.Step.{Step, went, halt, entry, illegal, outside}
use Rattle.program_model.specs.declared.Call.{Call}
use Rattle.program_model.specs.declared.Call.TheVariants.{ReadLine, WriteLine, SetMemory, FileStat, ReadFile, Common}
use Rattle.program_model.specs.declared.EntryFault.{EntryFault}
use Rattle.program_model.specs.declared.EntryFault.TheVariants.{NoSuchEntry, Outside}
use Rattle.program_model.specs.declared.DebugLine.{DebugLine}
use Rattle.program_model.specs.declared.DebugLine.TheVariants.{Break, Clear, Set}
use Rattle.program_model.specs.declared.LoadFault.TheVariants.{BadDeck, TooLarge}
use Rattle.program_model.specs.Calls.{call_of, is_line_count}
use Rattle.program_model.specs.DebugLines.{debug_of}
use Rattle.program_model.specs.Decks.{deck_of, deck_name, is_deck}
use Rattle.program_model.specs.Saved.{saved, saved_of, saved_name, is_saved, register_lines, word_line}
use Rattle.program_model.specs.declared.ProgramState.{ProgramState}
use Rattle.fap_model.specs.Cards.{cards_of}
use Rattle.program_model.specs.Lines.{words_of_line, with_words}
use Rattle.program_model.specs.Stops.{Stops, is_full, with_break, without_break}
use Rattle.user_model.specs.Inner.{Inner}
use Rattle.user_model.specs.Requests.{command_of}
use Rattle.user_model.specs.declared.Command.{Command}
use Rattle.user_model.specs.declared.Command.TheVariants as which
use Rattle.user_model.specs.Commands as commands
use Rattle.fap_model.specs.Decks as fap
use Rattle.link_model.specs.ModuleCards as modules
use Rattle.link_model.specs.declared.types.LinkRefusal.{LinkRefusal}
use Rattle.program_model.specs.declared.ComRefusal.{ComRefusal}
use Rattle.user_model.specs.Debugger.{debug_row, if_inside, with_breaks}
use Rattle.user_model.specs.OwnFiles.{changed_files}
use Rattle.user_model.specs.Commands.{Effect, ChangesFiles, TypesInto, BeginsProgram, LogsOut, effect_row, command_effect, reply_effect, changed, input_made, input_begun, input_row, line_entered, CommandLine}
use Rattle.user_model.specs.Programs.{CallEffect, RepliesChange, TakesSize, EndsProgram, call_effect_row, call_effect, line_read, file_told, file_read, size_set, reply_told, step_row, step_replied, entry_row, entry_replied, call_replied, common_arguments, common_buffer, files_changed}
use Rattle.user_model.specs.Session.{Next, AtDebugger, AtInput, AtCommand, AtInstruction, by_line, act_at, replied_at, act_by, inner_cut}

-- the account stays, and the program keeps within its blocks
abbrev pub KeepsSize : Inner → Inner → Type 0
KeepsSize i j = (j.account ≡ i.account) × (i.blocks ≤ i.account.blocks → j.blocks ≤ i.account.blocks)

abbrev pub Keeps : Inner → Outcome Inner → Type 0
Keeps i o = KeepsSize i o.inner

either_way : (b : Bool) (i : Inner) (x y : Outcome Inner) → Keeps i x → Keeps i y → Keeps i (if b then x else y)
either_way true i x y one other = one
either_way false i x y one other = other

files_keep : (i : Inner) (arguments : ℕ) (told : Result (List FileBody) Refusal) → Keeps i (files_changed i arguments told)
files_keep i arguments (Ok files) = (refl, λ h. h)
files_keep i arguments (Err r) = (refl, λ h. h)

-- what an entry comes to asks for no more
abbrev CallFits : CallEffect → Inner → Type 0
CallFits (TakesSize blocks) i = blocks ≤ i.account.blocks
CallFits _ i = Unit {0}

either_call : (b : Bool) (i : Inner) (x y : CallEffect) → CallFits x i → CallFits y i → CallFits (if b then x else y) i
either_call true i x y one other = one
either_call false i x y one other = other

line_fits : (i : Inner) (at count : ℕ) (l : Option Line) → CallFits (line_read at count l) i
line_fits i at count None = tt
line_fits i at count (Some l) = tt

told_fits : (i : Inner) (s : Result Stat Refusal) → CallFits (file_told s) i
told_fits i (Ok s) = tt
told_fits i (Err r) = tt

read_fits : (i : Inner) (at : ℕ) (s : Result (List ℕ) Refusal) → CallFits (file_read at s) i
read_fits i at (Ok words) = tt
read_fits i at (Err r) = tt

size_fits : (i : Inner) (blocks now : ℕ) → CallFits (size_set blocks i.account.blocks now) i
size_fits i blocks now = by_tests (nat_eq blocks 0) (nat_lt i.account.blocks blocks) refl (nat_eq blocks now)
  where
    by_tests : (a b : Bool) → nat_lt i.account.blocks blocks ≡ b → (c : Bool)
        → CallFits (if a || b then Rattle.user_model.specs.Programs.Replies 1 3 None else (if c then Rattle.user_model.specs.Programs.Replies 1 0 None else TakesSize blocks)) i
    by_tests true b e c = tt
    by_tests false true e c = tt
    by_tests false false e true = tt
    by_tests false false e false = grind (arith, nat_tests)

call_fits : (c : Call) (i : Inner) (l : Option Line) (t : ℕ) → CallFits (call_effect c i l t) i
call_fits (ReadLine at count) i l t = either_call (is_line_count count) i _ _ (line_fits i at count l) tt
call_fits (WriteLine at count) i l t = either_call (is_line_count count) i _ _ tt tt
call_fits (SetMemory blocks) i l t = size_fits i blocks i.blocks
call_fits (FileStat name) i l t = told_fits i (stat name i.files)
call_fits (ReadFile name at count place) i l t = read_fits i at (read name place count i.files)
call_fits _ i l t = tt

reply_fits : (i : Inner) (arguments at : ℕ) (r : Reply) → CallFits (reply_told arguments at r) i
reply_fits i arguments at Done = tt
reply_fits i arguments at (Size n) = tt
reply_fits i arguments at (Words words) = tt
reply_fits i arguments at (Refused r) = tt

call_keeps : (x : CallEffect) (i : Inner) (n : ℕ) → CallFits x i → Keeps i (call_effect_row x i n)
call_keeps (RepliesChange arguments change) i n f = files_keep i arguments (changed_files change i.account.tracks i.files)
call_keeps (TakesSize blocks) i n f = (refl, λ h. f)
call_keeps EndsProgram i n f = (refl, λ h. omega arith)
call_keeps _ i n f = (refl, λ h. h)

entry_keeps : (call : Result Call EntryFault) (i : Inner) (l : Option Line) (n t : ℕ) → Keeps i (entry_row call i l n t)
entry_keeps (Ok call) i l n t = call_keeps (call_effect call i l t) i n (call_fits call i l t)
entry_keeps (Err NoSuchEntry) i l n t = (refl, λ h. h)
entry_keeps (Err (Outside a)) i l n t = (refl, λ h. h)

step_keeps : (s : Step) (i : Inner) (l : Option Line) (n t : ℕ) → Keeps i (step_row s i l n t)
step_keeps (went r core) i l n t = (refl, λ h. h)
step_keeps (halt r core) i l n t = (refl, λ h. h)
step_keeps (entry w) i l n t = entry_keeps (call_of i.regs i.core w) i l n t
step_keeps illegal i l n t = (refl, λ h. h)
step_keeps (outside a) i l n t = (refl, λ h. h)

change_keeps : (told : Result (List FileBody) Refusal) (i : Inner) (n t : ℕ) → Keeps i (changed told i n t)
change_keeps (Ok files) i n t = (refl, λ h. h)
change_keeps (Err r) i n t = (refl, λ h. h)

made_keeps : (name : NamePair) (told : Result (List FileBody) Refusal) (i : Inner) (n t : ℕ) → Keeps i (input_made name told i n t)
made_keeps name (Ok files) i n t = (refl, λ h. h)
made_keeps name (Err r) i n t = (refl, λ h. h)

begun_keeps : (name : NamePair) (file : Option FileBody) (i : Inner) (n t : ℕ) → Keeps i (input_begun name file i n t)
begun_keeps name None i n t = made_keeps name (put name [] i.account.tracks i.files) i n t
begun_keeps name (Some f) i n t = (refl, λ h. h)

entered_keeps : (told : Result (List FileBody) Refusal) (i : Inner) (n : ℕ) → Keeps i (line_entered told i n)
entered_keeps (Ok files) i n = (refl, λ h. h)
entered_keeps (Err r) i n = (refl, λ h. h)

input_keeps : (name : NamePair) (l : Line) (i : Inner) (n : ℕ) → Keeps i (input_row name l i n)
input_keeps name l i n = either_way (nat_eq (length l) 0) i _ _ (refl, λ h. h) (entered_keeps (appended name (words_of_line 14 l) i.account.tracks i.files) i n)

-- what a command comes to asks for no more
abbrev EffectFits : Effect → Inner → Type 0
EffectFits (BeginsProgram blocks fill) i = blocks ≤ i.account.blocks
EffectFits _ i = Unit {0}

effect_keeps : (x : Effect) (i : Inner) (n t : ℕ) → EffectFits x i → Keeps i (effect_row x i n t)
effect_keeps (ChangesFiles change) i n t f = change_keeps (changed_files change i.account.tracks i.files) i n t
effect_keeps (TypesInto name) i n t f = begun_keeps name (file_named name i.files) i n t
effect_keeps (BeginsProgram blocks fill) i n t f = (refl, λ h. f)
effect_keeps LogsOut i n t f = (refl, λ h. omega arith)
effect_keeps _ i n t f = (refl, λ h. h)

either_effect : (b : Bool) (i : Inner) (x y : Effect) → EffectFits x i → EffectFits y i → EffectFits (if b then x else y) i
either_effect true i x y one other = one
either_effect false i x y one other = other

-- a deck, or a saved program, is of the quota at most
deck_fits : (i : Inner) (name : ℕ) (words : Result (List ℕ) Refusal) → EffectFits (Rattle.user_model.specs.Commands.prepared name (deck_of i.account.blocks words)) i
deck_fits i name (Err r) = tt
deck_fits i name (Ok []) = tt
deck_fits i name (Ok (w ∷ ws)) = by_tests (is_deck w ws) (nat_le (address_of w) i.account.blocks) refl
  where
    by_tests : (a b : Bool) → nat_le (address_of w) i.account.blocks ≡ b
        → EffectFits (Rattle.user_model.specs.Commands.prepared name (if a then (if b then Ok (record { start = Rattle.word36.specs.Bits.decrement_of w; blocks = address_of w }) else Err TooLarge) else Err BadDeck)) i
    by_tests true true e = grind (arith, nat_tests)
    by_tests true false e = tt
    by_tests false b e = tt

saved_fits : (i : Inner) (name : ℕ) (words : Result (List ℕ) Refusal) → EffectFits (Rattle.user_model.specs.Commands.resumed name (saved_of i.account.blocks words)) i
saved_fits i name (Err r) = tt
saved_fits i name (Ok []) = tt
saved_fits i name (Ok (w ∷ ws)) = by_tests (is_saved w (length (w ∷ ws))) (nat_le w i.account.blocks) refl
  where
    by_tests : (a b : Bool) → nat_le w i.account.blocks ≡ b
        → EffectFits (Rattle.user_model.specs.Commands.resumed name (if a then (if b then Ok w else Err TooLarge) else Err BadDeck)) i
    by_tests true true e = grind (arith, nat_tests)
    by_tests true false e = tt
    by_tests false b e = tt

lines_fit : (i : Inner) (told : Result (List Line) ComRefusal) → EffectFits (commands.lines_added told) i
lines_fit i (Ok lines) = tt
lines_fit i (Err r) = tt

run_fits : (i : Inner) (file : Result (List ℕ) Refusal) (x : CommandLine) → EffectFits (commands.file_run file x) i
run_fits i (Ok words) x = lines_fit i _
run_fits i (Err r) x = tt

linked_fits : (i : Inner) (name : ℕ) (told : Result (List ℕ) LinkRefusal) → EffectFits (commands.linked_put name told) i
linked_fits i name (Ok words) = tt
linked_fits i name (Err r) = tt

assembly_fits : (i : Inner) (name : ℕ) (made : fap.Assembled) → EffectFits (commands.assembly_put name made) i
assembly_fits i name made = elim made as (λ x. EffectFits (commands.assembly_put name x) i) [ fap.deck words ↦ tt | fap.faulty faults ↦ tt ]

module_fits : (i : Inner) (name : ℕ) (made : modules.ModuleMade) → EffectFits (commands.module_put name made) i
module_fits i name made = elim made as (λ x. EffectFits (commands.module_put name x) i) [ modules.relocatable m ↦ tt | modules.faulty faults ↦ tt ]

cards_fit : (i : Inner) (name : ℕ) (file : Result (List ℕ) Refusal) → EffectFits (commands.cards_assembled name file) i
cards_fit i name (Ok words) =
    either_effect (modules.is_relocatable (cards_of words)) i (commands.module_put name (modules.module_made (cards_of words)))
    (commands.assembly_put name (fap.assembled (cards_of words))) (module_fits i name (modules.module_made (cards_of words)))
    (assembly_fits i name (fap.assembled (cards_of words)))
cards_fit i name (Err r) = tt

dormant_fits : (i : Inner) (x : Effect) (state : ProgramState) → EffectFits x i → EffectFits (commands.if_dormant x state) i
dormant_fits i x state f = either_effect (commands.is_dormant state) i x (commands.Prints (codes "NO PROGRAM" ∷ [])) f tt

command_fits : (c : Command) (i : Inner) (x : CommandLine) → EffectFits (command_effect c i x) i
command_fits (which.LoadGo name) i x = deck_fits i name (got (deck_name name) i.files)
command_fits (which.Resume name) i x = saved_fits i name (got (saved_name name) i.files)
command_fits (which.Assemble name) i x = cards_fit i name (got (commands.cards_name name) i.files)
command_fits (which.Link name) i x = linked_fits i name _
command_fits (which.RunFile name) i x = run_fits i (got (commands.command_file name) i.files) x
command_fits which.Start i x = dormant_fits i commands.ContinuesProgram i.state tt
command_fits (which.Save name) i x = dormant_fits i (commands.puts (saved_name name) (saved i.blocks i.regs i.core)) i.state tt
command_fits which.Registers i x = dormant_fits i (commands.Prints (register_lines i.regs)) i.state tt
command_fits (which.WordAt place) i x = dormant_fits i (commands.Prints (word_line i.core place ∷ [])) i.state tt
command_fits which.Debug i x = dormant_fits i commands.OpensDebugger i.state tt
command_fits _ i x = tt

copied_fit : (i : Inner) (to : Option NamePair) (words : List ℕ) → EffectFits (commands.words_copied to words) i
copied_fit i None words = tt
copied_fit i (Some name) words = tt

words_fit : (c : Command) (i : Inner) (r : Reply) → EffectFits (reply_effect c r) i
words_fit c i Done = tt
words_fit c i (Size n) = tt
words_fit c i (Words words) = copied_fit i (commands.copy_target c) words
words_fit c i (Refused r) = tt

inside_keeps : (a : ℕ) (done i : Inner) → KeepsSize i done → Keeps i (if_inside a done i)
inside_keeps a done i h = either_way (nat_lt a (length i.core)) i _ _ h (refl, λ k. k)

debug_keeps : (s : Stops) (line : DebugLine) (i : Inner) (n : ℕ) → Keeps i (debug_row s line i n)
debug_keeps s (Break a) i n = either_way (is_full s.breaks a) i _ _ (refl, λ h. h) (inside_keeps a (with_breaks s (with_break s.breaks a) i) i (refl, λ h. h))
debug_keeps s (Clear a) i n = inside_keeps a (with_breaks s (without_break s.breaks a) i) i (refl, λ h. h)
debug_keeps s (Set a v) i n = inside_keeps a (record i { core = with_words i.core a (v ∷ []) }) i (refl, λ h. h)
debug_keeps s _ i n = (refl, λ h. h)

line_keeps : (row : Line → Outcome Inner) (i : Inner) (line : Option Line) → ((l : Line) → Keeps i (row l)) → Keeps i (by_line row i line)
line_keeps row i None h = (refl, λ k. k)
line_keeps row i (Some l) h = h l

act_keeps : (x : Next) (i : Inner) (line : Option Line) (n k t : ℕ) → Keeps i (act_at x i line n k t)
act_keeps (AtDebugger s) i line n k t = line_keeps _ i line (λ l. debug_keeps s (debug_of l) i n)
act_keeps (AtInput name) i line n k t = line_keeps _ i line (λ l. input_keeps name l i n)
act_keeps AtCommand i line n k t =
    line_keeps _ i line (λ l. effect_keeps (command_effect (command_of l) i (record { line = l; fed = k })) i n t (command_fits (command_of l) i (record { line = l; fed = k })))
act_keeps (AtInstruction s) i line n k t = step_keeps s i line n t
act_keeps _ i line n k t = (refl, λ h. h)

call_replied_keeps : (c : Call) (i : Inner) (r : Reply) → Keeps i (call_replied c i r)
call_replied_keeps (Common call) i r = call_keeps (reply_told (common_arguments call) (common_buffer call) r) i 0 (reply_fits i (common_arguments call) (common_buffer call) r)
call_replied_keeps _ i r = (refl, λ h. h)

entry_replied_keeps : (call : Result Call EntryFault) (i : Inner) (r : Reply) → Keeps i (entry_replied call i r)
entry_replied_keeps (Ok call) i r = call_replied_keeps call i r
entry_replied_keeps (Err fault) i r = (refl, λ h. h)

step_replied_keeps : (s : Step) (i : Inner) (r : Reply) → Keeps i (step_replied s i r)
step_replied_keeps (went regs core) i r = (refl, λ h. h)
step_replied_keeps (halt regs core) i r = (refl, λ h. h)
step_replied_keeps (entry w) i r = entry_replied_keeps (call_of i.regs i.core w) i r
step_replied_keeps illegal i r = (refl, λ h. h)
step_replied_keeps (outside a) i r = (refl, λ h. h)

replied_keeps : (x : Next) (i : Inner) (line : Option Line) (n t : ℕ) (r : Reply) → Keeps i (replied_at x i line n t r)
replied_keeps AtCommand i line n t r = line_keeps _ i line (λ l. effect_keeps (reply_effect (command_of l) r) i n t (words_fit (command_of l) i r))
replied_keeps (AtInstruction s) i line n t r = step_replied_keeps s i r
replied_keeps _ i line n t r = (refl, λ h. h)

pub any_step_keeps : (made : Option CommonOp) (x : Next) (i : Inner) (line : Option Line) (n k t : ℕ) (r : Reply) → Keeps i (act_by made x i line n k t r)
any_step_keeps None x i line n k t r = act_keeps x i line n k t
any_step_keeps (Some op) x i line n k t r = replied_keeps x i line n t r

pub cut_keeps : (kind : CutKind) (i : Inner) → KeepsSize i (inner_cut kind i)
cut_keeps Quit i = (refl, λ h. h)
cut_keeps Hang i = (refl, λ h. omega arith)
cut_keeps Spent i = (refl, λ h. omega arith)
cut_keeps End i = (refl, λ h. h)
