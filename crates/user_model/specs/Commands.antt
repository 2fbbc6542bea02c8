-- claim: what each command does, and what a line of INPUT does.
use Rattle.std.specs.Prelude.{ℕ, ◌-◌, Bool, true, false, List, [], ◌∷◌, ◌++◌, nat_eq, length, map, drop, codes, if◌then◌else◌, Option, Some, None, option_to_list, Ok, Err}
use Rattle.std.specs.declared.result.Result.{Result}
use Rattle.ctss_types.specs.Names.{NamePair}
use Rattle.ctss_types.specs.Words.{name_of, words_of}
use Rattle.ctss_types.specs.declared.file.FileBody.{FileBody}
use Rattle.ctss_types.specs.declared.file.CommonOp.TheVariants as op
use Rattle.ctss_types.specs.declared.file.Refusal.{Refusal}
use Rattle.ctss_types.specs.declared.file.Reply.TheVariants.{Done, Size, Words, Refused}
use Rattle.ctss_types.specs.declared.file.Refusal.TheVariants.{NameUsed}
use Rattle.time_sharing.specs.Machine.{Line, Stopped, Resized, Replaced, LoggedOut, CommonOp, Reply}
use Rattle.time_sharing.specs.Rows.{Outcome}
use Rattle.file_model.specs.Files.{file_named, got, put, appended, lasting}
use Rattle.file_model.specs.Texts.{listing_lines, refusal_text}
use Rattle.fap_model.specs.Cards.{cards_of}
use Rattle.fap_model.specs.Decks.{Assembled, deck, faulty, assembled}
use Rattle.link_model.specs.declared.types.LinkRefusal.{LinkRefusal}
use Rattle.link_model.specs.declared.types.LinkRefusal.TheVariants as unlinked
use Rattle.link_model.specs.Modules.{module_words}
use Rattle.link_model.specs.Files.{module_name, files_linked}
use Rattle.link_model.specs.ModuleCards as modules
use Rattle.link_model.specs.ModuleCards.{ModuleMade, module_made, is_relocatable}
use Rattle.program_model.specs.declared.ProgramState.{ProgramState}
use Rattle.program_model.specs.declared.ProgramState.TheVariants.{Dead, Dormant, Working}
use Rattle.program_model.specs.declared.Fill.{Fill}
use Rattle.program_model.specs.declared.Fill.TheVariants as fill
use Rattle.program_model.specs.declared.Deck.{Deck}
use Rattle.program_model.specs.declared.LoadFault.{LoadFault}
use Rattle.program_model.specs.declared.LoadFault.TheVariants.{NoFile, BadDeck, TooLarge}
use Rattle.program_model.specs.Decks.{deck_of, deck_name}
use Rattle.program_model.specs.Saved.{saved, saved_of, saved_name, register_lines, word_line}
use Rattle.program_model.specs.Lines.{lines_of_words, words_of_line}
use Rattle.user_model.specs.declared.Command.{Command}
use Rattle.user_model.specs.declared.Command.TheVariants.{Empty, Logout, LoadGo, List as Lists, Print, Rename, Delete, ChangeMode, Input, CopyTo, CopyFrom, Assemble, Link, Start, Save, Resume, Registers, WordAt, Debug, RunFile, BadArguments, Unknown}
use Rattle.program_model.specs.Stops.{no_stops}
use Rattle.program_model.specs.declared.ComRefusal.{ComRefusal}
use Rattle.program_model.specs.declared.ComRefusal.TheVariants as refusal_of
use Rattle.program_model.specs.CommandLines.{command_lines}
use Rattle.user_model.specs.Requests.{word_name}
use Rattle.user_model.specs.Inner.{Inner, with_program, without_program}
use Rattle.user_model.specs.OwnFiles.{FileChange, PutsFile, RenamesFile, DeletesFile, SetsMode, changed_files}
use Rattle.user_model.specs.Programs.{gives}
use Rattle.user_model.specs.Texts.{time_text, ready_text, logged_out_text, fault_text, doubly_text, undefined_text}

-- the line that is taken as a command, and how many lines of command files are unread behind it
pub record CommandLine : Type 0 where
  pub line : Line
  pub fed : ℕ

-- a command that is done in this step, with its text and then R n
abbrev pub says : List Line → Inner → ℕ → ℕ → Outcome Inner
says lines i n t = gives i (time_text t ∷ (lines ++ ready_text n ∷ [])) Stopped

-- why a program isn't loaded
abbrev pub load_text : LoadFault → Line
load_text NoFile = codes "FILE NOT FOUND"
load_text BadDeck = codes "BAD DECK"
load_text TooLarge = codes "TOO LARGE"

-- a change of the directory, or why it is refused
abbrev pub changed : Result (List FileBody) Refusal → Inner → ℕ → ℕ → Outcome Inner
changed (Ok files) i n t = says [] (record i { files = files }) n t
changed (Err r) i n t = says (refusal_text r ∷ []) i n t

-- an empty file is made, and the lines that come go to it
abbrev pub input_made : NamePair → Result (List FileBody) Refusal → Inner → ℕ → ℕ → Outcome Inner
input_made name (Ok files) i n t = gives (record i { files = files; input = Some name }) (time_text t ∷ []) Stopped
input_made name (Err r) i n t = says (refusal_text r ∷ []) i n t

-- a file that is there stands in the way
abbrev pub input_begun : NamePair → Option FileBody → Inner → ℕ → ℕ → Outcome Inner
input_begun name (Some f) i n t = says (refusal_text NameUsed ∷ []) i n t
input_begun name None i n t = input_made name (put name [] i.account.tracks i.files) i n t

-- What a command comes to. Whatever a command is called, it does one of these, and what is true of these is true of it.
pub data Effect : Type 0 where
  -- lines are printed
  Prints : (lines : List Line) → Effect
  -- the directory is changed
  ChangesFiles : (change : FileChange) → Effect
  -- an empty file is made, and the lines that come go to it
  TypesInto : (name : NamePair) → Effect
  -- a program of so many blocks of plus zeros with all registers zero takes the place of the one before; it is filled in the next step
  BeginsProgram : (blocks : ℕ) (fill : Fill) → Effect
  -- the program that stopped goes on
  ContinuesProgram : Effect
  -- the debugger is opened, without a breakpoint
  OpensDebugger : Effect
  -- lines stand before the unread ones
  AddsLines : (lines : List Line) → Effect
  LogsOut : Effect

-- the row of a command that comes to this
abbrev pub effect_row : Effect → Inner → ℕ → ℕ → Outcome Inner
effect_row (Prints lines) i n t = says lines i n t
effect_row (ChangesFiles change) i n t = changed (changed_files change i.account.tracks i.files) i n t
effect_row (TypesInto name) i n t = input_begun name (file_named name i.files) i n t
effect_row (BeginsProgram blocks fill) i n t = gives (with_program blocks fill i) (time_text t ∷ []) Replaced
effect_row ContinuesProgram i n t = gives (record i { state = Working }) (time_text t ∷ []) Resized
effect_row OpensDebugger i n t = gives (record i { debugger = Some no_stops }) (time_text t ∷ []) Stopped
effect_row (AddsLines lines) i n t = record (says [] i n t) { front = lines }
effect_row LogsOut i n t =
    gives (without_program (record i { files = lasting i.files })) (time_text t ∷ logged_out_text i.account.name ∷ []) LoggedOut

-- words are put as a file
abbrev pub puts : NamePair → List ℕ → Effect
puts name words = ChangesFiles (PutsFile name words)

-- the program of a deck, or why there is none
abbrev pub prepared : ℕ → Result Deck LoadFault → Effect
prepared name (Ok d) = BeginsProgram d.blocks (fill.Deck (deck_name name) d.start)
prepared name (Err fault) = Prints (load_text fault ∷ [])

-- a saved program, or why there is none
abbrev pub resumed : ℕ → Result ℕ LoadFault → Effect
resumed name (Ok blocks) = BeginsProgram blocks (fill.Saved (saved_name name))
resumed name (Err fault) = Prints (load_text fault ∷ [])

-- a file's words as lines, or why there is none
abbrev pub printed : Result (List ℕ) Refusal → List Line
printed (Ok words) = lines_of_words words
printed (Err r) = refusal_text r ∷ []

-- whether a program stopped, and is there
abbrev pub is_dormant : ProgramState → Bool
is_dormant Dead = false
is_dormant Dormant = true
is_dormant Working = false

-- what asks for a program that stopped
abbrev pub if_dormant : Effect → ProgramState → Effect
if_dormant effect state = if is_dormant state then effect else Prints (codes "NO PROGRAM" ∷ [])

-- the file that a deck is assembled from
abbrev pub cards_name : ℕ → NamePair
cards_name name = record { first = name; second = name_of (codes "FAP") }

-- a deck is put; where cards are at fault a line is printed for each, and nothing is put
abbrev pub assembly_put : ℕ → Assembled → Effect
assembly_put name (deck words) = puts (deck_name name) words
assembly_put name (faulty faults) = Prints (map fault_text faults)

-- a module is put, likewise
abbrev pub module_put : ℕ → ModuleMade → Effect
module_put name (modules.relocatable m) = puts (module_name name) (module_words m)
module_put name (modules.faulty faults) = Prints (map fault_text faults)

-- the cards of a file are assembled: those of a module make a module, and others a deck
abbrev pub cards_assembled : ℕ → Result (List ℕ) Refusal → Effect
cards_assembled name (Ok words) =
    if is_relocatable (cards_of words) then module_put name (module_made (cards_of words)) else assembly_put name (assembled (cards_of words))
cards_assembled name (Err r) = Prints (refusal_text r ∷ [])

-- why modules aren't linked
abbrev pub link_text : LinkRefusal → Line
link_text unlinked.NoFile = codes "FILE NOT FOUND"
link_text unlinked.BadModule = codes "BAD MODULE"
link_text unlinked.TooLarge = codes "TOO LARGE"
link_text (unlinked.Doubly name) = doubly_text name
link_text (unlinked.Undefined name) = undefined_text name

-- the names among words
abbrev pub names_in : List Line → List ℕ
names_in [] = []
names_in (w ∷ ws) = option_to_list (word_name w) ++ names_in ws

-- the modules that a line names: the words behind the deck's name, all of which are names where it asks for LINK
abbrev pub modules_in : Line → List ℕ
modules_in l = names_in (drop 2 (words_of l))

-- the deck of linked modules is put
abbrev pub linked_put : ℕ → Result (List ℕ) LinkRefusal → Effect
linked_put name (Ok words) = puts (deck_name name) words
linked_put name (Err refusal) = Prints (link_text refusal ∷ [])

-- the file that commands are read from
abbrev pub command_file : ℕ → NamePair
command_file name = record { first = name; second = name_of (codes "RUNCOM") }

-- why lines of a command file aren't added
abbrev pub com_text : ComRefusal → Line
com_text refusal_of.BadArguments = codes "BAD ARGUMENTS"
com_text refusal_of.TooLong = codes "TOO LONG"

-- lines are added, or why not
abbrev pub lines_added : Result (List Line) ComRefusal → Effect
lines_added (Ok lines) = AddsLines lines
lines_added (Err refusal) = Prints (com_text refusal ∷ [])

-- The lines of a command file stand before the unread ones, with the words behind its name as arguments. At most 256 such lines are unread.
abbrev pub file_run : Result (List ℕ) Refusal → CommandLine → Effect
file_run (Ok words) x = lines_added (command_lines words (drop 2 (words_of x.line)) (256 - x.fed))
file_run (Err r) x = Prints (refusal_text r ∷ [])

-- why a file isn't read
abbrev pub why_not : Result (List ℕ) Refusal → List Line
why_not (Ok words) = []
why_not (Err r) = refusal_text r ∷ []

-- what a command that makes no common operation comes to
abbrev pub command_effect : Command → Inner → CommandLine → Effect
command_effect Empty i x = Prints []
command_effect Logout i x = LogsOut
command_effect (LoadGo name) i x = prepared name (deck_of i.account.blocks (got (deck_name name) i.files))
command_effect Lists i x = Prints (listing_lines i.account.tracks i.files)
command_effect (Print name) i x = Prints (printed (got name i.files))
command_effect (Rename name to) i x = ChangesFiles (RenamesFile name to)
command_effect (Delete name) i x = ChangesFiles (DeletesFile name)
command_effect (ChangeMode name mode) i x = ChangesFiles (SetsMode name mode)
command_effect (Input name) i x = TypesInto name
command_effect (CopyTo name) i x = Prints (why_not (got name i.files))
command_effect (CopyFrom name) i x = Prints []
command_effect (Assemble name) i x = cards_assembled name (got (cards_name name) i.files)
command_effect (Link name) i x = linked_put name (files_linked (modules_in x.line) i.files)
command_effect Start i x = if_dormant ContinuesProgram i.state
command_effect (Save name) i x = if_dormant (puts (saved_name name) (saved i.blocks i.regs i.core)) i.state
command_effect (Resume name) i x = resumed name (saved_of i.account.blocks (got (saved_name name) i.files))
command_effect Registers i x = if_dormant (Prints (register_lines i.regs)) i.state
command_effect (WordAt place) i x = if_dormant (Prints (word_line i.core place ∷ [])) i.state
command_effect Debug i x = if_dormant OpensDebugger i.state
command_effect (RunFile name) i x = file_run (got (command_file name) i.files) x
command_effect BadArguments i x = Prints (codes "BAD ARGUMENTS" ∷ [])
command_effect Unknown i x = Prints (codes "NOT A COMMAND" ∷ [])

-- its row, with n own steps since it and the clock at t
abbrev pub command_row : Command → Inner → CommandLine → ℕ → ℕ → Outcome Inner
command_row c i x n t = effect_row (command_effect c i x) i n t

-- a copy goes to the common files where the user's own file is read
abbrev pub copy_of : NamePair → Result (List ℕ) Refusal → Option CommonOp
copy_of name (Ok words) = Some (op.Put name words)
copy_of name (Err r) = None

-- the common operation that a command makes
abbrev pub command_asks : Command → Inner → Option CommonOp
command_asks (CopyTo name) i = copy_of name (got name i.files)
command_asks (CopyFrom name) i = Some (op.Get name)
command_asks _ i = None

-- the file of the user's own that words of a common file are put as
abbrev pub copy_target : Command → Option NamePair
copy_target (CopyFrom name) = Some name
copy_target _ = None

abbrev pub words_copied : Option NamePair → List ℕ → Effect
words_copied (Some name) words = puts name words
words_copied None words = Prints []

-- what a command that made a common operation comes to, by the reply
abbrev pub reply_effect : Command → Reply → Effect
reply_effect c Done = Prints []
reply_effect c (Size k) = Prints []
reply_effect c (Words words) = words_copied (copy_target c) words
reply_effect c (Refused r) = Prints (refusal_text r ∷ [])

-- its row
abbrev pub command_replied : Command → Inner → ℕ → ℕ → Reply → Outcome Inner
command_replied c i n t r = effect_row (reply_effect c r) i n t

-- INPUT is over, with this text and R n
abbrev pub input_ends : List Line → Inner → ℕ → Outcome Inner
input_ends lines i n = gives (record i { input = None }) (lines ++ ready_text n ∷ []) Stopped

-- a line is typed into a file; where that is refused, INPUT is over
abbrev pub line_entered : Result (List FileBody) Refusal → Inner → ℕ → Outcome Inner
line_entered (Ok files) i n = gives (record i { files = files }) [] Stopped
line_entered (Err r) i n = input_ends (refusal_text r ∷ []) i n

-- The row of a line of INPUT for a file: its 14 words go behind the file's, and an empty line ends it. R n counts from the
-- command INPUT.
abbrev pub input_row : NamePair → Line → Inner → ℕ → Outcome Inner
input_row name l i n =
    if nat_eq (length l) 0 then input_ends [] i n else line_entered (appended name (words_of_line 14 l) i.account.tracks i.files) i n
