-- claim: worked rows of programs.
use Rattle.std.specs.Prelude.{◌≡◌, ℕ, ◌^◌, ◌*◌, ◌+◌, ◌-◌, true, false, List, [], ◌∷◌, ◌++◌, replicate, codes, Ok, Err, Some, None}
use Rattle.ctss_types.specs.Names.{NamePair}
use Rattle.ctss_types.specs.Words.{name_of}
use Rattle.cpu_regs.specs.declared.regs.Regs.{Regs}
use Rattle.cpu_regs.specs.Registers.{no_registers, set_xr}
use Rattle.program_model.specs.declared.Deck.{Deck}
use Rattle.program_model.specs.declared.Call.TheVariants.{ReadLine, WriteLine, GetTime, SetMemory, FileStat, ReadFile, WriteFile, DeleteFile, RenameFile, ChangeMode, Common, Dead}
use Rattle.program_model.specs.declared.CommonCall.TheVariants as common
use Rattle.program_model.specs.declared.EntryFault.TheVariants.{NoSuchEntry, Outside}
use Rattle.program_model.specs.declared.LoadFault.TheVariants.{NoFile, BadDeck, TooLarge}
use Rattle.ctss_types.specs.declared.file.Refusal.TheVariants as refusal
use Rattle.program_model.specs.Calls.{call_of, answered, behind_call}
use Rattle.program_model.specs.Lines.{line_of_words, lines_of_words, words_of_line, words_at, with_words}
use Rattle.program_model.specs.Decks.{deck_in, deck_of, filled}
use Rattle.program_model.specs.declared.DebugLine.TheVariants as debug
use Rattle.program_model.specs.declared.ComRefusal.TheVariants as refusal_of
use Rattle.program_model.specs.DebugLines.{debug_of}
use Rattle.program_model.specs.CommandLines.{lines_with}
use Rattle.program_model.specs.Saved.{head_of, saved, regs_in, saved_in, saved_of, register_lines, word_line}

-- registers of a program that called from a place
abbrev pub called_from : ℕ → Regs
called_from c = set_xr no_registers 4 (2 ^ 15 - c)

-- a word with a count and an address
abbrev pub counted : ℕ → ℕ → ℕ
counted count address = count * 2 ^ 18 + address

-- a call at 2 in a core of eight words, of which word 3 is the argument
abbrev pub core_with : ℕ → List ℕ
core_with argument = 0 ∷ 0 ∷ 0 ∷ argument ∷ 0 ∷ 0 ∷ 0 ∷ 0 ∷ []

pub record RowOfCalls : Type 0 where
  pub reads : call_of (called_from 2) (core_with (counted 2 6)) (name_of (codes "RDFLX")) ≡ Ok (ReadLine 6 2)
  pub writes : call_of (called_from 2) (core_with (counted 1 7)) (name_of (codes "WRFLX")) ≡ Ok (WriteLine 7 1)
  pub past : call_of (called_from 2) (core_with (counted 2 7)) (name_of (codes "WRFLX")) ≡ Err (Outside 7)
  -- no line has 15 words or none, so that the buffer isn't looked at
  pub long : call_of (called_from 2) (core_with (counted 15 7)) (name_of (codes "WRFLX")) ≡ Ok (WriteLine 7 15)
  pub none : call_of (called_from 2) (core_with (counted 0 99)) (name_of (codes "RDFLX")) ≡ Ok (ReadLine 99 0)
  pub argument : call_of (called_from 7) (core_with 0) (name_of (codes "RDFLX")) ≡ Err (Outside 8)
  pub size : call_of (called_from 2) (core_with (counted 9 4)) (name_of (codes "SETMEM")) ≡ Ok (SetMemory 4)
  pub time : call_of (called_from 7) (core_with 0) (name_of (codes "GETTM")) ≡ Ok GetTime
  pub dead : call_of (called_from 7) (core_with 0) (name_of (codes "DEAD")) ≡ Ok Dead
  pub unknown : call_of (called_from 2) (core_with 0) (name_of (codes "GETMEN")) ≡ Err NoSuchEntry
  -- the program goes on behind its arguments, round the end of core
  pub behind : (answered (called_from 2) 1 3 None).ic ≡ 4
  pub round : behind_call (called_from (2 ^ 15 - 1)) 1 ≡ 0
  pub reply : (answered (called_from 2) 1 3 (Some 9)).ac ≡ record { negative = false; magnitude = 3 }
  pub value : (answered (called_from 2) 0 0 (Some 9)).mq ≡ 9

-- a call at 2 in a core of ten words: three arguments, a file's names at 6, and a place at 8
abbrev pub file_core : (a b c place : ℕ) → List ℕ
file_core a b c place = 0 ∷ 0 ∷ 0 ∷ a ∷ b ∷ c ∷ 21 ∷ 22 ∷ place ∷ 0 ∷ []

abbrev pub pair : ℕ → ℕ → NamePair
pair a b = record { first = a; second = b }

pub record RowOfFileCalls : Type 0 where
  pub stat : call_of (called_from 2) (file_core 6 0 0 5) (name_of (codes "FSTAT")) ≡ Ok (FileStat (pair 21 22))
  pub delete : call_of (called_from 2) (file_core 7 0 0 5) (name_of (codes "DELETE")) ≡ Ok (DeleteFile (pair 22 5))
  pub rename : call_of (called_from 2) (file_core 6 7 0 5) (name_of (codes "RENAME")) ≡ Ok (RenameFile (pair 21 22) (pair 22 5))
  pub mode : call_of (called_from 2) (file_core 6 (counted 9 4) 0 5) (name_of (codes "CHMODE")) ≡ Ok (ChangeMode (pair 21 22) 4)
  pub read : call_of (called_from 2) (file_core 6 (counted 2 8) 8 5) (name_of (codes "RDFILE")) ≡ Ok (ReadFile (pair 21 22) 8 2 5)
  pub written : call_of (called_from 2) (file_core 6 (counted 10 0) 8 0) (name_of (codes "WRFILE")) ≡ Ok (WriteFile (pair 21 22) 0 10 0)
  -- a place's sign counts for nothing, and a buffer of no words may stand right behind the core
  pub minus : call_of (called_from 2) (file_core 6 (counted 0 10) 8 (2 ^ 35 + 5)) (name_of (codes "RDFILE")) ≡ Ok (ReadFile (pair 21 22) 10 0 5)
  -- the arguments are looked at first, then the names, then the place, then the buffer
  pub argument : call_of (called_from 7) (file_core 11 (counted 3 8) 11 5) (name_of (codes "RDFILE")) ≡ Err (Outside 10)
  pub names : call_of (called_from 2) (file_core 9 (counted 3 8) 11 5) (name_of (codes "RDFILE")) ≡ Err (Outside 10)
  pub place : call_of (called_from 2) (file_core 6 (counted 3 8) 11 5) (name_of (codes "RDFILE")) ≡ Err (Outside 11)
  pub buffer : call_of (called_from 2) (file_core 6 (counted 3 8) 8 5) (name_of (codes "RDFILE")) ≡ Err (Outside 8)
  pub second : call_of (called_from 2) (file_core 6 12 0 5) (name_of (codes "RENAME")) ≡ Err (Outside 12)

pub record RowOfCommonCalls : Type 0 where
  pub stat : call_of (called_from 2) (file_core 6 0 0 5) (name_of (codes "CFSTAT")) ≡ Ok (Common (common.Stat (pair 21 22)))
  pub delete : call_of (called_from 2) (file_core 7 0 0 5) (name_of (codes "CDELET")) ≡ Ok (Common (common.Delete (pair 22 5)))
  pub read : call_of (called_from 2) (file_core 6 (counted 2 8) 8 5) (name_of (codes "CRDFIL")) ≡ Ok (Common (common.Read (pair 21 22) 8 2 5))
  pub written : call_of (called_from 2) (file_core 6 (counted 10 0) 8 0) (name_of (codes "CWRFIL")) ≡ Ok (Common (common.Write (pair 21 22) 0 10 0))
  -- an address outside comes before the number of words
  pub buffer : call_of (called_from 2) (file_core 6 (counted 433 0) 8 5) (name_of (codes "CRDFIL")) ≡ Err (Outside 0)
  pub unknown : call_of (called_from 2) (file_core 6 0 0 5) (name_of (codes "CRENAM")) ≡ Err NoSuchEntry

pub record RowOfLines : Type 0 where
  pub padded : words_of_line 2 (codes "HELLO") ≡ name_of (codes "HELLO ") ∷ name_of (codes "      ") ∷ []
  pub cut : words_of_line 1 (codes "HELLO THERE") ≡ name_of (codes "HELLO ") ∷ []
  pub line : line_of_words (name_of (codes "HELLO ") ∷ name_of (codes "THERE") ∷ []) ≡ codes "HELLO THERE"
  -- a word of zeros prints as zeros
  pub zeros : line_of_words (0 ∷ []) ≡ codes "000000"
  -- 14 words a line, and a last line of what is left
  pub lines : lines_of_words (replicate 14 (name_of (codes "A")) ++ name_of (codes "HELLO") ∷ []) ≡ line_of_words (replicate 14 (name_of (codes "A"))) ∷ codes "HELLO" ∷ []
  pub no_lines : lines_of_words [] ≡ []
  pub part : words_at (1 ∷ 2 ∷ 3 ∷ 4 ∷ []) 1 2 ≡ 2 ∷ 3 ∷ []
  pub within : with_words (1 ∷ 2 ∷ 3 ∷ 4 ∷ []) 1 (8 ∷ 9 ∷ []) ≡ 1 ∷ 8 ∷ 9 ∷ 4 ∷ []

abbrev pub deck : ℕ → ℕ → Deck
deck start blocks = record { start = start; blocks = blocks }

pub record RowOfDecks : Type 0 where
  -- one block, start at 8, two words at 8
  pub deck_is : deck_in 8 (counted 8 1 ∷ counted 2 8 ∷ 5 ∷ 6 ∷ []) ≡ Ok (deck 8 1)
  pub absent : deck_of 8 (Err refusal.NoFile) ≡ Err NoFile
  pub empty : deck_in 8 [] ≡ Err BadDeck
  pub no_blocks : deck_in 8 (counted 8 0 ∷ []) ≡ Err BadDeck
  pub start : deck_in 8 (counted 256 1 ∷ []) ≡ Err BadDeck
  pub short : deck_in 8 (counted 8 1 ∷ counted 2 8 ∷ 5 ∷ []) ≡ Err BadDeck
  pub none : deck_in 8 (counted 8 1 ∷ counted 0 8 ∷ []) ≡ Err BadDeck
  pub past : deck_in 8 (counted 8 1 ∷ counted 2 255 ∷ 5 ∷ 6 ∷ []) ≡ Err BadDeck
  pub at_end : deck_in 8 (counted 8 1 ∷ counted 1 255 ∷ 5 ∷ []) ≡ Ok (deck 8 1)
  pub large : deck_in 1 (counted 8 2 ∷ []) ≡ Err TooLarge
  pub larger : deck_in 128 (counted 8 129 ∷ []) ≡ Err BadDeck
  pub filled_is : filled (counted 2 1 ∷ counted 2 1 ∷ 5 ∷ 6 ∷ counted 1 0 ∷ 7 ∷ []) (0 ∷ 0 ∷ 0 ∷ 0 ∷ []) ≡ 7 ∷ 5 ∷ 6 ∷ 0 ∷ []

-- registers that differ from each other
abbrev pub some_registers : Regs
some_registers =
    record {
      ac = record { negative = true; magnitude = 2 ^ 36 + 5 };
      mq = 2 ^ 35 + 6;
      si = 7;
      ic = 9;
      overflow = true;
      divide_check = false;
      index = 11 ∷ 12 ∷ 13 ∷ 14 ∷ 15 ∷ 16 ∷ 17 ∷ [];
    }

pub record RowOfSaved : Type 0 where
  pub head : head_of 1 some_registers ≡ 1 ∷ (2 ^ 35 + 5) ∷ 2 ∷ (2 ^ 35 + 6) ∷ 7 ∷ 11 ∷ 12 ∷ 13 ∷ 14 ∷ 15 ∷ 16 ∷ 17 ∷ 9 ∷ 1 ∷ 0 ∷ 0 ∷ []
  pub back : regs_in (saved 1 some_registers (replicate 256 0)) ≡ some_registers
  pub size : saved_in 1 (saved 1 some_registers (replicate 256 0)) ≡ Ok 1
  pub large : saved_in 1 (saved 2 some_registers (replicate 512 0)) ≡ Err TooLarge
  pub short : saved_in 1 (saved 1 some_registers (replicate 255 0)) ≡ Err BadDeck
  pub none : saved_in 1 (saved 0 some_registers []) ≡ Err BadDeck
  pub minus : saved_in 128 ((2 ^ 35 + 1) ∷ replicate 271 0) ≡ Err BadDeck
  pub empty : saved_in 1 [] ≡ Err BadDeck
  pub absent : saved_of 1 (Err refusal.NoFile) ≡ Err NoFile
  pub lines : register_lines some_registers
      ≡ codes "IC 00011 AC -1000000000005 MQ 400000000006" ∷ codes "SI 000000000007 OV 1 DC 0" ∷ codes "XR 00013 00014 00015 00016 00017 00020 00021" ∷ []
  pub word : word_line (5 ∷ 6 ∷ []) 1 ≡ codes "00001 000000000006"
  pub outside : word_line (5 ∷ 6 ∷ []) 2 ≡ codes "PROTECTION"

-- what lines ask of the debugger
pub record RowOfDebugLines : Type 0 where
  pub break_at : debug_of (codes "BREAK 4") ≡ debug.Break 4
  pub clear : debug_of (codes " CLEAR  77777") ≡ debug.Clear 32767
  pub long_place : debug_of (codes "BREAK 000004") ≡ debug.Bad
  pub no_octal : debug_of (codes "LOOK 8") ≡ debug.Bad
  pub no_place : debug_of (codes "LOOK") ≡ debug.Bad
  pub go : debug_of (codes "GO") ≡ debug.Go
  pub go_on : debug_of (codes "GO ON") ≡ debug.Bad
  pub registers : debug_of (codes "REGS") ≡ debug.Regs
  pub set : debug_of (codes "SET 10 302543432160") ≡ debug.Set 8 0o302543432160
  pub long_word : debug_of (codes "SET 10 0302543432160") ≡ debug.Bad
  pub over : debug_of (codes "END") ≡ debug.End
  pub empty : debug_of [] ≡ debug.End
  pub command : debug_of (codes "LISTF") ≡ debug.Bad

-- lines with two arguments in them
pub record RowOfCommandLines : Type 0 where
  pub both : lines_with (codes "DELETE $1 $2" ∷ codes "LISTF" ∷ []) (codes "A" ∷ codes "B" ∷ []) 2 ≡ Ok (codes "DELETE A B" ∷ codes "LISTF" ∷ [])
  pub blanks : lines_with (codes "  $2  $1 END" ∷ []) (codes "A" ∷ codes "B" ∷ []) 2 ≡ Ok (codes "  B  A END" ∷ [])
  pub inside : lines_with (codes "$1$2 A$1 $0 $10 $" ∷ []) (codes "A" ∷ codes "B" ∷ []) 2 ≡ Ok (codes "$1$2 A$1 $0 $10 $" ∷ [])
  pub none : lines_with (codes "$3" ∷ []) (codes "A" ∷ codes "B" ∷ []) 0 ≡ Err refusal_of.BadArguments
  pub many : lines_with (codes "$1" ∷ [] ∷ []) (codes "A" ∷ codes "B" ∷ []) 1 ≡ Err refusal_of.TooLong
  pub long : lines_with ((codes "$1 " ++ replicate 83 65) ∷ []) (codes "A" ∷ []) 1 ≡ Err refusal_of.TooLong
