-- claim: worked rows: the cards of a script, and the lines of a record's report.
use Rattle.std.specs.Prelude.{◌≡◌, ℕ, ◌+◌, true, List, [], ◌∷◌, ◌++◌, length, map, get_or, codes, replicate, Some, None, Ok, Err}
use Rattle.std.specs.declared.result.Result.{Result}
use Rattle.std.specs.List.{flat_map}
use Rattle.ctss_types.specs.Words.{name_of}
use Rattle.ctss_types.specs.Params.{params_of}
use Rattle.ctss_types.specs.declared.script.Script.{Script}
use Rattle.ctss_types.specs.declared.script.Event.TheVariants as event
use Rattle.ctss_types.specs.declared.file.OwnedFile.{OwnedFile}
use Rattle.ctss_types.specs.declared.history.Item.TheVariants as item
use Rattle.ctss_types.specs.declared.history.EventKind.TheVariants as kind
use Rattle.ctss_types.specs.declared.history.Cause.TheVariants as cause
use Rattle.ctss_types.specs.declared.history.Entry.TheVariants.{Taken, Login, Idle, Serve, Clock, Swap}
use Rattle.text_model.specs.Parts.{line}
use Rattle.text_model.specs.declared.cause.ScriptCause.{ScriptCause}
use Rattle.text_model.specs.declared.cause.ScriptCause.TheVariants.{NotACard, TimeFalls, UnknownNumber, OverLimit, DrumSmall, DiskSmall, NoEnd}
use Rattle.text_model.specs.declared.cause.ScriptRefusal.{ScriptRefusal}
use Rattle.text_model.specs.declared.mode.Mode.TheVariants.{Replay, Dump, Load, Asm, Serve}
use Rattle.text_model.specs.Drafts.{Draft, with_words}
use Rattle.text_model.specs.Reading.{script_of}
use Rattle.text_model.specs.Words.{mode_of}
use Rattle.text_model.specs.Canonical.{script_text_of}
use Rattle.text_model.specs.Report.{report_of}
use Rattle.text_model.specs.Made.{made_script}
use Rattle.text_model.specs.Summary.{summary_of}

abbrev pub text_of : List (List ℕ) → List ℕ
text_of lines = flat_map line lines

abbrev pub small_script : Script
small_script =
    record {
      params = params_of (1024 ∷ 100 ∷ 10 ∷ 8 ∷ 20 ∷ 5 ∷ []);
      accounts = record { name = name_of (codes "ALFA"); password = name_of (codes "SESAME"); blocks = 8; tracks = 10 } ∷ [];
      files = [];
      events = record { tick = 0; console = 1; event = event.Dial } ∷ record { tick = 20; console = 32; event = event.Line (codes "LOGIN ALFA") }
          ∷ record { tick = 20; console = 1; event = event.Line [] } ∷ record { tick = 21; console = 1; event = event.Quit } ∷ record { tick = 21; console = 1; event = event.Hang } ∷ [];
      end = 100;
    }

abbrev pub small_text : List ℕ
small_text =
    text_of (codes "PARAM 1024 100 10 8 20 5" ∷ codes "USER 1 ALFA SESAME 8 10" ∷ codes "AT 0 1 DIAL" ∷ codes "AT 20 32 LINE LOGIN ALFA"
    ∷ codes "AT 20 1 LINE" ∷ codes "AT 21 1 QUIT" ∷ codes "AT 21 1 HANG" ∷ codes "END 100" ∷ [])

-- the same cards as people may write them
abbrev pub loose_text : List ℕ
loose_text =
    codes "* a script" ++ 10 ∷ codes "PARAM  01024 100 10 8 20  5  " ++ 13 ∷ 10 ∷ codes "USER 1 ALFA SESAME 8 10" ++ 10 ∷ 10 ∷ codes "   " ++ 10 ∷ codes "AT 0 1 DIAL " ++ 10 ∷ []
    ++ (codes "AT 20  032 LINE LOGIN ALFA  " ++ 13 ∷ 10 ∷ codes "AT 20 1 LINE " ++ 10 ∷ codes "AT 21 1 QUIT" ++ 10 ∷ codes "* a hang" ++ 255 ∷ 10 ∷ codes "AT 21 1 HANG" ++ 10 ∷ codes "END 000000100" ++ 10 ∷ codes "*")

-- its canonical text, and the script of that text and of a loose one
pub record RowOfScript : Type 0 where
  pub written : script_text_of small_script ≡ small_text
  pub read : script_of small_text ≡ Ok small_script
  pub loose : script_of loose_text ≡ Ok small_script

abbrev pub refused : ℕ → ScriptCause → Result Script ScriptRefusal
refused card cause = Err (record { card = card; cause = cause })

-- cards behind an account of eight blocks and ten tracks, all that the drum and half of what the disk has
abbrev pub behind_head : List (List ℕ) → Result Script ScriptRefusal
behind_head cards = script_of (text_of (codes "PARAM 1024 100 10 8 20 5" ∷ codes "USER 1 ALFA SESAME 8 10" ∷ cards))

abbrev pub letters : ℕ → List ℕ
letters n = replicate n 65

-- each cause, at its card
pub record RowOfRefusals : Type 0 where
  pub form : behind_head (codes "FILE 1 HEL" ∷ []) ≡ refused 3 NotACard
  pub falls : behind_head (codes "AT 0 1 DIAL" ∷ codes "AT 20 1 QUIT" ∷ codes "AT 19 1 QUIT" ∷ []) ≡ refused 5 TimeFalls
  pub unknown : behind_head (codes "FILE 2 A B 1" ∷ []) ≡ refused 3 UnknownNumber
  pub limit : behind_head (codes "END 100000001" ∷ []) ≡ refused 3 OverLimit
  pub drum : behind_head (codes "USER 2 BETA X 1 1" ∷ []) ≡ refused 3 DrumSmall
  pub disk : script_of (text_of (codes "PARAM 1024 100 10 9 20 5" ∷ codes "USER 1 ALFA SESAME 8 10" ∷ codes "USER 2 BETA X 1 6" ∷ [])) ≡ refused 3 DiskSmall
  pub no_end : behind_head [] ≡ refused 3 NoEnd
  pub behind_end : behind_head (codes "END 5" ∷ codes "* a comment" ∷ codes "END 5" ∷ []) ≡ refused 5 NoEnd
  pub no_cards : script_of (codes "*") ≡ refused 2 NoEnd
  pub no_params : script_of (codes "USER 1 ALFA SESAME 8 10") ≡ refused 1 NotACard
  pub common : script_of (codes "PARAM 1024 100 10 8 20 21") ≡ refused 1 DiskSmall
  pub end_falls : behind_head (codes "AT 7 1 DIAL" ∷ codes "END 6" ∷ []) ≡ refused 4 TimeFalls
  -- the first cause in their order
  pub name_first : behind_head (codes "USER 31 ALFA X 129 1" ∷ []) ≡ refused 3 NotACard
  pub limit_first : behind_head (codes "USER 31 BETA X 1 1" ∷ []) ≡ refused 3 OverLimit
  pub number_first : behind_head (codes "USER 5 BETA X 1 1" ∷ []) ≡ refused 3 UnknownNumber
  pub owner_first : behind_head (codes "FILE 31 A B 1" ∷ []) ≡ refused 3 OverLimit
  pub text_first : behind_head (codes "AT 9 1 DIAL" ∷ (codes "AT 8 1 LINE " ++ letters 85) ∷ []) ≡ refused 4 OverLimit
  pub character_first : behind_head ((codes "AT 9 33 LINE " ++ letters 85 ++ 97 ∷ []) ∷ []) ≡ refused 3 NotACard
  -- forms
  pub indented : behind_head (codes " END 5" ∷ []) ≡ refused 3 NotACard
  pub ten_digits : behind_head (codes "END 0000000005" ∷ []) ≡ refused 3 NotACard
  pub seven_letters : behind_head (codes "USER 2 ALFALFA X 1 1" ∷ []) ≡ refused 3 NotACard
  pub param_twice : behind_head (codes "PARAM 1024 100 10 8 20 5" ∷ []) ≡ refused 3 NotACard
  pub letters_are_capitals : behind_head (codes "end 5" ∷ []) ≡ refused 3 NotACard

-- a file X of a second name
abbrev pub file : ℕ → List ℕ → ℕ → List ℕ → OwnedFile
file owner second mode words = record { owner = owner; body = record { name = record { first = name_of (codes "X"); second = name_of second }; mode = mode; words = words } }

-- a script with a file of six words
abbrev pub script_with_file : Script
script_with_file =
    record {
      params = params_of (1 ∷ 1 ∷ 0 ∷ 1 ∷ 1 ∷ 0 ∷ []);
      accounts = record { name = name_of (codes "A"); password = name_of (codes "B"); blocks = 1; tracks = 1 } ∷ [];
      files = file 1 (codes "Y") 1 (1 ∷ 2 ∷ 3 ∷ 4 ∷ 5 ∷ 8 ∷ []) ∷ [];
      events = [];
      end = 0;
    }

abbrev pub text_with_file : List ℕ
text_with_file =
    text_of (codes "PARAM 1 1 0 1 1 0" ∷ codes "USER 1 A B 1 1" ∷ codes "FILE 1 X Y 1"
    ∷ codes "O 000000000001 000000000002 000000000003 000000000004 000000000005" ∷ codes "O 000000000010" ∷ codes "END 0" ∷ [])

-- cards behind an account of two tracks
abbrev pub behind_account : List (List ℕ) → Result Script ScriptRefusal
behind_account cards = script_of (text_of (codes "PARAM 1 1 0 9 9 0" ∷ codes "USER 1 A B 1 2" ∷ cards))

abbrev pub files_in : Result Script ScriptRefusal → List OwnedFile
files_in (Ok s) = s.files
files_in (Err r) = []

-- the two ways of a file; two accounts with files of the same names, where words belong to the last file; and a text as words
pub record RowOfFile : Type 0 where
  pub written : script_text_of script_with_file ≡ text_with_file
  pub read : script_of text_with_file ≡ Ok script_with_file
  pub apart :
      files_in
      (behind_account (codes "USER 2 C D 1 1" ∷ codes "FILE 1 X Y 0" ∷ codes "FILE 2 X Y 3" ∷ codes "FILE 1 X Z 1" ∷ codes "O 777777777777 1 2 3 4" ∷ codes "END 0" ∷ []))
      ≡ file 1 (codes "Y") 0 [] ∷ file 2 (codes "Y") 3 [] ∷ file 1 (codes "Z") 1 (0o777777777777 ∷ 1 ∷ 2 ∷ 3 ∷ 4 ∷ []) ∷ []
  pub text : files_in (behind_account (codes "FILE 1 X Y 1" ∷ codes "T HI" ∷ codes "END 0" ∷ [])) ≡ file 1 (codes "Y") 1 (0o303160606060 ∷ replicate 13 0o606060606060) ∷ []
  pub blank_text : files_in (behind_account (codes "FILE 1 X Y 1" ∷ codes "T" ∷ codes "END 0" ∷ [])) ≡ file 1 (codes "Y") 1 (replicate 14 0o606060606060) ∷ []
  pub second_blank : files_in (behind_account (codes "FILE 1 X Y 1" ∷ codes "T  HI" ∷ codes "END 0" ∷ [])) ≡ file 1 (codes "Y") 1 (0o603031606060 ∷ replicate 13 0o606060606060) ∷ []

-- files that the cards before them don't allow, and O and T cards that aren't one
pub record RowOfFileRefusals : Type 0 where
  pub twice : behind_account (codes "FILE 1 X Y 1" ∷ codes "FILE 1 X Y 0" ∷ []) ≡ refused 4 NotACard
  pub mode : behind_account (codes "FILE 1 X Y 4" ∷ []) ≡ refused 3 OverLimit
  pub no_room : script_of (text_of (codes "PARAM 1 1 0 9 9 0" ∷ codes "USER 1 A B 1 0" ∷ codes "FILE 1 X Y 1" ∷ [])) ≡ refused 3 OverLimit
  pub user_behind : behind_account (codes "FILE 1 X Y 1" ∷ codes "USER 2 C D 1 1" ∷ []) ≡ refused 4 NotACard
  pub file_behind : behind_account (codes "AT 0 1 DIAL" ∷ codes "FILE 1 X Y 1" ∷ []) ≡ refused 4 NotACard
  pub words_behind : behind_account (codes "FILE 1 X Y 1" ∷ codes "AT 0 1 DIAL" ∷ codes "O 1" ∷ []) ≡ refused 5 NotACard
  pub text_behind : behind_account (codes "FILE 1 X Y 1" ∷ codes "AT 0 1 DIAL" ∷ (codes "T " ++ letters 85) ∷ []) ≡ refused 5 NotACard
  pub no_file : behind_account (codes "O 1" ∷ []) ≡ refused 3 NotACard
  pub no_words : behind_account (codes "FILE 1 X Y 1" ∷ codes "O" ∷ []) ≡ refused 4 NotACard
  pub six_words : behind_account (codes "FILE 1 X Y 1" ∷ codes "O 1 2 3 4 5 6" ∷ []) ≡ refused 4 NotACard
  pub digit : behind_account (codes "FILE 1 X Y 1" ∷ codes "O 8" ∷ []) ≡ refused 4 NotACard
  pub digits : behind_account (codes "FILE 1 X Y 1" ∷ codes "O 0000000000001" ∷ []) ≡ refused 4 NotACard
  pub long_text : behind_account (codes "FILE 1 X Y 1" ∷ (codes "T " ++ letters 85) ∷ []) ≡ refused 4 OverLimit

-- an account of one track, and its file
abbrev pub draft_with_words : List ℕ → Draft
draft_with_words words =
    record {
      params = None;
      accounts = record { name = 1; password = 1; blocks = 1; tracks = 1 } ∷ [];
      blocks = 1;
      tracks = 1;
      files = [];
      file = Some (file 1 (codes "Y") 1 words);
      events = [];
      tick = 0;
      end = None;
    }

-- a track takes 432 words, and not one more
pub record RowOfTrack : Type 0 where
  pub last : with_words (draft_with_words (replicate 431 0)) (7 ∷ []) ≡ Ok (draft_with_words (replicate 431 0 ++ 7 ∷ []))
  pub more : with_words (draft_with_words (replicate 432 0)) (7 ∷ []) ≡ Err OverLimit

-- words that are lawful, and some that are not
pub record RowOfModes : Type 0 where
  pub replay : mode_of (codes "replay" ∷ []) ≡ Some Replay
  pub dump : mode_of (codes "dump" ∷ []) ≡ Some Dump
  pub asm : mode_of (codes "asm" ∷ []) ≡ Some Asm
  pub load : mode_of (codes "load" ∷ codes "000000042" ∷ []) ≡ Some (Load 42)
  pub most : mode_of (codes "load" ∷ codes "999999" ∷ []) ≡ Some (Load 999999)
  pub more : mode_of (codes "load" ∷ codes "1000000" ∷ []) ≡ None
  pub bare_load : mode_of (codes "load" ∷ []) ≡ None
  pub number : mode_of (codes "replay" ∷ codes "1" ∷ []) ≡ None
  pub option : mode_of (codes "--help" ∷ []) ≡ None
  pub dashes : mode_of (codes "--" ∷ codes "replay" ∷ []) ≡ None
  pub negative : mode_of (codes "load" ∷ codes "-1" ∷ []) ≡ None
  pub nothing : mode_of [] ≡ None
  pub three : mode_of (codes "load" ∷ codes "1" ∷ codes "2" ∷ []) ≡ None

-- the words of `serve`
pub record RowOfServing : Type 0 where
  pub behind : mode_of (codes "serve" ∷ codes "--port" ∷ codes "7094" ∷ codes "--turns" ∷ codes "2" ∷ []) ≡ Some (Serve 7094 2)
  pub other_order : mode_of (codes "serve" ∷ codes "--turns" ∷ codes "2" ∷ codes "--port" ∷ codes "7094" ∷ []) ≡ Some (Serve 7094 2)
  pub before : mode_of (codes "--port=65535" ∷ codes "--turns" ∷ codes "0" ∷ codes "serve" ∷ []) ≡ Some (Serve 65535 0)
  pub around : mode_of (codes "--turns=100000" ∷ codes "serve" ∷ codes "--port=1" ∷ []) ≡ Some (Serve 1 100000)
  pub no_turns : mode_of (codes "serve" ∷ codes "--port" ∷ codes "7094" ∷ []) ≡ None
  pub no_port : mode_of (codes "serve" ∷ codes "--turns=2" ∷ []) ≡ None
  pub twice : mode_of (codes "serve" ∷ codes "--port=1" ∷ codes "--turns=2" ∷ codes "--port=1" ∷ []) ≡ None
  pub port_0 : mode_of (codes "serve" ∷ codes "--port=0" ∷ codes "--turns=2" ∷ []) ≡ None
  pub port_more : mode_of (codes "serve" ∷ codes "--port=65536" ∷ codes "--turns=2" ∷ []) ≡ None
  pub turns_more : mode_of (codes "serve" ∷ codes "--port=1" ∷ codes "--turns=100001" ∷ []) ≡ None
  pub no_value : mode_of (codes "serve" ∷ codes "--turns=2" ∷ codes "--port" ∷ []) ≡ None
  pub empty_value : mode_of (codes "serve" ∷ codes "--turns=2" ∷ codes "--port=" ∷ []) ≡ None
  pub option_as_value : mode_of (codes "serve" ∷ codes "--port" ∷ codes "--turns" ∷ codes "2" ∷ []) ≡ None
  pub other_option : mode_of (codes "serve" ∷ codes "--port=1" ∷ codes "--turns=2" ∷ codes "-v" ∷ []) ≡ None
  pub part_of_option : mode_of (codes "serve" ∷ codes "--por=1" ∷ codes "--turns=2" ∷ []) ≡ None
  pub one_more : mode_of (codes "serve" ∷ codes "now" ∷ codes "--port=1" ∷ codes "--turns=2" ∷ []) ≡ None
  pub for_another : mode_of (codes "replay" ∷ codes "--port=1" ∷ codes "--turns=2" ∷ []) ≡ None
  pub bare : mode_of (codes "serve" ∷ []) ≡ None

abbrev pub RowOfReport : Type 0
RowOfReport =
    report_of small_script
    (record {
      entries = Taken 0 1 kind.Dial 0 0 ∷ Login 0 1 1 ∷ Idle 0 20 ∷ Swap 20 1 2 3 4 ∷ Clock 20 1 ∷ Serve 20 1 5 1 cause.Stop ∷ [];
      transcripts = (item.Out (codes "ALFA LOGGED IN") ∷ item.In [] ∷ item.Quit ∷ item.Hang ∷ []) ∷ [];
      files = (record { name = record { first = name_of (codes "HELLO"); second = name_of (codes "BSS") }; mode = 1; words = 1 ∷ 2 ∷ 3 ∷ 4 ∷ 5 ∷ 8 ∷ [] } ∷ []) ∷ [];
      common = [];
      clock = 100;
    }) true
    ≡ text_of (codes "USER 1 ALFA" ∷ codes "O ALFA LOGGED IN" ∷ codes "I" ∷ codes "Q" ∷ codes "H" ∷ codes "FILES 1 ALFA" ∷ codes "HELLO  BSS    1       6"
    ∷ codes "O 000000000001 000000000002 000000000003 000000000004 000000000005" ∷ codes "O 000000000010" ∷ codes "COMMON" ∷ codes "SCHEDULE"
    ∷ codes "TAKEN 0 1 DIAL 0 0" ∷ codes "LOGIN 0 1 1" ∷ codes "IDLE 0 20" ∷ codes "SWAP 20 1 2 3 4" ∷ codes "CLOCK 20 1" ∷ codes "SERVE 20 1 5 1 STOP" ∷ codes "END 100" ∷ [])

-- the users of a made script, the blocks of their programs, and what the programs count down from
pub record RowOfMade : Type 0 where
  pub users : length (made_script 0).accounts ≡ 4
  pub most_users : length (made_script 26).accounts ≡ 30
  pub blocks : map (λ (f : OwnedFile). get_or f.body.words 0 0) (made_script 0).files ≡ 15 ∷ 13 ∷ 3 ∷ 15 ∷ []
  pub counts : map (λ (f : OwnedFile). get_or f.body.words 2 0) (made_script 0).files
      ≡ (0o077400100000 + 356) ∷ (0o077400100000 + 869) ∷ (0o077400100000 + 850) ∷ (0o077400100000 + 1045) ∷ []
  pub events : length (made_script 0).events ≡ 24

abbrev pub RowOfSummary : Type 0
RowOfSummary =
    summary_of 7 small_script
    (record {
      entries = Swap 20 1 2 3 4 ∷ Serve 20 1 5 4 cause.Wait ∷ Swap 30 1 1 0 0 ∷ Serve 30 1 5 1 cause.Stop ∷ [];
      transcripts = (item.Out (codes "ALFA LOGGED IN") ∷ item.Quit ∷ []) ∷ (item.Hang ∷ []) ∷ [];
      files = [];
      common = [];
      clock = 100;
    })
    ≡ text_of (codes "LOAD 7" ∷ codes "USERS 1" ∷ codes "ITEMS 3" ∷ codes "SERVES 2" ∷ codes "SWAPS 2" ∷ codes "DUMPED 3" ∷ codes "READ 3"
    ∷ codes "STEPS 4" ∷ codes "END 100" ∷ [])
