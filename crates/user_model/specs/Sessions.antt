-- claim: worked rows of whole sessions: a program under the debugger, and a command file.
use Rattle.std.specs.Prelude.{◌≡◌, ℕ, List, [], ◌∷◌, ◌++◌, codes}
use Rattle.ctss_types.specs.Words.{name_of}
use Rattle.ctss_types.specs.declared.script.Account.{Account}
use Rattle.ctss_types.specs.declared.file.FileBody.{FileBody}
use Rattle.time_sharing.specs.Machine.{Line, Item, In, Out, Quitted, Quit, End}
use Rattle.time_sharing.specs.Rows.{machine}
use Rattle.time_sharing.specs.Private.{FeedItem, Open, Typed, Cut, alone}
use Rattle.program_model.specs.Lines.{words_of_line}
use Rattle.user_model.specs.Session.{user_rows, first_state}
use Rattle.user_model.specs.User.{User}

abbrev pub alfa : Account
alfa = record { name = name_of (codes "ALFA"); password = name_of (codes "SESAME"); blocks = 8; tracks = 10 }

abbrev pub file_of : Line → Line → List ℕ → FileBody
file_of first second words = record { name = record { first = name_of first; second = name_of second }; mode = 1; words = words }

-- a program that reads a line, writes HELLO and ends
abbrev pub say : FileBody
say =
    file_of (codes "SAY") (codes "BSS")
    (0o000000000001 ∷ 0o000015000000 ∷ 0o007400400005 ∷ 0o000001000011 ∷ 0o007400400006 ∷ 0o000001000010 ∷ 0o007400400007 ∷ 0o010100000012 ∷ 0o010100000013 ∷ 0o010100000014
    ∷ 0o302543434660 ∷ 0o000000000000 ∷ 0o512426436760 ∷ 0o665126436760 ∷ 0o242521246060 ∷ [])

-- a user alone, with these files, over these items and clock answers
abbrev pub session : List FileBody → List FeedItem → List ℕ → User
session files items clocks = (alone (machine user_rows) (first_state alfa files) (record { items = items; clocks = clocks; replies = [] })).state

-- the program is loaded, and a quit stops it as it waits for its line
abbrev pub loaded : List FeedItem → List FeedItem
loaded items = Open 0 ∷ Typed (codes "LOADGO SAY") ∷ Cut 3 Quit ∷ items

abbrev pub loaded_text : List Item → List Item
loaded_text items = Out (codes "ALFA LOGGED IN") ∷ In (codes "LOADGO SAY") ∷ Out (codes "W 0000.0") ∷ Quitted ∷ Out (codes "QUIT,") ∷ Out (codes "R 3") ∷ items

-- a command file of two lines
abbrev pub do_file : FileBody
do_file = file_of (codes "DO") (codes "RUNCOM") (words_of_line 14 (codes "LISTF") ++ words_of_line 14 (codes "DELETE $1 $2"))

abbrev pub other_file : FileBody
other_file = file_of (codes "A") (codes "B") (1 ∷ [])

pub record RowOfSessions : Type 0 where
  -- a breakpoint stops the program before it calls DEAD, and GO lets it go on there
  pub break_at : (session (say ∷ []) (loaded (Typed (codes "FAPDBG") ∷ Typed (codes "BREAK 4") ∷ Typed (codes "GO") ∷ Typed (codes "HI") ∷ Typed (codes "GO") ∷ Cut 13 End ∷ [])) (10 ∷ 510 ∷ [])).transcript
      ≡ loaded_text (In (codes "FAPDBG") ∷ Out (codes "W 0000.0") ∷ In (codes "BREAK 4") ∷ In (codes "GO") ∷ In (codes "HI") ∷ Out (codes "HELLO") ∷ Out (codes "BREAK AT 00004") ∷ Out (codes "R 5")
      ∷ In (codes "GO") ∷ Out (codes "R 3") ∷ [])
  -- another word is stored
  pub set : (session (say ∷ []) (loaded (Typed (codes "FAPDBG") ∷ Typed (codes "SET 10 302543432160") ∷ Typed (codes "GO") ∷ Typed (codes "HI") ∷ Cut 11 End ∷ [])) (10 ∷ 510 ∷ [])).transcript
      ≡ loaded_text (In (codes "FAPDBG") ∷ Out (codes "W 0000.0") ∷ In (codes "SET 10 302543432160") ∷ In (codes "GO") ∷ In (codes "HI") ∷ Out (codes "HELLA") ∷ Out (codes "R 6") ∷ [])
  -- what is refused has no R n, but the end has
  pub refused : (session (say ∷ []) (loaded (Typed (codes "FAPDBG") ∷ Typed (codes "LOOK 400") ∷ Typed (codes "BREAK 400") ∷ Typed (codes "LISTF") ∷ Typed [] ∷ Cut 8 End ∷ [])) (10 ∷ 510 ∷ [])).transcript
      ≡ loaded_text (In (codes "FAPDBG") ∷ Out (codes "W 0000.0") ∷ In (codes "LOOK 400") ∷ Out (codes "PROTECTION") ∷ In (codes "BREAK 400") ∷ Out (codes "PROTECTION") ∷ In (codes "LISTF") ∷ Out (codes "BAD ARGUMENTS")
      ∷ In [] ∷ Out (codes "R 1") ∷ [])
  -- a quit closes the debugger
  pub quit : (session (say ∷ []) (loaded (Typed (codes "FAPDBG") ∷ Cut 4 Quit ∷ Typed (codes "GO") ∷ Cut 5 End ∷ [])) (10 ∷ 510 ∷ 511 ∷ [])).transcript
      ≡ loaded_text (In (codes "FAPDBG") ∷ Out (codes "W 0000.0") ∷ Quitted ∷ Out (codes "QUIT,") ∷ In (codes "GO") ∷ Out (codes "W 0000.0") ∷ Out (codes "NOT A COMMAND") ∷ Out (codes "R 1") ∷ [])
  -- the debugger wants a program
  pub no_program : (session [] (Open 0 ∷ Typed (codes "FAPDBG") ∷ Cut 1 End ∷ []) (20 ∷ [])).transcript
      ≡ Out (codes "ALFA LOGGED IN") ∷ In (codes "FAPDBG") ∷ Out (codes "W 0000.0") ∷ Out (codes "NO PROGRAM") ∷ Out (codes "R 1") ∷ []
  -- the lines of a command file
  pub run : (session (do_file ∷ other_file ∷ []) (Open 0 ∷ Typed (codes "RUNCOM DO A B") ∷ Cut 3 End ∷ []) (20 ∷ 21 ∷ 22 ∷ [])).transcript
      ≡ Out (codes "ALFA LOGGED IN") ∷ In (codes "RUNCOM DO A B") ∷ Out (codes "W 0000.0") ∷ Out (codes "R 1")
      ∷ In (codes "LISTF") ∷ Out (codes "W 0000.0") ∷ Out (codes "DO     RUNCOM 1      28") ∷ Out (codes "A      B      1       1") ∷ Out (codes "2 OF 10 TRACKS") ∷ Out (codes "R 1")
      ∷ In (codes "DELETE A B") ∷ Out (codes "W 0000.0") ∷ Out (codes "R 1") ∷ []
  -- they stand before a line that was typed
  pub before : (session (do_file ∷ other_file ∷ []) (Open 0 ∷ Typed (codes "RUNCOM DO A B") ∷ Typed [] ∷ Cut 4 End ∷ []) (20 ∷ 21 ∷ 22 ∷ 23 ∷ [])).transcript
      ≡ Out (codes "ALFA LOGGED IN") ∷ In (codes "RUNCOM DO A B") ∷ Out (codes "W 0000.0") ∷ Out (codes "R 1")
      ∷ In (codes "LISTF") ∷ Out (codes "W 0000.0") ∷ Out (codes "DO     RUNCOM 1      28") ∷ Out (codes "A      B      1       1") ∷ Out (codes "2 OF 10 TRACKS") ∷ Out (codes "R 1")
      ∷ In (codes "DELETE A B") ∷ Out (codes "W 0000.0") ∷ Out (codes "R 1") ∷ In [] ∷ Out (codes "W 0000.0") ∷ Out (codes "R 1") ∷ []
  pub no_argument : (session (do_file ∷ other_file ∷ []) (Open 0 ∷ Typed (codes "RUNCOM DO A") ∷ Cut 1 End ∷ []) (20 ∷ [])).transcript
      ≡ Out (codes "ALFA LOGGED IN") ∷ In (codes "RUNCOM DO A") ∷ Out (codes "W 0000.0") ∷ Out (codes "BAD ARGUMENTS") ∷ Out (codes "R 1") ∷ []
  pub no_file : (session [] (Open 0 ∷ Typed (codes "RUNCOM DO") ∷ Cut 1 End ∷ []) (20 ∷ [])).transcript
      ≡ Out (codes "ALFA LOGGED IN") ∷ In (codes "RUNCOM DO") ∷ Out (codes "W 0000.0") ∷ Out (codes "FILE NOT FOUND") ∷ Out (codes "R 1") ∷ []
