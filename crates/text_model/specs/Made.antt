-- claim: the script that is made of a number: users with a program that counts down, each of which types the same.
use Rattle.std.specs.Prelude.{ℕ, zero, suc, ◌+◌, ◌*◌, ◌/◌, ◌%◌, ◌^◌, List, [], ◌∷◌, ◌++◌, codes}
use Rattle.std.specs.Fmt.{decimal}
use Rattle.ctss_types.specs.Words.{name_of}
use Rattle.ctss_types.specs.Params.{params_of}
use Rattle.ctss_types.specs.declared.script.Script.{Script}
use Rattle.ctss_types.specs.declared.script.Account.{Account}
use Rattle.ctss_types.specs.declared.script.Timed.{Timed}
use Rattle.ctss_types.specs.declared.script.Event.{Event}
use Rattle.ctss_types.specs.declared.script.Event.TheVariants as event
use Rattle.ctss_types.specs.declared.file.OwnedFile.{OwnedFile}

-- draws: a state behind another, and what it gives
abbrev pub drawn : ℕ → ℕ
drawn x = (1664525 * x + 1013904223) % 2 ^ 32

abbrev pub draw_of : ℕ → ℕ
draw_of x = drawn x / 65536

-- 4 to 30 users
abbrev pub user_count : ℕ → ℕ
user_count n = 4 + n % 27

-- a name of a letter and a number
abbrev pub numbered : List ℕ → ℕ → List ℕ
numbered letter i = letter ++ decimal i

abbrev pub account_at : ℕ → Account
account_at i = record { name = name_of (numbered (codes "U") i); password = name_of (numbered (codes "P") i); blocks = 16; tracks = 5 }

-- so many accounts, numbered from i on
abbrev pub made_accounts : ℕ → ℕ → List Account
made_accounts zero i = []
made_accounts (suc k) i = account_at i ∷ made_accounts k (suc i)

-- a program of so many blocks that counts down from a number, and then writes DONE
abbrev pub made_words : ℕ → ℕ → List ℕ
made_words blocks count =
    blocks ∷ 0o000012000000 ∷ (0o077400100000 + count) ∷ 0o200001100001 ∷ 0o007400400005 ∷ 0o000001000007 ∷ 0o007400400006 ∷ 0o010100000010
    ∷ 0o010100000011 ∷ 0o244645256060 ∷ 0o665126436760 ∷ 0o242521246060 ∷ []

-- the file of user i, by two draws behind x
abbrev pub file_at : ℕ → ℕ → OwnedFile
file_at i x =
    record {
      owner = i;
      body = record {
        name = record { first = name_of (codes "LOOP"); second = name_of (codes "BSS") };
        mode = 1;
        words = made_words (1 + draw_of x % 16) (100 + draw_of (drawn x) % 1000);
      };
    }

-- so many files, of the users from i on, each by two draws more
abbrev pub made_files : ℕ → ℕ → ℕ → List OwnedFile
made_files zero i x = []
made_files (suc k) i x = file_at i x ∷ made_files k (suc i) (drawn (drawn x))

abbrev pub at_console : ℕ → Event → Timed
at_console i e = record { tick = 100 * i; console = i; event = e }

-- user i logs in, runs the program twice and logs out
abbrev pub events_at : ℕ → List Timed
events_at i =
    at_console i event.Dial ∷ at_console i (event.Line (codes "LOGIN " ++ numbered (codes "U") i)) ∷ at_console i (event.Line (numbered (codes "P") i))
    ∷ at_console i (event.Line (codes "LOADGO LOOP")) ∷ at_console i (event.Line (codes "LOADGO LOOP")) ∷ at_console i (event.Line (codes "LOGOUT")) ∷ []

-- so many users do so, from i on
abbrev pub made_events : ℕ → ℕ → List Timed
made_events zero i = []
made_events (suc k) i = events_at i ++ made_events k (suc i)

unfoldable pub made_script : ℕ → Script
made_script n =
    record {
      params = params_of (1024 ∷ 100 ∷ 2 ∷ 480 ∷ 300 ∷ 10 ∷ []);
      accounts = made_accounts (user_count n) 1;
      files = made_files (user_count n) 1 n;
      events = made_events (user_count n) 1;
      end = 1000000;
    }
