-- claim: what is round the users: the queues, the loads, the logins, the common files.
use Rattle.std.specs.Prelude.{ℕ, suc, if◌then◌else◌, ◌&&◌, nat_eq, List, [], ◌∷◌, Option, Some, None, bytes_eq, codes}
use Rattle.ctss_types.specs.declared.script.Account.{Account}
use Rattle.ctss_types.specs.declared.file.FileBody.{FileBody}
use Rattle.ctss_types.specs.Words.{words_of}
use Rattle.time_sharing.specs.Machine.{Line}
use Rattle.time_sharing.specs.Rows.{some_line}
use Rattle.time_sharing.specs.System.{World, Cause, Time, Wait, Stop, Size, Preempt, AtEnd}
use Rattle.file_model.specs.Commons.{reply_to, files_after}
use Rattle.user_model.specs.Inner.{blocks_of}
use Rattle.user_model.specs.Session.{nobody, works_in}
use Rattle.user_model.specs.Requests.{word_name}
use Rattle.user_model.specs.User.{User}
use Rattle.plan_model.specs.Levels.{Levels, chosen, user_of, level_in, has_time, charged, dropped, woken, entered, entered_again, command_blocks, preempted, riser, goes_up, risen, sum_of_levels}
use Rattle.plan_model.specs.Plan.{Plan, must_load, with_load, move_of, places_after, places_cut}

-- where a user goes whose service has ended; at the end of its time it has sunk already
abbrev pub leaves : Levels → ℕ → Cause → User → (now : ℕ) → Levels
leaves q u Time p now = q
leaves q u Wait p now = dropped u q
leaves q u Stop p now = entered_again (some_line p.unread) u now (dropped u q)
leaves q u Size p now = entered (blocks_of p.inner) u now (dropped u q)
leaves q u Preempt p now = q
leaves q u AtEnd p now = q

-- as how many blocks a user enters that gets a line: as a command's, or as its program's where that works
abbrev pub line_blocks : User → ℕ
line_blocks p = if works_in p.inner.state then blocks_of p.inner else command_blocks

-- the name that LOGIN and a name, just these two words, ask for
abbrev pub asked_by : List Line → Option ℕ
asked_by [] = None
asked_by (w ∷ []) = None
asked_by (w ∷ name ∷ []) = if bytes_eq w (codes "LOGIN") then word_name name else None
asked_by (w ∷ name ∷ x ∷ ws) = None

unfoldable pub asked : Line → Option ℕ
asked l = asked_by (words_of l)

-- the first account of this name and password, numbered from k on
abbrev pub account_in : ℕ → List Account → ℕ → ℕ → Option ℕ
account_in k [] name password = None
account_in k (a ∷ accounts) name password =
    if nat_eq a.name name && nat_eq a.password password then Some k else account_in (suc k) accounts name password

abbrev pub account_with : List Account → ℕ → Option ℕ → Option ℕ
account_with accounts name None = None
account_with accounts name (Some password) = account_in 1 accounts name password

-- a password is a line of just one word
abbrev pub password_by : List Line → Option ℕ
password_by [] = None
password_by (w ∷ []) = word_name w
password_by (w ∷ x ∷ ws) = None

unfoldable pub check : List Account → ℕ → Line → Option ℕ
check accounts name l = account_with accounts name (password_by (words_of l))

-- the queues, the blocks in core and on the drum, a move of which costs so many ticks a block, the common files, which take at most
-- so many tracks, and the accounts
abbrev pub world_with : (swap common : ℕ) → List Account → World User Plan (List FileBody)
world_with swap common accounts =
    record {
      choose = λ q. user_of (chosen q.levels);
      level = λ q u. level_in (chosen q.levels);
      time_left = λ q u. has_time q.levels;
      rises = λ q served now. goes_up (riser served now q.levels);
      must_load = λ q u p. must_load q u (blocks_of p.inner);
      load = λ q u p now. with_load q u (blocks_of p.inner);
      move = λ q u p. move_of swap q.places u (blocks_of p.inner);
      sum_of_levels = λ q. sum_of_levels q.levels;
      risen = λ q u l now. record q { levels = risen u l now q.levels };
      charged = λ q u now. record q { levels = charged u now q.levels };
      preempted = λ q u now. record q { levels = preempted u now q.levels };
      leaves = λ q u cause p now. record q { levels = leaves q.levels u cause p now };
      gave_up = λ q u p ending now. record q { places = places_after ending u (blocks_of p.inner) q.places };
      line_came = λ q u was p now. record q { levels = woken (line_blocks was) u now q.levels };
      cut_came = λ q u kind p now. record q { levels = dropped u q.levels; places = places_cut kind u q.places };
      files_after = λ f op. files_after common f op;
      reply_to = λ f op. reply_to common f op;
      asked = asked;
      check = check accounts;
      nobody = nobody;
    }
