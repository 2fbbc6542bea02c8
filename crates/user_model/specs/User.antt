-- claim: one user's machine, closed: what contracts cite.
use Rattle.std.specs.Prelude.{◌≡◌, ℕ, Bool, true, false, not, ◌&&◌, List, [], Option}
use Rattle.time_sharing.specs.Machine.{Line, CutKind, Ending, Went, Stopped, Resized, Replaced, LoggedOut, CommonOp, Reply}
use Rattle.time_sharing.specs.Rows.{Private, machine, line_of}
use Rattle.time_sharing.specs.System.{clock_for}
use Rattle.file_model.specs.Files.{lasting}
use Rattle.user_model.specs.Inner.{Inner, Stored, zeros, recut}
use Rattle.user_model.specs.Debugger.{is_debugged, line_stores}
use Rattle.user_model.specs.Session.{user_rows, works_in}

abbrev pub User : Type 0
User = Private Inner

-- a line at the end of the unread ones
unfoldable pub typed : Line → User → User
typed l p = (machine user_rows).typed p l

unfoldable pub opened : User → User
opened p = (machine user_rows).opened p

unfoldable pub cut : CutKind → User → User
cut kind p = (machine user_rows).cut kind p

unfoldable pub can_step : User → Bool
can_step p = (machine user_rows).can_step p

unfoldable pub asks_clock : User → Bool
asks_clock p = (machine user_rows).asks_clock p

unfoldable pub asks_common : User → Option CommonOp
asks_common p = (machine user_rows).asks_common p

-- a step with the clock at t and this reply, where one can be done
unfoldable pub step : ℕ → Reply → User → User
step t r p = (machine user_rows).step p (clock_for ((machine user_rows).asks_clock p) t) r

unfoldable pub ending : ℕ → Reply → User → Ending
ending t r p = (machine user_rows).ending p (clock_for ((machine user_rows).asks_clock p) t) r

-- whether the next step is the debugger's SET
unfoldable pub sets_word : User → Bool
sets_word p = is_debugged p.inner.debugger && not (works_in p.inner.state) && line_stores (line_of user_rows p)

-- the user with what of it lies outside its session
abbrev pub in_store : Stored → User → User
in_store store p = record p { inner = record p.inner { core = store.core; files = store.files } }

-- The words after a step, of which so many blocks are left: a program that was replaced has plus zeros, and a core of
-- another size is cut or extended.
abbrev pub core_after : Ending → ℕ → List ℕ → List ℕ
core_after Replaced blocks core = zeros blocks
core_after Went blocks core = recut blocks core
core_after Stopped blocks core = recut blocks core
core_after Resized blocks core = recut blocks core
core_after LoggedOut blocks core = recut blocks core

-- a session that is over leaves no words, and the files that last
abbrev pub hung : Stored → Stored
hung store = record { core = []; files = lasting store.files }

-- what is stored after a step
abbrev pub store_after : Ending → ℕ → Stored → Stored
store_after e blocks store = record store { core = core_after e blocks store.core }

-- A step that goes on may change the words of the program; any other leaves also those that it gives up as they were.
abbrev pub LeavesWords : Ending → (before after : List ℕ) → Type 0
LeavesWords Went before after = Unit {0}
LeavesWords Stopped before after = after ≡ before
LeavesWords Resized before after = after ≡ before
LeavesWords Replaced before after = after ≡ before
LeavesWords LoggedOut before after = after ≡ before

-- A step that ends so, takes the clock or not, and made this common operation or none, with this reply: of a user with these words
-- and files before it, which is then this user with these words and files.
pub record IsStep (e : Ending) (asked : Bool) (made : Option CommonOp) (t : ℕ) (r : Reply) (old new : User) (before after : Stored) : Type 0 where
  pub can : can_step (in_store before old) ≡ true
  pub left : in_store (store_after e new.inner.blocks after) new ≡ step t r (in_store before old)
  pub ends : e ≡ ending t r (in_store before old)
  pub asks : asked ≡ asks_clock (in_store before old)
  pub makes : made ≡ asks_common (in_store before old)
  -- only a step that goes on, and SET, change the words
  pub words : sets_word (in_store before old) ≡ false → LeavesWords e before.core after.core
