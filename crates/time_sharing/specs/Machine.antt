-- claim: one user's machine, seen from outside: any states with these functions.
use Rattle.std.specs.Prelude.{◌≡◌, ◌≢◌, ℕ, suc, Bool, true, List, Option}
pub use Rattle.ctss_types.specs.declared.session.CutKind.{CutKind}
pub use Rattle.ctss_types.specs.declared.session.CutKind.TheVariants.{Quit, Hang, Spent, End}
pub use Rattle.ctss_types.specs.declared.session.Ending.{Ending}
pub use Rattle.ctss_types.specs.declared.session.Ending.TheVariants.{Went, Stopped, Resized, Replaced, LoggedOut}
pub use Rattle.ctss_types.specs.declared.file.CommonOp.{CommonOp}
pub use Rattle.ctss_types.specs.declared.file.Reply.{Reply}
pub use Rattle.ctss_types.specs.declared.file.Reply.TheVariants.{Done}
pub use Rattle.ctss_types.specs.declared.history.Item.{Item}
pub use Rattle.ctss_types.specs.declared.history.Item.TheVariants.{In, Out, Quit as Quitted, Hang as Hung}

-- A line is its characters' codes.
abbrev pub Line : Type 0
Line = List ℕ

pub record Machine (State : Type 0) : Type 0 where
  -- a line is added at the end of the unread ones
  pub typed : State → Line → State
  pub opened : State → State
  pub cut : CutKind → State → State
  -- whether a session is open, and whether a step can be done
  pub is_open : State → Bool
  pub can_step : State → Bool
  -- what the next step asks for
  pub asks_clock : State → Bool
  pub asks_common : State → Option CommonOp
  -- the step, with the clock and the reply
  pub step : State → ℕ → Reply → State
  pub ending : State → ℕ → Reply → Ending
  pub own : State → ℕ
  -- the lines typed since the session was opened, and the transcript; of these no law is asked
  pub lines : State → ℕ
  pub transcript : State → List Item

-- what a machine owes
pub record Laws {State : Type 0} (m : Machine State) : Type 0 where
  -- a step counts as one, and nothing else counts
  pub rises : (p : State) (t : ℕ) (r : Reply) → m.can_step p ≡ true → m.own (m.step p t r) ≡ suc (m.own p)
  pub typed_own : (p : State) (l : Line) → m.own (m.typed p l) ≡ m.own p
  pub opened_own : (p : State) → m.own (m.opened p) ≡ m.own p
  pub cut_own : (kind : CutKind) (p : State) → m.own (m.cut kind p) ≡ m.own p
  -- a line more doesn't change what the next step is
  pub typed_can : (p : State) (l : Line) → m.can_step p ≡ true → m.can_step (m.typed p l) ≡ true
  pub typed_clock : (p : State) (l : Line) → m.can_step p ≡ true → m.asks_clock (m.typed p l) ≡ m.asks_clock p
  pub typed_common : (p : State) (l : Line) → m.can_step p ≡ true → m.asks_common (m.typed p l) ≡ m.asks_common p
  pub commutes : (p : State) (l : Line) (t : ℕ) (r : Reply) → m.can_step p ≡ true → m.is_open (m.step p t r) ≡ true → m.step (m.typed p l) t r ≡ m.typed (m.step p t r) l
  -- when a session is open
  pub can_open : (p : State) → m.can_step p ≡ true → m.is_open p ≡ true
  pub typed_open : (p : State) (l : Line) → m.is_open (m.typed p l) ≡ m.is_open p
  pub opened_open : (p : State) → m.is_open (m.opened p) ≡ true
  pub quit_open : (p : State) → m.is_open (m.cut Quit p) ≡ m.is_open p
  pub step_open : (p : State) (t : ℕ) (r : Reply) → m.can_step p ≡ true → m.ending p t r ≢ LoggedOut → m.is_open (m.step p t r) ≡ true
  -- the end does nothing
  pub at_end : (p : State) → m.cut End p ≡ p
