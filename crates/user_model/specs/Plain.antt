-- claim: under the debugger a program does what it does without it.
use Rattle.std.specs.Prelude.{◌≡◌, ◌⊎◌, ℕ, suc, Bool, true, false, not, ◌&&◌, ◌||◌, if◌then◌else◌, List, [], ◌∷◌, ◌++◌, Option, Some, None, option_to_list, fold}
use Rattle.time_sharing.specs.Machine.{Machine, Line, Item, In, Out, Quitted, Hung, CommonOp, Reply, Done}
use Rattle.time_sharing.specs.Rows.{machine, line_of, result_of}
use Rattle.time_sharing.specs.Private.{steps}
use Rattle.time_sharing.specs.System.{clock_for}
use Rattle.program_model.specs.Stops.{Stops}
use Rattle.program_model.specs.declared.Fill.{Fill}
use Rattle.program_model.specs.declared.ProgramState.TheVariants.{Dormant, Working}
use Rattle.user_model.specs.Debugger.{is_debugged, line_stores}
use Rattle.user_model.specs.Inner.{Inner}
use Rattle.user_model.specs.Programs.{at_break}
use Rattle.user_model.specs.Session.{user_rows, works_in}
use Rattle.user_model.specs.Texts.{ready_text}
use Rattle.user_model.specs.User.{User}

-- the program goes on, whatever stopped it
abbrev pub woken : User → User
woken p = record p { inner = record p.inner { state = Working } }

-- the user's machine, where before each step the program is made to go on
abbrev pub plain_machine : Machine User
plain_machine =
    record (machine user_rows) {
      can_step = λ p. (machine user_rows).can_step (woken p);
      asks_clock = λ p. (machine user_rows).asks_clock (woken p);
      asks_common = λ p. (machine user_rows).asks_common (woken p);
      step = λ p t r. (machine user_rows).step (woken p) t r;
      ending = λ p t r. (machine user_rows).ending (woken p) t r;
    }

-- the user with these lines in place of those unread
abbrev pub with_typed : User → List Line → User
with_typed p lines = fold (machine user_rows).typed (record p { unread = []; fed = 0 }) lines

-- the program alone: so many steps, with these lines, clock answers and replies
abbrev pub plain : User → List Line → List ℕ → List Reply → ℕ → User
plain p lines clocks replies count = (steps plain_machine count (record { state = with_typed p lines; clocks = clocks; replies = replies })).state

-- what comes under the debugger: a line is typed, or a step is done at a tick, with this reply if it asks for one
pub data Move : Type 0 where
  Comes : (line : Line) → Move
  Does : (tick : ℕ) (reply : Reply) → Move

-- What a run under the debugger has come to: the user; how many of the steps were the program's own, breaks not counted; the lines, clock answers
-- and replies that these took; and the lines that they wrote.
pub record Course : Type 0 where
  pub state : User
  pub count : ℕ
  pub lines : List Line
  pub clocks : List ℕ
  pub replies : List Reply
  pub written : List Line

abbrev pub reply_in : Option CommonOp → Reply → Reply
reply_in None r = Done
reply_in (Some op) r = r

abbrev pub replies_in : Option CommonOp → Reply → List Reply
replies_in None r = []
replies_in (Some op) r = r ∷ []

abbrev pub clocks_in : Bool → ℕ → List ℕ
clocks_in false t = []
clocks_in true t = t ∷ []

-- whether a program that works is to stop before its next instruction
abbrev pub breaks_in : Option Fill → Inner → Bool
breaks_in (Some f) i = false
breaks_in None i = at_break i

-- whether the next step is the program's own, and no break
abbrev pub is_own : User → Bool
is_own p = works_in p.inner.state && not (breaks_in p.inner.fill p.inner)

abbrev pub step_at : ℕ → Reply → User → User
step_at t r p = (machine user_rows).step p (clock_for ((machine user_rows).asks_clock p) t) (reply_in ((machine user_rows).asks_common p) r)

abbrev pub written_at : ℕ → Reply → User → List Line
written_at t r p = (result_of user_rows p (clock_for ((machine user_rows).asks_clock p) t) (reply_in ((machine user_rows).asks_common p) r)).written

abbrev pub with_own : Course → ℕ → Reply → Course
with_own c t r =
    record {
      state = step_at t r c.state;
      count = suc c.count;
      lines = c.lines ++ option_to_list (line_of user_rows c.state);
      clocks = c.clocks ++ clocks_in ((machine user_rows).asks_clock c.state) t;
      replies = c.replies ++ replies_in ((machine user_rows).asks_common c.state) r;
      written = c.written ++ written_at t r c.state;
    }

abbrev pub moved : Course → Move → Course
moved c (Comes l) = record c { state = (machine user_rows).typed c.state l }
moved c (Does t r) = if is_own c.state then with_own c t r else record c { state = step_at t r c.state }

-- A line may come at any time. A step may be done that can be done, while the debugger is open, if it is no SET.
abbrev pub Allowed : Course → Move → Type 0
Allowed c (Comes l) = Unit {0}
Allowed c (Does t r) =
    ((machine user_rows).can_step c.state ≡ true) × (is_debugged c.state.inner.debugger ≡ true) × ((works_in c.state.inner.state || not (line_stores (line_of user_rows c.state))) ≡ true)

abbrev pub AllAllowed : Course → List Move → Type 0
AllAllowed c [] = Unit {0}
AllAllowed c (m ∷ ms) = Allowed c m × AllAllowed (moved c m) ms

-- the debugger was opened on p
abbrev pub begun : User → Stops → Course
begun p s = record { state = record p { inner = record p.inner { debugger = Some s } }; count = 0; lines = []; clocks = []; replies = []; written = [] }

-- two lines are the same, or each is R n with a number of its own
abbrev pub IsSameLine : Line → Line → Type 0
IsSameLine a b = (a ≡ b) ⊎ ((m : ℕ) × (n : ℕ) × (a ≡ ready_text m) × (b ≡ ready_text n))

abbrev pub AreSameLines : List Line → List Line → Type 0
AreSameLines [] [] = Unit {0}
AreSameLines [] (y ∷ ys) = ⊥
AreSameLines (x ∷ xs) [] = ⊥
AreSameLines (x ∷ xs) (y ∷ ys) = IsSameLine x y × AreSameLines xs ys

-- the lines written
abbrev pub outs : List Item → List Line
outs [] = []
outs (In l ∷ items) = outs items
outs (Out l ∷ items) = l ∷ outs items
outs (Quitted ∷ items) = outs items
outs (Hung ∷ items) = outs items

-- the program is where it is alone, and wrote what it writes alone, apart from the numbers of R n
pub record IsPlain (p q : User) (written : List Line) (alone : User) : Type 0 where
  pub regs : q.inner.regs ≡ alone.inner.regs
  pub blocks : q.inner.blocks ≡ alone.inner.blocks
  pub core : q.inner.core ≡ alone.inner.core
  pub files : q.inner.files ≡ alone.inner.files
  pub said : List Item
  pub transcript : alone.transcript ≡ p.transcript ++ said
  pub lines : AreSameLines (outs said) written

-- From where the debugger was opened on a program that stopped, at each moment the program is where as many steps lead it alone, with the lines, clock
-- answers and replies that it took: registers, words and files. And the lines that it wrote are those that it writes alone, but for the numbers of R n.
abbrev pub DebuggerIsPlain : Type 0
DebuggerIsPlain =
    (p : User) (s : Stops) (ms : List Move) → p.on ≡ true → p.inner.state ≡ Dormant → p.inner.debugger ≡ None → AllAllowed (begun p s) ms →
    let c = fold moved (begun p s) ms in
    IsPlain p c.state c.written (plain p c.lines c.clocks c.replies c.count)
