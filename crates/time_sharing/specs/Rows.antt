-- claim: a machine made of rows: what a step does is said over a part of the state that has no unread lines, no
-- transcript and no counts. So a row can't break what every machine owes.
use Rattle.std.specs.Prelude.{ℕ, suc, ◌+◌, ◌-◌, Bool, true, false, if◌then◌else◌, ◌&&◌, ◌||◌, not, List, [], ◌∷◌, ◌++◌, Option, Some, None, length}
use Rattle.time_sharing.specs.Machine.{Machine, Item, In, Out, Quitted, Hung, CutKind, Quit, Hang, Spent, End, Ending, Went, Stopped, Resized, Replaced, LoggedOut, Line, CommonOp, Reply}

-- what a step leaves: the inner state, the lines written, lines to stand before the unread ones
pub record Outcome (A : Type 0) : Type 0 where
  pub inner : A
  pub written : List Line
  pub front : List Line
  pub ending : Ending

pub record Rows (Inner : Type 0) : Type 0 where
  -- whether the next step takes a line, and whether it does so as a command
  pub takes_line : Inner → Bool
  pub is_command : Inner → Bool
  -- what it asks for, with the line that it takes
  pub asks_clock : Inner → Option Line → Bool
  pub asks_common : Inner → Option Line → Option CommonOp
  -- n own steps have been done since the last command, this step among them; k command lines are unread behind the line
  pub act : Inner → Option Line → (n k : ℕ) → ℕ → Reply → Outcome Inner
  pub opened : Inner → Inner
  pub opened_text : Inner → List Line
  pub cut : CutKind → Inner → Inner
  pub cut_text : CutKind → Inner → ℕ → List Line

-- the whole private state
pub record Private (Inner : Type 0) : Type 0 where
  pub inner : Inner
  pub on : Bool
  pub unread : List Line
  -- how many lines were typed in the session
  pub lines : ℕ
  -- how many of the unread lines are a command file's
  pub fed : ℕ
  pub transcript : List Item
  pub own : ℕ
  pub own_at_command : ℕ

abbrev pub out_all : List Line → List Item
out_all [] = []
out_all (l ∷ ls) = Out l ∷ out_all ls

abbrev pub some_line : List Line → Bool
some_line [] = false
some_line (l ∷ ls) = true

abbrev pub first_line : Bool → List Line → Option Line
first_line false ls = None
first_line true [] = None
first_line true (l ∷ ls) = Some l

abbrev pub in_line : Option Line → List Item
in_line None = []
in_line (Some l) = In l ∷ []

abbrev pub behind : Option Line → List Line → List Line
behind None ls = ls
behind (Some l) [] = []
behind (Some l) (x ∷ ls) = ls

abbrev pub one_less : Option Line → ℕ → ℕ
one_less None k = k
one_less (Some l) k = k - 1

abbrev pub is_logout : Ending → Bool
is_logout LoggedOut = true
is_logout Went = false
is_logout Stopped = false
is_logout Resized = false
is_logout Replaced = false

module _ {A : Type 0} (rows : Rows A) where
  abbrev pub line_of : Private A → Option Line
  line_of p = first_line (rows.takes_line p.inner) p.unread

  -- the own steps before the last command, at this step
  abbrev pub own_at_command_of : Private A → ℕ
  own_at_command_of p = if rows.is_command p.inner then p.own else p.own_at_command

  abbrev pub result_of : Private A → ℕ → Reply → Outcome A
  result_of p t r = rows.act p.inner (line_of p) (suc p.own - own_at_command_of p) (one_less (line_of p) p.fed) t r

  abbrev pub done : Private A → Outcome A → Private A
  done p o =
      record {
        inner = o.inner;
        on = not (is_logout o.ending);
        lines = p.lines;
        unread = if is_logout o.ending then [] else o.front ++ behind (line_of p) p.unread;
        fed = if is_logout o.ending then 0 else length o.front + one_less (line_of p) p.fed;
        transcript = p.transcript ++ (in_line (line_of p) ++ out_all o.written);
        own = suc p.own;
        own_at_command = own_at_command_of p;
      }

  abbrev pub cut_all : CutKind → Private A → Private A
  cut_all Quit p = record p { inner = rows.cut Quit p.inner; unread = []; fed = 0; transcript = p.transcript ++ Quitted ∷ out_all (rows.cut_text Quit p.inner (p.own - p.own_at_command)) }
  cut_all Hang p = record p { inner = rows.cut Hang p.inner; on = false; unread = []; fed = 0; transcript = p.transcript ++ Hung ∷ [] }
  cut_all Spent p = record p { inner = rows.cut Spent p.inner; on = false; unread = []; fed = 0; transcript = p.transcript ++ Hung ∷ [] }
  cut_all End p = p

  abbrev pub machine : Machine (Private A)
  machine =
      record {
        typed = λ p l. record p { unread = p.unread ++ l ∷ []; lines = suc p.lines };
        opened = λ p. record p { inner = rows.opened p.inner; on = true; unread = []; lines = 0; fed = 0; transcript = p.transcript ++ out_all (rows.opened_text p.inner) };
        cut = cut_all;
        is_open = λ p. p.on;
        can_step = λ p. p.on && (not (rows.takes_line p.inner) || some_line p.unread);
        asks_clock = λ p. rows.asks_clock p.inner (line_of p);
        asks_common = λ p. rows.asks_common p.inner (line_of p);
        step = λ p t r. done p (result_of p t r);
        ending = λ p t r. (result_of p t r).ending;
        own = λ p. p.own;
        lines = λ p. p.lines;
        transcript = λ p. p.transcript;
      }
