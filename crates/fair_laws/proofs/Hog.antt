-- The moments at which a user whose command file runs itself is alone at level 0, and another waits at level 1: each step of the run
-- leads from one to the next, a tick later.
use Rattle.std.proofs.Common.{◌≡◌, ℕ, suc, ◌-◌, true, List, [], ◌∷◌, ◌++◌, length, replicate, Option, None, codes, refl, ap, ◌∙◌, arith}
use Rattle.ctss_types.specs.Words.{name_of}
use Rattle.ctss_types.specs.declared.script.Account.{Account}
use Rattle.ctss_types.specs.declared.file.FileBody.{FileBody}
use Rattle.time_sharing.specs.Machine.{Item, In, Out}
use Rattle.time_sharing.specs.System.{Entry, Clock, Serve, Stop, Console, at}
use Rattle.time_sharing.specs.System as system
use Rattle.time_sharing.specs.Feeds.{ran_of}
use Rattle.time_sharing.specs.Rows.{machine}
use Rattle.program_model.specs.CommandLines.{command_lines}
use Rattle.program_model.specs.declared.ProgramState.TheVariants.{Dead}
use Rattle.plan_model.specs.Levels.{Levels, greatest, level_of_words, chosen, entered, dropped, sunk, charged, riser}
use Rattle.plan_model.specs.Loads.{Places, given_up}
use Rattle.user_model.specs.Inner.{Inner}
use Rattle.user_model.specs.Session.{user_rows, nobody}
use Rattle.user_model.specs.Requests.{command_of}
use Rattle.user_model.specs.Texts.{time_text, ready_text}
use Rattle.user_model.specs.User.{User}
use Rattle.system_model.specs.World.{world_with}
use Rattle.system_model.specs.Run.{State}
use Rattle.fair_laws.specs.Served.{ticks_in, ticks_of, cuts_in}
use Rattle.fair_laws.specs.Waits.{level_row, since_of}
use Rattle.fair_laws.specs.Unbounded.{runs_itself}
use Rattle.fair_laws.proofs.Wait.{ticks-append, cuts-append}

-- what differs from one such moment to another
pub record Hog : Type 0 where
  pub inner : Inner
  pub transcript : List Item
  pub own : ℕ
  pub own_at_command : ℕ
  pub other : User
  pub since : ℕ
  pub other_since : ℕ
  pub places : Places
  pub common : List FileBody
  pub consoles : List Console
  pub clock : ℕ
  pub idling : Option ℕ
  pub entries : List Entry

-- the user at level 0: its unread line is that of its command file
abbrev pub hog_user : Hog → User
hog_user h =
    record {
      inner = record h.inner { files = runs_itself ∷ []; state = Dead; blocks = 0; input = None; debugger = None };
      on = true;
      unread = codes "RUNCOM R" ∷ [];
      lines = 1;
      fed = 1;
      transcript = h.transcript;
      own = h.own;
      own_at_command = h.own_at_command;
    }

-- the first user is at level 0, and the second at level 1
abbrev pub hog_levels : (since other_since : ℕ) → Levels
hog_levels since other_since =
    record {
      wq = 1025;
      quantum = 1;
      age = 0;
      rows = (record { user = 1; left = 1; since = since } ∷ []) ∷ (record { user = 2; left = 2; since = other_since } ∷ []) ∷ replicate 7 [];
    }

-- the whole moment: no event is left, and no service is open
abbrev pub hog_state : Hog → State
hog_state h =
    record {
      users = hog_user h ∷ h.other ∷ [];
      files = h.common;
      plan = record { levels = hog_levels h.since h.other_since; places = h.places };
      consoles = h.consoles;
      clock = h.clock;
      events = [];
      service = None;
      idling = h.idling;
      entries = h.entries;
    }

-- the next one
abbrev pub later_hog : Hog → Hog
later_hog h =
    record h {
      transcript = h.transcript ++ In (codes "RUNCOM R") ∷ Out (time_text h.clock) ∷ Out (ready_text (suc h.own - h.own)) ∷ [];
      own = suc h.own;
      own_at_command = h.own;
      since = suc h.clock;
      places = given_up h.places 1 0;
      clock = suc h.clock;
      entries = h.entries ++ Clock h.clock 1 ∷ Serve h.clock 1 0 1 Stop ∷ [];
    }

hog-next : (swap common limit : ℕ) (accounts : List Account) (h : Hog)
    → system.next (machine user_rows) (world_with swap common accounts) limit (hog_state h) ≡ hog_state (later_hog h)
unfolding name_of greatest level_of_words chosen entered dropped sunk charged riser command_of command_lines
hog-next swap common limit accounts h = refl

-- what a state has of such a moment
abbrev pub hog_of : State → Hog
hog_of s =
    let p = at nobody s.users 1 in
    record {
      inner = p.inner;
      transcript = p.transcript;
      own = p.own;
      own_at_command = p.own_at_command;
      other = at nobody s.users 2;
      since = since_of 1 (level_row 0 s.plan.levels);
      other_since = since_of 2 (level_row 1 s.plan.levels);
      places = s.plan.places;
      common = s.files;
      consoles = s.consoles;
      clock = s.clock;
      idling = s.idling;
      entries = s.entries;
    }

-- what makes a state such a moment
pub record HogParts (s : State) : Type 0 where
  pub users : length s.users ≡ 2
  pub files : (at nobody s.users 1).inner.files ≡ runs_itself ∷ []
  pub program : (at nobody s.users 1).inner.state ≡ Dead
  pub blocks : (at nobody s.users 1).inner.blocks ≡ 0
  pub input : (at nobody s.users 1).inner.input ≡ None
  pub debugger : (at nobody s.users 1).inner.debugger ≡ None
  pub on : (at nobody s.users 1).on ≡ true
  pub unread : (at nobody s.users 1).unread ≡ codes "RUNCOM R" ∷ []
  pub lines : (at nobody s.users 1).lines ≡ 1
  pub fed : (at nobody s.users 1).fed ≡ 1
  pub levels : s.plan.levels ≡ hog_levels (since_of 1 (level_row 0 s.plan.levels)) (since_of 2 (level_row 1 s.plan.levels))
  pub events : s.events ≡ []
  pub service : s.service ≡ None

two_users : (xs : List User) → length xs ≡ 2 → xs ≡ at nobody xs 1 ∷ at nobody xs 2 ∷ []
two_users [] e = absurd (omega (arith, e))
two_users (x ∷ []) e = absurd (omega (arith, e))
two_users (x ∷ y ∷ []) e = refl
two_users (x ∷ y ∷ z ∷ xs) e = absurd (omega (arith, e))

hog-parts : (s : State) → HogParts s → s ≡ hog_state (hog_of s)
hog-parts s p =
    let q = at nobody s.users 1 in
    let first : q ≡ hog_user (hog_of s) =
    λ i. record q {
      inner = record (q.inner) { files = p.files i; state = p.program i; blocks = p.blocks i; input = p.input i; debugger = p.debugger i };
      on = p.on i;
      unread = p.unread i;
      lines = p.lines i;
      fed = p.fed i;
    } in
    let users : s.users ≡ hog_user (hog_of s) ∷ at nobody s.users 2 ∷ [] =
    two_users s.users p.users ∙ ap (λ (x : User). x ∷ at nobody s.users 2 ∷ []) first in
    λ i. record s { users = users i; plan = record s.plan { levels = p.levels i }; events = p.events i; service = p.service i }

-- a state is such a moment, at which the second user has these ticks and these cuts
pub record IsHog (ticks cuts : ℕ) (s : State) : Type 0 where
  pub hog : Hog
  pub is : s ≡ hog_state hog
  pub ticks_are : ticks_in 2 hog.entries ≡ ticks
  pub cuts_are : cuts_in 2 hog.entries ≡ cuts

pub hog-first : (s : State) → HogParts s → IsHog (ticks_of 2 s) (cuts_in 2 s.entries) s
hog-first s p =
    let none : ran_of 2 s.service ≡ 0 = ap (ran_of 2) p.service in
    record { hog = hog_of s; is = hog-parts s p; ticks_are = omega (arith, none); cuts_are = refl }

pub hog-keeps : (swap common limit : ℕ) (accounts : List Account) (ticks cuts : ℕ) (s : State) → IsHog ticks cuts s
    → IsHog ticks cuts (system.next (machine user_rows) (world_with swap common accounts) limit s)
hog-keeps swap common limit accounts ticks cuts s i =
    let h = i.hog in
    let more = Clock h.clock 1 ∷ Serve h.clock 1 0 1 Stop ∷ [] in
    let t = ticks-append 2 h.entries more in
    let c = cuts-append 2 h.entries more in
    record {
      hog = later_hog h;
      is = ap (system.next (machine user_rows) (world_with swap common accounts) limit) i.is ∙ hog-next swap common limit accounts h;
      ticks_are = t ∙ (let e = i.ticks_are in omega (arith, e));
      cuts_are = c ∙ (let e = i.cuts_are in omega (arith, e));
    }

pub hog-ticks : (ticks cuts : ℕ) (s : State) → IsHog ticks cuts s → ticks_of 2 s ≡ ticks
hog-ticks ticks cuts s i = ap (ticks_of 2) i.is ∙ (let e = i.ticks_are in omega (arith, e))

pub hog-cuts : (ticks cuts : ℕ) (s : State) → IsHog ticks cuts s → cuts_in 2 s.entries ≡ cuts
hog-cuts ticks cuts s i = ap (λ (x : State). cuts_in 2 x.entries) i.is ∙ i.cuts_are
