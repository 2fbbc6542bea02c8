-- Parts of what a step of the user that is served does.
use Rattle.std.proofs.Common.{◌≡◌, ℕ, zero, ◌-◌, ◌*◌, Bool, true, false, List, [], ◌++◌, length, take, replicate, Option, Some, None, refl, sym, ◌∙◌, ap, arith, subst}
use Rattle.std.proofs.lemmas.List.{append-nil}
use Rattle.std.proofs.Math.Seq.{take-length}
use Rattle.time_sharing.specs.Machine.{Ending, CommonOp, Reply, Went, Stopped, Resized, Replaced, LoggedOut}
use Rattle.std.specs.Option.{is_some}
use Rattle.time_sharing.specs.System.{Service, Entry}
use Rattle.ctss_types.specs.declared.session.Waiting.{Waiting}
use Rattle.plan_model.specs.Levels.{goes_up}
use Rattle.image_map.specs.Images.{size_of}
use Rattle.user_model.specs.Inner.{Stored, blocks_of, recut}
use Rattle.user_model.specs.User.{User, in_store, core_after, IsStep}
use Rattle.user_model.proofs.WentLaws.{went_stays}
use Rattle.system_model.specs.Run.{Run, rise, rising, rise_of, raised}
use Rattle.system_model.specs.Cases.{waited, idled, broken_off}
use Rattle.system_model.specs.Joined.{counted, moved}
use Rattle.ctss_types.specs.declared.file.FileBody.{FileBody}
use Rattle.file_map.specs.Known.{known}
use Rattle.user_session.specs.Stores.{stored}
use Rattle.user_cores.specs.Backing.{Held, KeepsRules}
use Rattle.std.specs.Prelude.{Ok, Err}
use Rattle.std.specs.declared.result.Result.{Result}
use Rattle.ctss_types.specs.declared.fault.RunFault.{RunFault}
use Rattle.ctss_types.specs.declared.fault.RunFault.TheVariants.{Drum, Disk, NoMemory}
use Rattle.supervisor.specs.Steps.{Ends, Fails}
use Rattle.user_cores.specs.Settles.{IsResized, settled}

-- a step that goes on leaves as many blocks
pub went_size : (e : Ending) (asked : Bool) (made : Option CommonOp) (t : ℕ) (r : Reply) (old new : User) (before after : Stored) → IsStep e asked made t r old new before after → e ≡ Went → blocks_of new.inner ≡ blocks_of old.inner
went_size e asked made t r old new before after says is =
    ap (λ (p : User). blocks_of p.inner) says.left ∙ went_stays t r (in_store before old) (sym says.ends ∙ is)

recut_whole : (n : ℕ) (core : List ℕ) → length core ≡ 256 * n → core ≡ recut n core
recut_whole n core h =
    sym (append-nil core)
    ∙ (λ j. take_all j ++ rest j)
  where
    take_all : core ≡ take (256 * n) core
    take_all = sym (take-length core) ∙ ap (λ (k : ℕ). take k core) h

    none : 256 * n - length core ≡ zero
    none = omega (arith, h)

    rest : ◌≡◌ {A = List ℕ} [] (replicate (256 * n - length core) 0)
    rest = ap (λ (k : ℕ). replicate k 0) (sym none)

-- the words after a step, where those of a step that goes on are as many as its blocks
pub settled_is : (e : Ending) (n : ℕ) (core : List ℕ) → (e ≡ Went → length core ≡ 256 * n) → settled e n core ≡ core_after e n core
settled_is Went n core h = recut_whole n core (h refl)
settled_is Stopped n core h = refl
settled_is Resized n core h = refl
settled_is Replaced n core h = refl
settled_is LoggedOut n core h = refl

pub rules_both : (had mid has : Held) → KeepsRules had mid → KeepsRules mid has → KeepsRules had has
rules_both had mid has one two = record { quotas = two.quotas ∙ one.quotas; common = two.common ∙ one.common; tracks = λ u. two.tracks u ∙ one.tracks u; users = two.users ∙ one.users }

-- a new size, seen from before another change that left sizes and quotas
pub resized_from : (u w n m : ℕ) (had mid has : Held) → IsResized u n mid has → mid.sizes ≡ had.sizes → KeepsRules had mid → u ≡ w → n ≡ m → IsResized w m had has
resized_from u w n m had mid has same sizes rules uw nm =
    record {
      len = same.len ∙ ap length sizes;
      mine = λ pos below.
          ap (size_of has.sizes) (sym uw) ∙ same.mine (omega (arith, uw, pos)) (let e = ap length sizes in omega (arith, uw, e, below)) ∙ nm;
      others = λ x pos other. same.others x pos (λ e. other (e ∙ uw)) ∙ ap (λ (s : List ℕ). size_of s x) sizes;
      rules = rules_both had mid has rules same.rules;
    }

-- no size has changed
pub resized_none : (n : ℕ) (had has : Held) → has.sizes ≡ had.sizes → KeepsRules had has → IsResized 0 n had has
resized_none n had has sizes rules =
    record {
      len = ap length sizes;
      mine = λ pos below. absurd (omega (arith, pos));
      others = λ u pos other. ap (λ (s : List ℕ). size_of s u) sizes;
      rules = rules;
    }

-- users stay where the queues, the clock and the service change

pub waited_users : (v : Service) (r : Run) → (waited v r).system.users ≡ r.system.users
unfolding waited
waited_users v r = refl

pub counted_users : (v : Service) (t : Ending) (asked : Bool) (notes : List Entry) (r : Run) → (counted v t asked notes r).system.users ≡ r.system.users
unfolding counted
counted_users v t asked notes r = refl

pub moved_users : (u dumped read fresh : ℕ) (r : Run) → (moved u dumped read fresh r).system.users ≡ r.system.users
unfolding moved
moved_users u dumped read fresh r = refl

-- a run with other users, and its entries said in other words
abbrev pub with_users : Run → List User → List Entry → Run
with_users r users entries = record r { system = record r.system { users = users; entries = entries } }

pub idled_users : (limit : ℕ) (r : Run) → (idled limit r).system.users ≡ r.system.users
unfolding idled
idled_users limit r = refl

pub broken_off_users : (v : Service) (r : Run) → (broken_off v r).system.users ≡ r.system.users
unfolding broken_off
broken_off_users v r = refl

pub raised_users : (r : Run) → (raised r).system.users ≡ r.system.users
unfolding rise
raised_users r = by_who (rising r)
  where
    by_who : (o : Option (ℕ × ℕ)) → (rise_of o r).system.users ≡ r.system.users
    by_who None = refl
    by_who (Some x) = refl

-- other words for how a step ended
pub ends_map : {T : Type 0} (r : Result T RunFault) (A B C D A' B' C' D' : Type 0) → (A → A') → (B → B') → (C → C') → (D → D') → Ends r A B C D → Ends r A' B' C' D'
ends_map (Ok x) A B C D A' B' C' D' done unchanged drum disk h = done h
ends_map (Err NoMemory) A B C D A' B' C' D' done unchanged drum disk h = unchanged h
ends_map (Err Drum) A B C D A' B' C' D' done unchanged drum disk h = drum h
ends_map (Err Disk) A B C D A' B' C' D' done unchanged drum disk h = disk h

-- the same, where it ended by a fault
pub fails_map : (f : RunFault) (B C D B' C' D' : Type 0) → (B → B') → (C → C') → (D → D') → Fails f B C D → Fails f B' C' D'
fails_map NoMemory B C D B' C' D' unchanged drum disk h = unchanged h
fails_map Drum B C D B' C' D' unchanged drum disk h = drum h
fails_map Disk B C D B' C' D' unchanged drum disk h = disk h

-- what follows from each fault
pub fails_to : (f : RunFault) (B C D P : Type 0) → (B → P) → (C → P) → (D → P) → Fails f B C D → P
fails_to NoMemory B C D P unchanged drum disk h = unchanged h
fails_to Drum B C D P unchanged drum disk h = drum h
fails_to Disk B C D P unchanged drum disk h = disk h

-- what follows from two such facts
pub fails_both : (f : RunFault) (B C D B' C' D' P Q R : Type 0) → (B → B' → P) → (C → C' → Q) → (D → D' → R) → Fails f B C D → Fails f B' C' D' → Fails f P Q R
fails_both NoMemory B C D B' C' D' P Q R unchanged drum disk h k = unchanged h k
fails_both Drum B C D B' C' D' P Q R unchanged drum disk h k = drum h k
fails_both Disk B C D B' C' D' P Q R unchanged drum disk h k = disk h k

-- where the disk tells its records, files that are known as these are these
pub told_store : (tells : Bool) (fs : List FileBody) (s : Stored) → tells ≡ true → known tells fs ≡ s.files → stored s.core fs ≡ s
unfolding known
told_store tells fs s told h = let is : fs ≡ s.files = subst (λ (b : Bool). known b fs ≡ s.files) told h in λ j. record { core = s.core; files = is j }

pub is_none : {X : Type 0} (o : Option X) → is_some o ≡ false → o ≡ None
is_none None h = refl
is_none (Some x) h = cc

-- whoever rises does so to a level
pub up_too : (o : Option (ℕ × Waiting)) → is_some (goes_up o) ≡ is_some o
up_too None = refl
up_too (Some x) = refl
