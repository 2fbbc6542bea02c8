-- Every made script is in range.
use Rattle.std.proofs.Common.{◌≡◌, ◌<◌, ◌≤◌, ◌-◌, ◌+◌, ◌*◌, ℕ, zero, suc, Bool, true, false, nat_eq, List, [], ◌∷◌, ◌++◌, length, map, get_or, codes, refl, ap, ◌∙◌, arith}
use Rattle.std.specs.List.{All}
use Rattle.std.proofs.lemmas.Bool.{eqb-true, ne_eqb}
use Rattle.std.proofs.lemmas.List.Elements.{All-nil, All-cons, All-append, All-get_or, All-map, All-weaker}
use Rattle.std.proofs.lemmas.List.Sums.{sum_by-cons}
use Rattle.ctss_types.specs.declared.script.Account.{Account}
use Rattle.ctss_types.specs.declared.script.Timed.{Timed}
use Rattle.ctss_types.specs.declared.script.Event.{Event}
use Rattle.ctss_types.specs.declared.script.Event.TheVariants as event
use Rattle.ctss_types.specs.declared.file.FileBody.{FileBody}
use Rattle.ctss_types.specs.declared.file.OwnedFile.{OwnedFile}
use Rattle.file_model.specs.Files.{tracks_of}
use Rattle.file_model.specs.Owned.{files_of}
use Rattle.text_model.specs.Drafts.{quota_of}
use Rattle.text_model.specs.Reading.{blocks_of, names_differ, IsInRange}
use Rattle.text_model.specs.Made.{user_count, account_at, made_accounts, drawn, file_at, made_files, at_console, events_at, made_events, numbered, made_script}

-- accounts

-- there are as many as are made
count_of_accounts : (k i : ℕ) → length (made_accounts k i) ≡ k
count_of_accounts zero i = refl
count_of_accounts (suc k) i = ap (λ (n : ℕ). suc n) (count_of_accounts k (suc i))

-- an account's quotas
abbrev HasQuotas : Account → Type 0
HasQuotas a = (a.blocks ≡ 16) × (a.tracks ≡ 5)

-- each account has the same quotas
quotas_of_accounts : (k i : ℕ) → All HasQuotas (made_accounts k i)
quotas_of_accounts zero i = All-nil HasQuotas
quotas_of_accounts (suc k) i = All-cons HasQuotas (account_at i) (made_accounts k (suc i)) (refl, refl) (quotas_of_accounts k (suc i))

-- the blocks of all accounts together
blocks_of_accounts : (k i : ℕ) → blocks_of (made_accounts k i) ≡ 16 * k
blocks_of_accounts zero i = refl
blocks_of_accounts (suc k) i =
    let rest = blocks_of_accounts k (suc i) in
    sum_by-cons (λ (n : ℕ). n) 16 (map (λ (a : Account). a.blocks) (made_accounts k (suc i))) ∙ omega (arith, rest)

-- files

-- a file of a user up to a number
abbrev HasOwner : ℕ → OwnedFile → Type 0
HasOwner most f = (1 ≤ f.owner) × (f.owner ≤ most)

-- owners are the users from a number on
owners_of_files : (most k i x : ℕ) → 1 ≤ i → k + i ≤ most + 1 → All (HasOwner most) (made_files k i x)
owners_of_files most zero i x low high = All-nil (HasOwner most)
owners_of_files most (suc k) i x low high =
    All-cons (HasOwner most) (file_at i x) (made_files k (suc i) (drawn (drawn x))) (low, omega arith) (owners_of_files most k (suc i) (drawn (drawn x)) (omega arith) (omega arith))

-- a file of mode 0 to 3
abbrev HasMode : OwnedFile → Type 0
HasMode f = f.body.mode ≤ 3

-- every file is permanent
modes_of_files : (k i x : ℕ) → All HasMode (made_files k i x)
modes_of_files zero i x = All-nil HasMode
modes_of_files (suc k) i x = All-cons HasMode (file_at i x) (made_files k (suc i) (drawn (drawn x))) (omega arith) (modes_of_files k (suc i) (drawn (drawn x)))

-- users before the first one have no files
none_before : (u k i x : ℕ) → u < i → files_of u (made_files k i x) ≡ []
none_before u zero i x before = refl
none_before u (suc k) i x before = rw (ne_eqb i u (λ e. omega arith)) (none_before u k (suc i) (drawn (drawn x)) (omega arith))

-- what one file of 12 words keeps, and no file too
abbrev AreFew : List FileBody → Type 0
AreFew fs = (names_differ fs ≡ true) × (tracks_of fs ≤ 5)

-- one file more, by its owner
few_files_by : (u k i x : ℕ) (b : Bool) → nat_eq i u ≡ b → AreFew (files_of u (made_files k (suc i) (drawn (drawn x)))) → AreFew (files_of u (made_files (suc k) i x))
few_files_by u k i x true e rest =
    let same : i ≡ u = eqb-true i u e in
    rw (e, none_before u k (suc i) (drawn (drawn x)) (omega arith)) (refl, omega arith)
few_files_by u k i x false e rest = rw e rest

-- a user has one file at most
few_files : (u k i x : ℕ) → AreFew (files_of u (made_files k i x))
few_files u zero i x = (refl, omega arith)
few_files u (suc k) i x = few_files_by u k i x (nat_eq i u) refl (few_files u k (suc i) (drawn (drawn x)))

-- the quota of a user's tracks
quota_is : (u k i : ℕ) → 1 ≤ u → u ≤ k → quota_of u (made_accounts k i) ≡ 5
quota_is u k i low high =
    let none : Account = record { name = 0; password = 0; blocks = 0; tracks = 0 } in
    (All-get_or HasQuotas (made_accounts k i) (u - 1) none (omega (arith, count_of_accounts k i)) (quotas_of_accounts k i)).1

-- events

-- what is true of each user's events
pub all_events : (P : Timed → Type 0) (k i : ℕ) → ((j : ℕ) → i ≤ j → j < k + i → All P (events_at j)) → All P (made_events k i)
all_events P zero i each = All-nil P
all_events P (suc k) i each =
    All-append P (events_at i) (made_events k (suc i)) (each i (omega arith) (omega arith)) (all_events P k (suc i) (λ j low high. each j (omega arith) (omega arith)))

-- what a user does
abbrev session_of : ℕ → List Event
session_of i =
    event.Dial ∷ event.Line (codes "LOGIN " ++ numbered (codes "U") i) ∷ event.Line (numbered (codes "P") i) ∷ event.Line (codes "LOADGO LOOP")
    ∷ event.Line (codes "LOADGO LOOP") ∷ event.Line (codes "LOGOUT") ∷ []

-- what is true of any event at a console is true of a user's events
pub whatever : (P : Timed → Type 0) (i : ℕ) → ((e : Event) → P (at_console i e)) → All P (events_at i)
whatever P i each = All-map P (at_console i) (session_of i) (λ k d below. each (get_or (session_of i) k d))

-- an event at a console
abbrev HasConsole : Timed → Type 0
HasConsole e = (1 ≤ e.console) × (e.console ≤ 32)

-- consoles are those of the users
seats_of_events : (k : ℕ) → k ≤ 30 → All HasConsole (made_events k 1)
seats_of_events k few = all_events HasConsole k 1 (λ j low high. whatever HasConsole j (λ e. (low, omega arith)))

-- scripts

-- 4 to 30 users
pub few_users : (n : ℕ) → user_count n ≤ 30
few_users n = omega arith

-- every made script is in range
pub made_in_range : (n : ℕ) → IsInRange (made_script n)
unfolding made_script
made_in_range n =
    let count : length (made_accounts (user_count n) 1) ≡ user_count n = count_of_accounts (user_count n) 1 in
    let few : user_count n ≤ 30 = few_users n in
    record {
      level = omega arith;
      quantum = omega arith;
      swap = omega arith;
      few = omega arith;
      blocks = All-weaker HasQuotas (λ a. a.blocks ≤ 128) (λ a h. omega arith) (made_accounts (user_count n) 1) (quotas_of_accounts (user_count n) 1);
      fits = omega (arith, blocks_of_accounts (user_count n) 1);
      drum = omega arith;
      owners = owners_of_files (length (made_accounts (user_count n) 1)) (user_count n) 1 n (omega arith) (omega arith);
      modes = modes_of_files (user_count n) 1 n;
      names = λ u. (few_files u (user_count n) 1 n).0;
      tracks = λ u low high. omega (arith, quota_is u (user_count n) 1 low (omega arith), (few_files u (user_count n) 1 n).1);
      seats = seats_of_events (user_count n) few;
      ticks = omega arith;
    }
