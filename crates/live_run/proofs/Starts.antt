-- The start of a run: its users have no words and no blocks, and agree with cores of which no user has any.
use Rattle.std.proofs.Common.{◌≡◌, ℕ, zero, suc, ◌+◌, ◌-◌, ◌<◌, ◌≤◌, Bool, true, false, ◌&&◌, List, [], ◌∷◌, map, length, replicate, get_or, Option, Some, None, Ok, Err, is_some, refl, sym, ap, subst, ◌∙◌, arith}
use Rattle.std.specs.Prelude.{slice_index_or, OnOk}
use Rattle.std.specs.List.{All}
use Rattle.std.proofs.lemmas.List.{length-map}
use Rattle.std.proofs.lemmas.List.Elements.{All-nil, All-cons}
use Rattle.ctss_types.specs.declared.script.Script.{Script}
use Rattle.ctss_types.specs.declared.script.Account.{Account}
use Rattle.ctss_types.specs.declared.file.OwnedFile.{OwnedFile}
use Rattle.drum_slots.specs.Keys.{quota_of}
use Rattle.image_map.specs.Images.{size_of}
use Rattle.image_map.proofs.Moves.{none_in}
use Rattle.file_model.specs.Owned.{files_of}
use Rattle.user_model.specs.Session.{first_state, nobody, no_account}
use Rattle.user_model.specs.Inner.{Stored, blocks_of}
use Rattle.user_model.specs.User.{User, in_store}
use Rattle.user_session.specs.Stores.{stored}
use Rattle.time_sharing.specs.System.{Console}
use Rattle.plan_model.specs.Loads.{no_places}
use Rattle.system_model.specs.Run.{Run}
use Rattle.system_model.specs.Joined.{joined, with_stores}
use Rattle.system_model.specs.Cases.{user_at}
use Rattle.system_model.specs.Record.{start_of, users_from}
use Rattle.track_directories.specs.Directories.{DirectoriesState}
use Rattle.file_tracks.specs.Seen.{tells_of}
use Rattle.track_directories.specs.Firsts.{HaveNone, Adds}
use Rattle.image_map.specs.State.{ImageState}
use Rattle.user_cores.specs.Usable.{HasNoBlocks}
use Rattle.user_cores.specs.Backing.{Held, BackState, back_of}
use Rattle.supervisor.specs.Seen.{Bare, run_with, record_so_far}
use Rattle.supervisor.specs.Steps.{IsTied}
use Rattle.supervisor.specs.Whole.{whole_of}
use Rattle.live_run.specs.Calls.{IsReady, run_over}
use Rattle.live_run.specs.Starts.{HasFirstFiles, Begins}
use Rattle.user_cores.proofs.Working.{disk_told}
use Rattle.file_map.specs.Known.{known, whole_is_known}
use Rattle.ctss_types.specs.declared.file.FileBody.{FileBody}
use Rattle.ctss_types.specs.declared.history.Item.{Item}
use Rattle.ctss_types.specs.declared.fault.StepFault.{StepFault}
use Rattle.std.specs.declared.result.Result.{Result}

-- users whose words and files lie elsewhere, with these
stored_users : (k : ℕ) (accounts : List Account) (files : List OwnedFile) (stores : ℕ → Stored) → ((u : ℕ) → k ≤ u → u < k + length accounts → stores u ≡ stored [] (files_of u files))
    → with_stores k stores (users_from k accounts []) ≡ users_from k accounts files
stored_users k [] files stores are = refl
stored_users k (a ∷ accounts) files stores are =
    let more = stored_users (suc k) accounts files stores (λ u up within. are u (omega (arith, up)) (omega (arith, within))) in
    λ j. in_store (are k (omega arith) (omega arith) j) (first_state a []) ∷ more j

joined_start : (script : Script) (stores : ℕ → Stored) → ((u : ℕ) → 1 ≤ u → u < 1 + length script.accounts → stores u ≡ stored [] (files_of u script.files)) → (stores 0).files ≡ []
    → joined stores (start_of (record script { events = []; files = [] })) ≡ start_of (record script { events = [] })
unfolding joined start_of
joined_start script stores are none = λ j.
    record (start_of (record script { events = [] })) {
      system = record (start_of (record script { events = [] })).system { users = stored_users 1 script.accounts script.files stores are j; files = none j };
    }

users_at_start : (script : Script) → (start_of script).system.users ≡ users_from 1 script.accounts script.files
unfolding start_of
users_at_start script = refl

quotas_of_users : (u : ℕ) (accounts : List Account) (files : List OwnedFile) → map (λ (p : User). p.inner.account.blocks) (users_from u accounts files) ≡ map (λ (a : Account). a.blocks) accounts
quotas_of_users u [] files = refl
quotas_of_users u (a ∷ accounts) files = ap (λ (ns : List ℕ). a.blocks ∷ ns) (quotas_of_users (suc u) accounts files)

no_blocks : (u : ℕ) (accounts : List Account) (files : List OwnedFile) → All (λ (p : User). blocks_of p.inner ≡ 0) (users_from u accounts files)
no_blocks u [] files = All-nil (λ (p : User). blocks_of p.inner ≡ 0)
no_blocks u (a ∷ accounts) files = All-cons (λ (p : User). blocks_of p.inner ≡ 0) (first_state a (files_of u files)) (users_from (suc u) accounts files) refl (no_blocks (suc u) accounts files)

-- the users of a run that is the start of a script
pub users_are : (script : Script) (b : Bare) → run_with no_places b ≡ start_of script → b.users ≡ users_from 1 script.accounts script.files
users_are script b is = ap (λ (r : Run). r.system.users) is ∙ users_at_start script

pub quotas_are : (script : Script) (b : Bare) → run_with no_places b ≡ start_of script → map (λ (a : Account). a.blocks) script.accounts ≡ map (λ (p : User). p.inner.account.blocks) b.users
quotas_are script b is = sym (quotas_of_users 1 script.accounts script.files) ∙ ap (map (λ (p : User). p.inner.account.blocks)) (sym (users_are script b is))

pub no_user_has : (script : Script) (b : Bare) → run_with no_places b ≡ start_of script → All (λ (p : User). blocks_of p.inner ≡ 0) b.users
no_user_has script b is = subst (All (λ (p : User). blocks_of p.inner ≡ 0)) (sym (users_are script b is)) (no_blocks 1 script.accounts script.files)

blocks_at : (accounts : List Account) → ((k : ℕ) (d : Account) → k < length accounts → (get_or accounts k d).blocks ≤ 128) → (i : ℕ) → slice_index_or (map (λ (a : Account). a.blocks) accounts) i 0 ≤ 128
blocks_at [] most i = omega arith
blocks_at (a ∷ accounts) most zero = most 0 a (omega arith)
blocks_at (a ∷ accounts) most (suc i) = blocks_at accounts (λ k d h. most (suc k) d (omega (arith, h))) i

-- no quota is above 128 blocks
pub quota_most : (accounts : List Account) → All (λ (a : Account). a.blocks ≤ 128) accounts → (u : ℕ) → quota_of (0 ∷ map (λ (a : Account). a.blocks) accounts) u ≤ 128
quota_most accounts all zero = omega arith
quota_most accounts all (suc i) = blocks_at accounts (λ k d h. all k d h) i

quota_at : (users : List User) (i : ℕ) (d : User) → i < length users → slice_index_or (map (λ (p : User). p.inner.account.blocks) users) i 0 ≡ (get_or users i d).inner.account.blocks
quota_at [] i d h = absurd (omega arith)
quota_at (p ∷ users) zero d h = refl
quota_at (p ∷ users) (suc i) d h = quota_at users i d (omega (arith, h))

quota_behind : (ns : List ℕ) (u : ℕ) → 1 ≤ u → quota_of (0 ∷ ns) u ≡ slice_index_or ns (u - 1) 0
quota_behind ns zero h = absurd (omega arith)
quota_behind ns (suc i) h = let e : i ≡ suc i - 1 = omega arith in ap (λ (k : ℕ). slice_index_or ns k 0) e

length-fill : (n : ℕ) → length {A = ℕ} (replicate n 0) ≡ n
length-fill zero = refl
length-fill (suc n) = ap suc (length-fill n)

account_at : (v : ℕ) (accounts : List Account) (files : List OwnedFile) (k : ℕ) → (get_or (users_from v accounts files) k nobody).inner.account ≡ get_or accounts k no_account
account_at v [] files k = refl
account_at v (a ∷ accounts) files zero = refl
account_at v (a ∷ accounts) files (suc k) = account_at (suc v) accounts files k

count_users : (v : ℕ) (accounts : List Account) (files : List OwnedFile) → length (users_from v accounts files) ≡ length accounts
count_users v [] files = refl
count_users v (a ∷ accounts) files = ap suc (count_users (suc v) accounts files)

-- users without blocks agree with cores without blocks, and with directories that hold as many tracks as they may have
tied_first : (users : List User) (m : Held) → m.quotas ≡ 0 ∷ map (λ (p : User). p.inner.account.blocks) users → All (λ (p : User). blocks_of p.inner ≡ 0) users
    → m.sizes ≡ replicate (length m.quotas) 0 → ((u : ℕ) → 1 ≤ u → u ≤ length users → m.tracks u ≡ (user_at u users).inner.account.tracks) → m.users ≡ length users → IsTied users m
tied_first users m are empty sizes tracks count =
    record {
      many = ap length sizes ∙ length-fill (length m.quotas) ∙ ap length are ∙ ap suc (length-map users (λ (p : User). p.inner.account.blocks));
      has = λ u pos within. ap (λ (s : List ℕ). size_of s u) sizes ∙ none_in (length m.quotas) u ∙ sym (empty (u - 1) nobody (omega (arith, pos, within)));
      may = λ u pos within.
          ap (λ (q : List ℕ). quota_of q u) are
          ∙ quota_behind (map (λ (p : User). p.inner.account.blocks) users) u pos
          ∙ quota_at users (u - 1) nobody (omega (arith, pos, within));
      tracks = tracks;
      directories = count;
    }

-- no entry and 32 consoles stand in the state that a script starts with
none_at_start : (script : Script) → (start_of script).system.entries ≡ []
unfolding start_of
none_at_start script = refl

seats_at_start : (script : Script) → 32 ≤ length (start_of script).system.consoles
unfolding start_of
seats_at_start script = omega arith

common_at_start : (script : Script) → (start_of script).common ≡ script.params.common
unfolding start_of
common_at_start script = refl

and_true : (b : Bool) → (b && true) ≡ b
and_true true = refl
and_true false = refl

-- what the start of a script shows does not hang on its events and files
transcripts_of_files : (u : ℕ) (accounts : List Account) (files : List OwnedFile) → map (λ (p : User). p.transcript) (users_from u accounts []) ≡ map (λ (p : User). p.transcript) (users_from u accounts files)
transcripts_of_files u [] files = refl
transcripts_of_files u (a ∷ accounts) files = ap (λ (ts : List (List Item)). [] ∷ ts) (transcripts_of_files (suc u) accounts files)

shows_at_start : (script : Script) → record_so_far (start_of (record script { events = []; files = [] })) ≡ record_so_far (start_of script)
unfolding start_of
shows_at_start script = λ j. record (record_so_far (start_of script)) { transcripts = transcripts_of_files 1 script.accounts script.files j }

known_told : (tells : Bool) (files : List FileBody) → tells ≡ true → known tells files ≡ files
known_told tells files told = ap (λ (b : Bool). known b files) told ∙ whole_is_known files

-- a supervisor, first cores and directories of the same accounts
module _ (script : Script) (b : Bare) (drum disk : Bool) (cores : ImageState) (dirs : DirectoriesState) (is : run_with no_places b ≡ start_of (record script { events = []; files = [] })) (first : HasNoBlocks (0 ∷ map (λ (a : Account). a.blocks) script.accounts) drum cores) where
  abbrev none : Script
  none = record script { events = []; files = [] }

  abbrev pub back : BackState
  back = back_of cores dirs

  users : b.users ≡ users_from 1 script.accounts []
  users = users_are none b is

  count : length b.users ≡ length script.accounts
  count = ap length users ∙ count_users 1 script.accounts []

  pub shown_at_first : record_so_far (run_with no_places b) ≡ record_so_far (start_of script)
  shown_at_first = ap record_so_far is ∙ shows_at_start script

  pub no_entries : b.entries ≡ []
  no_entries = ap (λ (r : Run). r.system.entries) is ∙ none_at_start none

  module _ (files : HasFirstFiles script.params.common script.accounts script.files disk dirs) where
    ready_at_first : IsReady (whole_of b back)
    ready_at_first =
        record {
          agrees = record {
            tied = tied_first b.users back.held (first.quotas_are ∙ ap (λ (ns : List ℕ). 0 ∷ ns) (quotas_are none b is)) (no_user_has none b is) (first.sizes ∙ ap (λ (ns : List ℕ). replicate (length ns) 0) (sym first.quotas_are))
                (λ u pos within. files.may u pos (omega (arith, within, count)) ∙ ap (λ (a : Account). a.tracks) (sym (account_at 1 script.accounts [] (u - 1))) ∙ ap (λ (ps : List User). (get_or ps (u - 1) nobody).inner.account.tracks) (sym users))
                (files.count ∙ sym count);
            common = files.common_may ∙ sym (ap (λ (r : Run). r.common) is ∙ common_at_start none);
          };
          seats = subst (λ (cs : List Console). 32 ≤ length cs) (sym (ap (λ (r : Run). r.system.consoles) is)) (seats_at_start none);
        }

    first_store : disk ≡ true → (u : ℕ) → 1 ≤ u → u < 1 + length script.accounts → back.held.stores u ≡ stored [] (files_of u script.files)
    first_store told zero pos within = absurd (omega (arith, pos))
    first_store told (suc u) pos within =
        let own : dirs.own (suc u) ≡ files_of (suc u) script.files = files.own (suc u) pos (omega (arith, within)) ∙ known_told disk (files_of (suc u) script.files) told in
        λ j. stored (first.words (suc u) pos j) (own j)

    run_at_first : (drum && disk) ≡ true → run_over (whole_of b back) ≡ start_of (record script { events = [] })
    run_at_first told =
        (λ i. joined back.held.stores (run_with (first.places i) b))
        ∙ ap (joined back.held.stores) is
        ∙ joined_start script back.held.stores (first_store (disk_told drum disk told)) files.common

    pub begins_at_first : b.texts ≡ replicate 32 [] → b.ended ≡ false → Begins script (drum && disk) (whole_of b back)
    begins_at_first texts begun =
        record {
          run = run_at_first;
          entries = ap (λ (r : Run). r.system.entries) is ∙ none_at_start none;
          texts = texts;
          begun = begun;
          tells = (λ j. first.tells j && files.tells j);
          ready = ready_at_first;
        }

tracks_at : (accounts : List Account) (i : ℕ) → i < length accounts → get_or (map (λ (a : Account). a.tracks) accounts) i 0 ≡ (get_or accounts i no_account).tracks
tracks_at [] i h = absurd (omega (arith, h))
tracks_at (a ∷ accounts) zero h = refl
tracks_at (a ∷ accounts) (suc i) h = tracks_at accounts i (omega (arith, h))

-- directories without files of these accounts' tracks
module _ (common : ℕ) (accounts : List Account) (files : List OwnedFile) (told : Bool) (faults : ℕ) (quotas : List ℕ) (are : quotas ≡ common ∷ map (λ (a : Account). a.tracks) accounts) (old : DirectoriesState) (none : HaveNone quotas told faults old) where
  pub may_first : (u : ℕ) → 1 ≤ u → u ≤ length accounts → old.may u ≡ (get_or accounts (u - 1) no_account).tracks
  may_first zero pos within = absurd (omega (arith, pos))
  may_first (suc i) pos within =
      let e : i ≡ suc i - 1 = omega arith in
      none.may (suc i) ∙ ap (λ (q : List ℕ). get_or q (suc i) 0) are ∙ tracks_at accounts i (omega (arith, within)) ∙ ap (λ (k : ℕ). (get_or accounts k no_account).tracks) e

  pub count_first : old.count ≡ length accounts
  count_first = none.count ∙ ap (λ (q : List ℕ). length q - 1) are ∙ (let l = length-map accounts (λ (a : Account). a.tracks) in omega (arith, l))

  -- behind the writing of first files
  pub first_files : (result : Result Unit StepFault) (new : DirectoriesState) → result ≡ Ok tt → Adds files result old new → HasFirstFiles common accounts files told new
  first_files result new is adds =
      let a : Adds files (Ok tt) old new = subst (λ (r : Result Unit StepFault). Adds files r old new) is adds in
      record {
        own = λ u pos within. a.own u pos (omega (arith, within, count_first)) ∙ ap (λ (b : Bool). known b (files_of u files)) none.tells;
        may = λ u pos within. a.users.may u ∙ may_first u pos within;
        common = a.common ∙ none.common;
        common_may = a.users.common ∙ none.common_may ∙ ap (λ (q : List ℕ). get_or q 0 0) are;
        count = a.users.count ∙ count_first;
        tells = a.tells ∙ none.tells;
      }

-- a disk that tells its records
pub told_is_some : (o : Option (List (List ℕ))) → tells_of o ≡ is_some o
unfolding tells_of
told_is_some None = refl
told_is_some (Some contents) = refl

-- what holds where a call answered Ok
pub on_ok : {E : Type 0} (r : Result Unit E) (Q : Type 0) → (r ≡ Ok tt → Q) → OnOk r Q
on_ok (Ok tt) Q f = f refl
on_ok (Err e) Q f = tt

pub on_ok_map : {T E : Type 0} (r : Result T E) (P Q : Type 0) → (P → Q) → OnOk r P → OnOk r Q
on_ok_map (Ok x) P Q f h = f h
on_ok_map (Err e) P Q f h = tt
