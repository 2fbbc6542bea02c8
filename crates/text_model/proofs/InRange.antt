-- Every script that is read has its numbers in range.
use Rattle.std.proofs.Common.{◌≡◌, ℕ, ◌+◌, ◌≤◌, true, not, ◌&&◌, nat_eq, nat_le, nat_lt, List, [], ◌∷◌, ◌++◌, length, Option, Some, None, Ok, refl, sym, ap, subst, ◌∙◌, arith}
use Rattle.std.specs.List.{All, list_any}
use Rattle.std.specs.Option.{is_some}
use Rattle.std.specs.Prelude.{option_to_list}
use Rattle.std.proofs.lemmas.Bool.{eqb-true, not-true}
use Rattle.std.proofs.lemmas.List.{length_push, nil_from_length}
use Rattle.std.proofs.lemmas.List.Elements.{All-nil, All-push}
use Rattle.std.proofs.lemmas.List.Sums.{sum-map, sum_by_push}
use Rattle.ctss_types.specs.Params.{param_limits, numbers_of, are_within}
use Rattle.ctss_types.specs.declared.script.Params.{Params}
use Rattle.ctss_types.specs.declared.script.Account.{Account}
use Rattle.ctss_types.specs.declared.script.Timed.{Timed}
use Rattle.ctss_types.specs.declared.file.OwnedFile.{OwnedFile}
use Rattle.file_model.specs.Files.{tracks_of}
use Rattle.file_model.specs.Owned.{files_of}
use Rattle.program_model.specs.Lines.{words_of_line}
use Rattle.text_model.specs.declared.cause.ScriptCause.TheVariants.{NotACard, TimeFalls, UnknownNumber, OverLimit, DrumSmall, DiskSmall}
use Rattle.text_model.specs.declared.card.UserCard.{UserCard}
use Rattle.text_model.specs.declared.card.FileCard.{FileCard}
use Rattle.text_model.specs.declared.card.CardText.{CardText}
use Rattle.text_model.specs.declared.card.CardText.TheVariants as card_text
use Rattle.text_model.specs.declared.card.CardEvent.{CardEvent}
use Rattle.text_model.specs.declared.card.CardEvent.TheVariants as card_event
use Rattle.text_model.specs.Fields.{is_within}
use Rattle.text_model.specs.Drafts.{Draft, empty_draft, all_files, max_tick, with_params, is_new_account, is_account_in_limits, with_account, quota_of, with_last, empty_file, is_same_file, is_new_file, is_file_in_limits, with_file, longer, with_words_of, with_words, with_text, with_event_at, with_end}
use Rattle.text_model.specs.Reading.{blocks_of, IsInRange, ScriptsAreInRange}
use Rattle.text_model.proofs.Files.{FilesFit, none_fit, new_file_fits, longer_file_fits}
use Rattle.text_model.proofs.Drafted.{both, at_most, within, passed, escaped, allowed, never, not_below, given, IsKept, read}
use Rattle.text_model.proofs.ParamLaws.{param_within}

-- params in range
abbrev ParamsFit : Params → Type 0
ParamsFit p = (1 ≤ p.wq) × (p.quantum ≤ 1000000) × (p.swap ≤ 1000000) × (p.drum ≤ 3840)

-- an account in range
abbrev HasBlocks : Account → Type 0
HasBlocks a = a.blocks ≤ 128

-- an event in range
abbrev HasConsole : Timed → Type 0
HasConsole e = (1 ≤ e.console) × (e.console ≤ 32)

-- the limits of PARAM
params_fit : (p : Params) → are_within param_limits (numbers_of p) ≡ true → ParamsFit p
params_fit p h = ((param_within p 0 h (omega arith)).0, (param_within p 1 h (omega arith)).1, (param_within p 2 h (omega arith)).1, (param_within p 3 h (omega arith)).1)

-- what the cards so far keep; `added` says that a draft's blocks are the sum of its accounts'
record Fits (d : Draft) : Type 0 where
  params : (p : Params) → d.params ≡ Some p → ParamsFit p
  few : length d.accounts ≤ 30
  blocks : All HasBlocks d.accounts
  added : blocks_of d.accounts ≡ d.blocks
  unset : d.params ≡ None → d.blocks ≡ 0
  drum : (p : Params) → d.params ≡ Some p → d.blocks ≤ p.drum
  files : FilesFit d.accounts (all_files d)
  seats : All HasConsole d.events
  ticks : (tick : ℕ) → d.end ≡ Some tick → tick ≤ max_tick

-- the empty draft keeps it
empty_fits : Fits empty_draft
empty_fits =
    record {
      params = λ p h. cc;
      few = omega arith;
      blocks = All-nil HasBlocks;
      added = refl;
      unset = λ h. refl;
      drum = λ p h. omega arith;
      files = none_fit [];
      seats = All-nil HasConsole;
      ticks = λ t h. cc;
    }

-- PARAM keeps it
with_params_fits : (d e : Draft) (p : Params) → d.params ≡ None → Fits d → with_params d p ≡ Ok e → Fits e
with_params_fits d e p none fits h =
    let made : Draft = record d { params = Some p } in
    let first = passed (are_within param_limits (numbers_of p)) OverLimit _ e h in
    let second = escaped (nat_lt p.disk p.common) DiskSmall (Ok made) e first.1 in
    let ok : ParamsFit p = params_fit p first.0 in
    let empty : d.blocks ≡ 0 = fits.unset none in
    subst Fits (given made e second.1)
    (record {
      params = λ q k. (let s : p ≡ q = cc in subst ParamsFit s ok);
      few = fits.few;
      blocks = fits.blocks;
      added = fits.added;
      unset = λ k. empty;
      drum = λ q k. omega arith;
      files = fits.files;
      seats = fits.seats;
      ticks = fits.ticks;
    })

-- the blocks of one account more
blocks_more : (accounts : List Account) (a : Account) → blocks_of (accounts ++ a ∷ []) ≡ blocks_of accounts + a.blocks
blocks_more accounts a =
    let f : Account → ℕ = λ x. x.blocks in
    sum-map f (accounts ++ a ∷ []) ∙ sum_by_push f accounts a ∙ ap (λ (n : ℕ). n + a.blocks) (sym (sum-map f accounts))

-- an account stands before files and events
before_files : (d : Draft) (name : ℕ) → is_new_account d name ≡ true → all_files d ≡ []
before_files d name h =
    let two = both (nat_eq (length d.events) 0 && nat_eq (length (all_files d)) 0) (not (list_any (λ (x : Account). nat_eq x.name name) d.accounts)) h in
    let one = both (nat_eq (length d.events) 0) (nat_eq (length (all_files d)) 0) two.0 in
    nil_from_length (all_files d) (eqb-true (length (all_files d)) 0 one.1)

-- the limits of USER
account_fits : (c : UserCard) → is_account_in_limits c ≡ true → (c.number ≤ 30) × (c.blocks ≤ 128)
account_fits c h =
    let two = both (is_within 1 30 c.number && is_within 1 128 c.blocks) (nat_le c.tracks 10000) h in
    let one = both (is_within 1 30 c.number) (is_within 1 128 c.blocks) two.0 in
    ((within 1 30 c.number one.0).1, (within 1 128 c.blocks one.1).1)

-- USER keeps it
with_account_fits : (d e : Draft) (p : Params) (c : UserCard) → d.params ≡ Some p → Fits d → with_account d p c ≡ Ok e → Fits e
with_account_fits d e p c set fits h =
    let a : Account = record { name = c.name; password = c.password; blocks = c.blocks; tracks = c.tracks } in
    let made : Draft = record d { accounts = d.accounts ++ a ∷ []; blocks = d.blocks + c.blocks; tracks = d.tracks + c.tracks } in
    let first = passed (is_new_account d c.name) NotACard _ e h in
    let second = passed (is_account_in_limits c) OverLimit _ e first.1 in
    let third = passed (nat_eq c.number (length d.accounts + 1)) UnknownNumber _ e second.1 in
    let fourth = escaped (nat_lt p.drum (d.blocks + c.blocks)) DrumSmall _ e third.1 in
    let fifth = escaped (nat_lt p.disk (p.common + d.tracks + c.tracks)) DiskSmall (Ok made) e fourth.1 in
    let none : all_files d ≡ [] = before_files d c.name first.0 in
    let ok : (c.number ≤ 30) × (c.blocks ≤ 128) = account_fits c second.0 in
    let number : c.number ≡ length d.accounts + 1 = eqb-true c.number (length d.accounts + 1) third.0 in
    let room : d.blocks + c.blocks ≤ p.drum = not_below p.drum (d.blocks + c.blocks) fourth.0 in
    subst Fits (given made e fifth.1)
    (record {
      params = fits.params;
      few = omega (arith, length_push d.accounts a, number, ok.0);
      blocks = All-push HasBlocks d.accounts a fits.blocks ok.1;
      added = blocks_more d.accounts a ∙ ap (λ (m : ℕ). m + c.blocks) fits.added;
      unset = λ k. absurd (cc (set, k));
      drum = λ q k. (let s : p ≡ q = cc (set, k) in subst (λ (r : Params). d.blocks + c.blocks ≤ r.drum) s room);
      files = subst (FilesFit (d.accounts ++ a ∷ [])) (sym none) (none_fit (d.accounts ++ a ∷ []));
      seats = fits.seats;
      ticks = fits.ticks;
    })

-- a last file that fits, if its tracks do
with_last_fits : (d e : Draft) (files : List OwnedFile) (f : OwnedFile) → Fits d
    → (tracks_of (files_of f.owner (files ++ f ∷ [])) ≤ quota_of f.owner d.accounts → FilesFit d.accounts (files ++ f ∷ [])) → with_last d files f ≡ Ok e → Fits e
with_last_fits d e files f fits made h =
    let t = escaped (nat_lt (quota_of f.owner d.accounts) (tracks_of (files_of f.owner (files ++ f ∷ [])))) OverLimit (Ok (record d { files = files; file = Some f })) e h in
    let room : tracks_of (files_of f.owner (files ++ f ∷ [])) ≤ quota_of f.owner d.accounts = not_below _ _ t.0 in
    subst Fits (given _ e t.1)
    (record {
      params = fits.params;
      few = fits.few;
      blocks = fits.blocks;
      added = fits.added;
      unset = fits.unset;
      drum = fits.drum;
      files = made room;
      seats = fits.seats;
      ticks = fits.ticks;
    })

-- the limits of FILE
file_fits : (c : FileCard) → is_file_in_limits c ≡ true → (1 ≤ c.owner) × (c.mode ≤ 3)
file_fits c h =
    let one = both (is_within 1 30 c.owner) (nat_le c.mode 3) h in
    ((within 1 30 c.owner one.0).0, at_most c.mode 3 one.1)

-- FILE keeps it
with_file_fits : (d e : Draft) (c : FileCard) → Fits d → with_file d c ≡ Ok e → Fits e
with_file_fits d e c fits h =
    let first = passed (is_new_file d c) NotACard _ e h in
    let second = passed (is_file_in_limits c) OverLimit _ e first.1 in
    let third = escaped (nat_lt (length d.accounts) c.owner) UnknownNumber (with_last d (all_files d) (empty_file c)) e second.1 in
    let new = both (nat_eq (length d.events) 0) (not (list_any (is_same_file (empty_file c)) (all_files d))) first.0 in
    let ok = file_fits c second.0 in
    with_last_fits d e (all_files d) (empty_file c) fits
    (new_file_fits d.accounts (all_files d) (empty_file c) fits.files (ok.0, not_below (length d.accounts) c.owner third.0) ok.1 (not-true _ new.1)) third.1

-- words behind a file keep it
words_fit : (file : Option OwnedFile) (d e : Draft) (ws : List ℕ) → d.file ≡ file → Fits d → with_words_of file d ws ≡ Ok e → Fits e
words_fit None d e ws last fits h = cc
words_fit (Some f) d e ws last fits h =
    let t = allowed (nat_eq (length d.events) 0) NotACard (with_last d d.files (longer ws f)) e h in
    let files : FilesFit d.accounts (d.files ++ f ∷ []) = subst (λ (o : Option OwnedFile). FilesFit d.accounts (d.files ++ option_to_list o)) last fits.files in
    with_last_fits d e d.files (longer ws f) fits (longer_file_fits d.accounts d.files f ws files) t.1

-- O keeps it
with_words_fits : (d e : Draft) (ws : List ℕ) → Fits d → with_words d ws ≡ Ok e → Fits e
with_words_fits d e ws fits h = words_fit d.file d e ws refl fits h

-- T keeps it
with_text_fits : (d e : Draft) (t : CardText) → Fits d → with_text d t ≡ Ok e → Fits e
with_text_fits d e (card_text.Fits l) fits h = with_words_fits d e (words_of_line 14 l) fits h
with_text_fits d e card_text.TooLong fits h = absurd (never (is_some d.file && nat_eq (length d.events) 0) OverLimit NotACard e h)

-- AT keeps it
with_event_fits : (d e : Draft) (tick console : ℕ) (x : CardEvent) → Fits d → with_event_at d tick console x ≡ Ok e → Fits e
with_event_fits d e tick console card_event.TooLong fits h = cc
with_event_fits d e tick console (card_event.Fits x) fits h =
    let timed : Timed = record { tick = tick; console = console; event = x } in
    let made : Draft = record d { events = d.events ++ timed ∷ []; tick = tick } in
    let first = passed (nat_le tick max_tick && is_within 1 32 console) OverLimit _ e h in
    let second = escaped (nat_lt tick d.tick) TimeFalls (Ok made) e first.1 in
    let limits = both (nat_le tick max_tick) (is_within 1 32 console) first.0 in
    subst Fits (given made e second.1)
    (record {
      params = fits.params;
      few = fits.few;
      blocks = fits.blocks;
      added = fits.added;
      unset = fits.unset;
      drum = fits.drum;
      files = fits.files;
      seats = All-push HasConsole d.events timed fits.seats (within 1 32 console limits.1);
      ticks = fits.ticks;
    })

-- END keeps it
with_end_fits : (d e : Draft) (tick : ℕ) → Fits d → with_end d tick ≡ Ok e → Fits e
with_end_fits d e tick fits h =
    let made : Draft = record d { end = Some tick } in
    let first = escaped (nat_lt max_tick tick) OverLimit _ e h in
    let second = escaped (nat_lt tick d.tick) TimeFalls (Ok made) e first.1 in
    let ok : tick ≤ max_tick = not_below max_tick tick first.0 in
    subst Fits (given made e second.1)
    (record {
      params = fits.params;
      few = fits.few;
      blocks = fits.blocks;
      added = fits.added;
      unset = fits.unset;
      drum = fits.drum;
      files = fits.files;
      seats = fits.seats;
      ticks = λ t k. (let same : tick ≡ t = cc in subst (λ (n : ℕ). n ≤ max_tick) same ok);
    })

-- every card keeps it
fits_kept : IsKept Fits
fits_kept =
    record {
      start = empty_fits;
      param = λ d e text p fits none form h. with_params_fits d e p none fits h;
      user = λ d e p text c fits set form h. with_account_fits d e p c set fits h;
      file = λ d e text c fits form h. with_file_fits d e c fits h;
      words = λ d e text ws fits form h. with_words_fits d e ws fits h;
      text = λ d e text t fits form h. with_text_fits d e t fits h;
      event = λ d e text c fits none form h. with_event_fits d e c.tick c.console c.event fits h;
      end = λ d e text tick fits form h. with_end_fits d e tick fits h;
    }

-- the script of such a draft is in range
script_fits : (d : Draft) (p : Params) (end : ℕ) → Fits d → d.params ≡ Some p → d.end ≡ Some end
    → IsInRange (record { params = p; accounts = d.accounts; files = all_files d; events = d.events; end = end })
script_fits d p end fits e g =
    let ok = fits.params p e in
    let room : d.blocks ≤ p.drum = fits.drum p e in
    record {
      level = ok.0;
      quantum = ok.1;
      swap = ok.2;
      few = fits.few;
      blocks = fits.blocks;
      fits = subst (λ (n : ℕ). n ≤ p.drum) (sym fits.added) room;
      drum = ok.3;
      owners = fits.files.owners;
      modes = fits.files.modes;
      names = fits.files.names;
      tracks = λ u low high. fits.files.tracks u;
      seats = fits.seats;
      ticks = fits.ticks end g;
    }

-- every script that is read is in range
pub scripts_are_in_range : ScriptsAreInRange
scripts_are_in_range bytes s h =
    let r = read Fits fits_kept bytes s h in
    subst IsInRange r.is (script_fits r.draft r.params r.end r.kept r.set r.ended)
