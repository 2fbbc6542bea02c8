-- The base of the next session is lawful.
use Rattle.std.proofs.Common.{◌≡◌, ℕ, ◌+◌, ◌-◌, ◌<◌, ◌≤◌, ◌^◌, true, not, ◌&&◌, nat_eq, nat_lt, List, [], length, filter, get_or}
use Rattle.std.proofs.Common.{refl, sym, subst, arith}
use Rattle.std.specs.List.{All, list_all}
use Rattle.std.proofs.lemmas.Bool.{and_parts, eqb-true, ltb-true}
use Rattle.std.proofs.lemmas.List.Elements.{All-nil, All-weaker}
use Rattle.std.proofs.lemmas.List.Sorted.{IsNonDecreasingBy-short}
use Rattle.ctss_types.specs.Words.{name_of, text_of_name}
use Rattle.ctss_types.specs.declared.script.Script.{Script}
use Rattle.ctss_types.specs.declared.script.Timed.{Timed}
use Rattle.ctss_types.specs.declared.file.FileBody.{FileBody}
use Rattle.ctss_types.specs.declared.file.OwnedFile.{OwnedFile}
use Rattle.ctss_types.proofs.NameText.{name_length}
use Rattle.file_model.specs.Owned.{files_of}
use Rattle.text_model.specs.Drafts.{quota_of}
use Rattle.text_model.specs.Lawful.{is_name_character, IsName, IsLawfulFile, IsLawfulEvent, IsLawful}
use Rattle.text_model.specs.Reading.{names_differ, IsInRange}
use Rattle.system_model.specs.Record.{record_of}
use Rattle.record_laws.specs.Rules.{KeepsRules}
use Rattle.record_laws.proofs.Changes.{fewer_keep}
use Rattle.record_laws.proofs.Directories.{directories_keep_rules}
use Rattle.ctss_tomorrow.specs.Tomorrow.{is_card_name, is_kept, files_kept, next_base}
use Rattle.ctss_tomorrow.specs.Laws.{HoldsWords, NextBasesAreLawful}
use Rattle.ctss_tomorrow.proofs.KeptLaws.{files_of_kept, each_of_kept, all_of_kept}
use Rattle.ctss_tomorrow.proofs.Users.{lists_of_files}

-- a name that a card can say is written in at most six characters
name_is_short : (word : ℕ) → length (text_of_name word) ≤ 6
unfolding text_of_name
name_is_short word = name_length word

-- a name that a card can say is one
card_name : (word : ℕ) → is_card_name word ≡ true → IsName word
card_name word h =
    let text = text_of_name word in
    let first = and_parts (nat_lt 0 (length text)) (list_all is_name_character text && nat_eq (name_of text) word) h in
    let second = and_parts (list_all is_name_character text) (nat_eq (name_of text) word) first.1 in
    record {
      text = text;
      word_is = sym (eqb-true (name_of text) word second.1);
      some = ltb-true 0 (length text) first.0;
      few = name_is_short word;
      characters = second.0;
    }

-- a file of a user of these accounts, as a base may have it
record IsFine (users : ℕ) (f : OwnedFile) : Type 0 where
  owner : (1 ≤ f.owner) × (f.owner ≤ users)
  mode : f.body.mode ≤ 3
  lawful : IsLawfulFile f

-- a kept file of a user, of such words and such a mode
kept_is_fine : (users u : ℕ) (f : FileBody) → 1 ≤ u → u ≤ users → f.mode ≤ 3 → All (λ w. w < 2 ^ 36) f.words
    → is_kept f ≡ true → IsFine users (record { owner = u; body = f })
kept_is_fine users u f from within mode words kept =
    let first = and_parts (not (nat_eq f.mode 0)) (is_card_name f.name.first && is_card_name f.name.second) kept in
    let names = and_parts (is_card_name f.name.first) (is_card_name f.name.second) first.1 in
    record {
      owner = (from, within);
      mode = mode;
      lawful =
          record { first = card_name f.name.first names.0; second = card_name f.name.second names.1; words = words };
    }

module _ (script : Script) (lawful : IsLawful script) (holds : HoldsWords (record_of script)) where
  -- the files that the run left
  abbrev left : List (List FileBody)
  left = (record_of script).files

  -- as many users as accounts
  abbrev users : ℕ
  users = length script.accounts

  -- all kept files are fine
  all_fine : All (IsFine users) (files_kept 1 left)
  all_fine = all_of_kept (IsFine users) 1 left each
    where
      each : (j : ℕ) → j < length left
          → All (λ (f : FileBody). is_kept f ≡ true → IsFine users (record { owner = 1 + j; body = f }))
          (get_or left j [])
      each j below i d inside kept =
          let many : length left ≡ users = lists_of_files script in
          let same : 1 + j - 1 ≡ j = omega arith in
          let ruled : KeepsRules (quota_of (1 + j) script.accounts) (get_or left j []) =
          subst (λ (n : ℕ). KeepsRules (quota_of (1 + j) script.accounts) (get_or left n [])) same
          ((directories_keep_rules script lawful.range).0 (1 + j) (omega arith) (omega arith)) in
          kept_is_fine users (1 + j) (get_or (get_or left j []) i d) (omega arith) (omega arith)
          (ruled.modes i d inside) (holds j [] below i d inside) kept

  -- what of a user's files is kept keeps the rules
  kept_rules : (u : ℕ) → 0 < u → u ≤ users
      → KeepsRules (quota_of u script.accounts) (filter is_kept (get_or left (u - 1) []))
  kept_rules u pos within =
      fewer_keep (quota_of u script.accounts) is_kept (get_or left (u - 1) [])
      ((directories_keep_rules script lawful.range).0 u pos within)

  -- the base is in range
  base_range : IsInRange (next_base script (record_of script))
  base_range =
      record {
        level = lawful.range.level;
        quantum = lawful.range.quantum;
        swap = lawful.range.swap;
        few = lawful.range.few;
        blocks = lawful.range.blocks;
        fits = lawful.range.fits;
        drum = lawful.range.drum;
        owners =
            All-weaker (IsFine users) (λ (f : OwnedFile). (1 ≤ f.owner) × (f.owner ≤ users)) (λ f h. h.owner)
            (files_kept 1 left) all_fine;
        modes =
            All-weaker (IsFine users) (λ (f : OwnedFile). f.body.mode ≤ 3) (λ f h. h.mode) (files_kept 1 left) all_fine;
        names =
            each_of_kept (λ (files : List FileBody). names_differ files ≡ true) left refl
            (λ u pos within.
            let many : length left ≡ users = lists_of_files script in (kept_rules u pos (omega arith)).differ);
        tracks = λ u from within.
            let ruled : KeepsRules (quota_of u script.accounts) (files_of u (files_kept 1 left)) =
            subst (KeepsRules (quota_of u script.accounts)) (sym (files_of_kept u left (omega arith)))
            (kept_rules u (omega arith) within) in
            ruled.tracks;
        seats = All-nil (λ (e : Timed). (1 ≤ e.console) × (e.console ≤ 32));
        ticks = omega arith;
      }

-- the whole base
pub next_bases_are_lawful : NextBasesAreLawful
next_bases_are_lawful script lawful holds =
    record {
      range = base_range script lawful holds;
      params = lawful.params;
      fits = lawful.fits;
      accounts = lawful.accounts;
      differ = lawful.differ;
      files =
          All-weaker (IsFine (length script.accounts)) IsLawfulFile (λ f h. h.lawful)
          (files_kept 1 (record_of script).files) (all_fine script lawful holds);
      events = All-nil (λ (e : Timed). IsLawfulEvent e.event);
      order = IsNonDecreasingBy-short (λ (n : ℕ). n) [] (omega arith);
      ends = All-nil (λ (e : Timed). e.tick ≤ 0);
    }
