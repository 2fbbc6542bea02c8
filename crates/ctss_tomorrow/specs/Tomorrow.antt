-- claim: the base script of the next session: what a run leaves is what the next one begins with.
use Rattle.std.specs.Prelude.{ℕ, suc, Bool, not, ◌&&◌, nat_eq, nat_lt, List, [], ◌∷◌, ◌++◌, length, map, filter}
use Rattle.std.specs.List.{list_all}
use Rattle.ctss_types.specs.Words.{name_of, text_of_name}
use Rattle.ctss_types.specs.declared.script.Script.{Script}
use Rattle.ctss_types.specs.declared.file.FileBody.{FileBody}
use Rattle.ctss_types.specs.declared.file.OwnedFile.{OwnedFile}
use Rattle.ctss_types.specs.declared.history.Record.{Record}
use Rattle.text_model.specs.Lawful.{is_name_character}

-- A card can say this name: it is written in one to six characters that are no blanks, and what is written means it. A program
-- may give a file any two words as its names.
abbrev pub is_card_name : ℕ → Bool
is_card_name word =
    nat_lt 0 (length (text_of_name word))
    && (list_all is_name_character (text_of_name word) && nat_eq (name_of (text_of_name word)) word)

-- a file that the next session begins with: it is not temporary, and a card can say its names
abbrev pub is_kept : FileBody → Bool
is_kept f = not (nat_eq f.mode 0) && (is_card_name f.name.first && is_card_name f.name.second)

-- the files of users numbered from u on
abbrev pub files_kept : ℕ → List (List FileBody) → List OwnedFile
files_kept u [] = []
files_kept u (files ∷ lists) =
    map (λ (f : FileBody). record { owner = u; body = f }) (filter is_kept files) ++ files_kept (suc u) lists

-- The same PARAM and accounts, the files that the run left, and no events. The common files begin empty, as ever.
abbrev pub next_base : Script → Record → Script
next_base script rec =
    record { params = script.params; accounts = script.accounts; files = files_kept 1 rec.files; events = []; end = 0 }
