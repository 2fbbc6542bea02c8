-- claim: the lines of a command file are read as if they had been typed before those unread.
use Rattle.std.specs.Prelude.{◌≡◌, ℕ, suc, ◌+◌, ◌-◌, true, List, [], ◌∷◌, ◌++◌, length, drop, Ok}
use Rattle.ctss_types.specs.Words.{words_of}
use Rattle.time_sharing.specs.Machine.{Line, Item, In, Out, Reply}
use Rattle.time_sharing.specs.Rows.{machine}
use Rattle.time_sharing.specs.Private.{steps}
use Rattle.file_model.specs.Files.{got}
use Rattle.program_model.specs.CommandLines.{command_lines}
use Rattle.user_model.specs.declared.Command.TheVariants.{RunFile}
use Rattle.user_model.specs.Commands.{command_file}
use Rattle.user_model.specs.Requests.{command_of}
use Rattle.user_model.specs.Session.{user_rows, AtCommand, next_of}
use Rattle.user_model.specs.Texts.{time_text, ready_text}
use Rattle.user_model.specs.User.{User}

-- The next step of p takes this line, as the command to run a file, and the file with its arguments comes to these lines.
pub record RunsFile (p : User) (line : Line) (rest : List Line) (lines : List Line) : Type 0 where
  pub on : p.on ≡ true
  pub next : next_of p.inner ≡ AtCommand
  pub unread : p.unread ≡ line ∷ rest
  pub name : ℕ
  pub asks : command_of line ≡ RunFile name
  pub words : List ℕ
  pub read : got (command_file name) p.inner.files ≡ Ok words
  pub made : command_lines words (drop 2 (words_of line)) (256 - (p.fed - 1)) ≡ Ok lines

-- p with that line replaced by these lines, which are a command file's
abbrev pub with_lines : List Line → List Line → User → User
with_lines lines rest p = record p { unread = lines ++ rest; fed = length lines + (p.fed - 1) }

-- what the command says
abbrev pub run_items : Line → ℕ → List Item
run_items line t = In line ∷ Out (time_text t) ∷ Out (ready_text 1) ∷ []

-- a with one own step more, and with these items before what both said after that
pub record IsBehind (a b : User) (before first : List Item) : Type 0 where
  pub said : List Item
  pub mine : a.transcript ≡ before ++ (first ++ said)
  pub other : b.transcript ≡ before ++ said
  pub inner : a.inner ≡ b.inner
  pub unread : a.unread ≡ b.unread
  pub on : a.on ≡ b.on
  pub own : a.own ≡ suc b.own

-- Where p runs a file, the step leads to p with the file's lines in place of the command, but for the three items of the command, its own step and
-- its clock answer; and from there all steps are alike.
abbrev pub FilesAreTyped : Type 0
FilesAreTyped =
    (p : User) (line : Line) (rest lines : List Line) → RunsFile p line rest lines → (t : ℕ) (clocks : List ℕ) (replies : List Reply) →
    let m = machine user_rows in
    let q = with_lines lines rest p in
    (steps m 1 (record { state = p; clocks = t ∷ clocks; replies = replies })
    ≡ record { state = record q { transcript = p.transcript ++ run_items line t; own = suc p.own; own_at_command = p.own }; clocks = clocks; replies = replies })
    × ((k : ℕ) → IsBehind (steps m (suc k) (record { state = p; clocks = t ∷ clocks; replies = replies })).state (steps m k (record { state = q; clocks = clocks; replies = replies })).state p.transcript (run_items line t))
