-- The lines of a command file are read as if they had been typed.
use Rattle.std.proofs.Common.{◌≡◌, ℕ, suc, ◌+◌, ◌-◌, true, List, [], ◌∷◌, ◌++◌, Option, Some, None, is_some, ◌&&◌, length, refl, sym, ap, subst, ◌∙◌, inl, append_assoc}
use Rattle.std.specs.Prelude.{slice_get}
use Rattle.time_sharing.specs.Machine.{Line, Item, Reply, Done}
use Rattle.time_sharing.specs.Rows.{machine, behind, some_line}
use Rattle.time_sharing.specs.Private.{Alone, next_alone, steps, when, with_clock, with_reply}
use Rattle.time_sharing.specs.System.{clock_for}
use Rattle.time_sharing.proofs.Shifted.{Alike, steps_alike}
use Rattle.user_model.specs.declared.Command.TheVariants.{RunFile}
use Rattle.user_model.specs.Commands.{command_row, effect_row, file_run, lines_added}
use Rattle.user_model.specs.Session.{user_rows, AtCommand, counts_anew}
use Rattle.user_model.specs.User.{User, can_step, asks_clock, asks_common, step}
use Rattle.user_model.specs.Steps.{left}
use Rattle.user_model.specs.CommandFiles.{RunsFile, with_lines, run_items, IsBehind, FilesAreTyped}
use Rattle.user_model.proofs.StepLaws.{command_left, line_can, command_clock, command_makes}

append-nil : (xs : List Item) → xs ++ [] ≡ xs
append-nil [] = refl
append-nil (x ∷ xs) = ap (λ (ys : List Item). x ∷ ys) (append-nil xs)

first_is : (p : User) (line : Line) (rest lines : List Line) → RunsFile p line rest lines → slice_get p.unread 0 ≡ Some line
first_is p line rest lines h = ap (λ (ls : List Line). slice_get ls 0) h.unread

abbrev behind_run : User → Line → List Line → List Line → ℕ → User
behind_run p line rest lines t = record (with_lines lines rest p) { transcript = p.transcript ++ run_items line t; own = suc p.own; own_at_command = p.own }

-- the step
run_left : (p : User) (line : Line) (rest lines : List Line) (h : RunsFile p line rest lines) (t : ℕ) →
    left true (Some line) (command_row (RunFile h.name) p.inner (record { line = line; fed = p.fed - 1 }) 1 t) p ≡ behind_run p line rest lines t
unfolding left
run_left p line rest lines h t =
    (λ j. left true (Some line) (effect_row (file_run (h.read j) (record { line = line; fed = p.fed - 1 })) p.inner 1 t) p)
    ∙ (λ j. left true (Some line) (effect_row (lines_added (h.made j)) p.inner 1 t) p)
    ∙ (λ j. record p { on = sym h.on j; unread = lines ++ behind (Some line) (h.unread j); fed = length lines + (p.fed - 1); transcript = p.transcript ++ run_items line t; own = suc p.own; own_at_command = p.own })

run_step : (p : User) (line : Line) (rest lines : List Line) (h : RunsFile p line rest lines) (t : ℕ) → (machine user_rows).step p t Done ≡ behind_run p line rest lines t
unfolding step asks_clock
run_step p line rest lines h t =
    let first = first_is p line rest lines h in
    (λ j. (machine user_rows).step p (clock_for (sym (command_clock p line h.next first) j) t) Done)
    ∙ command_left t p line (RunFile h.name) h.next first h.asks refl
    ∙ run_left p line rest lines h t

run_next : (p : User) (line : Line) (rest lines : List Line) (h : RunsFile p line rest lines) (t : ℕ) (clocks : List ℕ) (replies : List Reply) →
    next_alone (machine user_rows) (record { state = p; clocks = t ∷ clocks; replies = replies }) ≡ Some (record { state = behind_run p line rest lines t; clocks = clocks; replies = replies })
unfolding can_step asks_clock asks_common
run_next p line rest lines h t clocks replies =
    let first = first_is p line rest lines h in
    let can : can_step p ≡ true = line_can AtCommand p h.next refl ∙ (λ j. (h.on j) && some_line (h.unread j)) in
    let clock : asks_clock p ≡ true = command_clock p line h.next first in
    let makes : asks_common p ≡ None = command_makes p line (RunFile h.name) h.next first h.asks in
    (λ j. when (can j) (with_clock (clock j) (t ∷ clocks) (λ u ts. with_reply (is_some (makes j)) replies (λ r rs. Some (record { state = (machine user_rows).step p u r; clocks = ts; replies = rs })))))
    ∙ (λ j. Some (record { state = run_step p line rest lines h t j; clocks = clocks; replies = replies }))

-- the steps after it
run_alike : (p : User) (line : Line) (rest lines : List Line) (h : RunsFile p line rest lines) (t : ℕ) (clocks : List ℕ) (replies : List Reply) →
    Alike user_rows (p.transcript ++ run_items line t) p.transcript (record { state = behind_run p line rest lines t; clocks = clocks; replies = replies }) (record { state = with_lines lines rest p; clocks = clocks; replies = replies })
run_alike p line rest lines h t clocks replies =
    record {
      said = [];
      at = p.own;
      is = λ j. record { state = record (with_lines lines rest p) { transcript = sym (append-nil (p.transcript ++ run_items line t)) j; own = suc p.own; own_at_command = p.own }; clocks = clocks; replies = replies };
      other = sym (append-nil p.transcript);
      count = inl (ap counts_anew h.next);
    }

behind_of : (a b : Alone User) (before first : List Item) → Alike user_rows (before ++ first) before a b → IsBehind a.state b.state before first
behind_of a b before first h =
    let same : a.state ≡ record b.state { transcript = (before ++ first) ++ h.said; own = suc b.state.own; own_at_command = h.at } = ap (λ (z : Alone User). z.state) h.is in
    record {
      said = h.said;
      mine = ap (λ (z : User). z.transcript) same ∙ append_assoc before first h.said;
      other = h.other;
      inner = ap (λ (z : User). z.inner) same;
      unread = ap (λ (z : User). z.unread) same;
      on = ap (λ (z : User). z.on) same;
      own = ap (λ (z : User). z.own) same;
    }

pub files_are_typed : FilesAreTyped
files_are_typed p line rest lines h t clocks replies =
    let a : Alone User = record { state = p; clocks = t ∷ clocks; replies = replies } in
    let b : Alone User = record { state = behind_run p line rest lines t; clocks = clocks; replies = replies } in
    let q : Alone User = record { state = with_lines lines rest p; clocks = clocks; replies = replies } in
    let goes = run_next p line rest lines h t clocks replies in (
      ap (λ (x : Option (Alone User)). elim x [ None ↦ a | Some e ↦ steps (machine user_rows) 0 e ]) goes,
      λ k. subst (λ (z : Alone User). IsBehind z.state (steps (machine user_rows) k q).state p.transcript (run_items line t))
          (sym (ap (λ (x : Option (Alone User)). elim x [ None ↦ a | Some e ↦ steps (machine user_rows) k e ]) goes))
          (behind_of (steps (machine user_rows) k b) (steps (machine user_rows) k q) p.transcript (run_items line t)
          (steps_alike user_rows (p.transcript ++ run_items line t) p.transcript k b q (run_alike p line rest lines h t clocks replies))),
    )
