use Rattle.std.proofs.Common.{◌∙◌, ℕ, List, [], ◌∷◌, ◌++◌, refl, ap}
use Rattle.std.specs.Prelude.{codes}
use Rattle.text_model.specs.declared.mode.Mode.TheVariants.{Replay}
use Rattle.text_model.specs.Words.{mode_of}
use Rattle.promises.proofs.Replays.{replay_done, replay_refused, replay_stopped, replay_lost, replay_cut, replay_silent}
use Rattle.promises.proofs.replaying.replay.Goals as goal

pub returns-clause-done : goal.returns-clause-done
returns-clause-done c = λ zero.
    let run = c.run_ctss-outcome in
    let asked = ap mode_of (c.in_ok-add.ensures.ok ∙ ap (λ (ws : List (List ℕ)). ws ++ codes "replay" ∷ []) c.new-words.ensures) in
    replay_done c.add.new.self c.args.script.now c.args.reads_fail.now c.args.puts_fail.now c.args.room _ _ _ c.in_ok-input.input c.in_ok-output.output c.in_ok-input.ensures c.in_ok-output.ensures
    c.requires.ready (run.ensures.headline Replay asked refl zero)

pub returns-clause-refused : goal.returns-clause-refused
returns-clause-refused c = λ two.
    let run = c.run_ctss-outcome in
    let asked = ap mode_of (c.in_ok-add.ensures.ok ∙ ap (λ (ws : List (List ℕ)). ws ++ codes "replay" ∷ []) c.new-words.ensures) in
    replay_refused c.add.new.self c.args.script.now c.args.reads_fail.now c.args.puts_fail.now c.args.room _ _ _ c.in_ok-input.input c.in_ok-output.output c.in_ok-input.ensures c.in_ok-output.ensures
    asked run.ensures.refusals two

pub returns-clause-cut_short : goal.returns-clause-cut_short
returns-clause-cut_short c = λ four.
    let run = c.run_ctss-outcome in
    let asked = ap mode_of (c.in_ok-add.ensures.ok ∙ ap (λ (ws : List (List ℕ)). ws ++ codes "replay" ∷ []) c.new-words.ensures) in
    replay_cut c.add.new.self c.args.script.now c.args.reads_fail.now c.args.puts_fail.now c.args.room _ _ _ c.in_ok-input.input c.in_ok-output.output c.in_ok-input.ensures c.in_ok-output.ensures
    c.requires.ready asked (run.ensures.cut_off four)

pub returns-clause-stopped : goal.returns-clause-stopped
returns-clause-stopped c = λ five.
    let run = c.run_ctss-outcome in
    let asked = ap mode_of (c.in_ok-add.ensures.ok ∙ ap (λ (ws : List (List ℕ)). ws ++ codes "replay" ∷ []) c.new-words.ensures) in
    replay_stopped c.add.new.self c.args.script.now c.args.reads_fail.now c.args.puts_fail.now c.args.room _ _ _ c.in_ok-input.input c.in_ok-output.output c.in_ok-input.ensures c.in_ok-output.ensures
    c.stopped_runs_are_beginnings.ensures c.requires.ready asked (run.ensures.stopped five)

pub returns-clause-lost : goal.returns-clause-lost
returns-clause-lost c = λ six.
    let run = c.run_ctss-outcome in
    let asked = ap mode_of (c.in_ok-add.ensures.ok ∙ ap (λ (ws : List (List ℕ)). ws ++ codes "replay" ∷ []) c.new-words.ensures) in
    replay_lost c.add.new.self c.args.script.now c.args.reads_fail.now c.args.puts_fail.now c.args.room _ _ _ c.in_ok-input.input c.in_ok-output.output c.in_ok-input.ensures c.in_ok-output.ensures
    c.stopped_runs_are_beginnings.ensures c.requires.ready asked (run.ensures.lost six)

pub returns-clause-silent : goal.returns-clause-silent
returns-clause-silent c =
    let run = c.run_ctss-outcome in
    let asked = ap mode_of (c.in_ok-add.ensures.ok ∙ ap (λ (ws : List (List ℕ)). ws ++ codes "replay" ∷ []) c.new-words.ensures) in
    replay_silent c.add.new.self c.args.script.now c.args.reads_fail.now c.args.puts_fail.now c.args.room _ _ _ c.in_ok-input.input c.in_ok-output.output c.in_ok-input.ensures c.in_ok-output.ensures
    c.stopped_runs_are_beginnings.ensures c.requires.ready asked run.ensures.silent run.ensures.spent
