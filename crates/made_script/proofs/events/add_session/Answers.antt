use Rattle.std.proofs.Common.{ℕ, List, ◌∷◌, ◌++◌, [], ap, ◌∙◌}
use Rattle.ctss_types.specs.declared.script.Event.TheVariants as event
use Rattle.text_model.specs.Made.{at_console}
use Rattle.made_script.proofs.Loops.{six_more}
use Rattle.made_script.proofs.events.add_session.Goals as goal

pub returns : goal.returns
returns c =
    six_more c.args.list.now c.add.new.list c.add-2.new.list c.add-3.new.list c.add-4.new.list c.add-5.new.list c.add-6.new.list _ _ _ _ _ _
    c.in_ok-add.ensures
    (c.in_ok-add-2.ensures ∙ ap (λ (l : List ℕ). c.add.new.list ++ at_console c.args.user (event.Line l) ∷ []) c.numbered.ensures.value)
    (c.in_ok-add-3.ensures ∙ ap (λ (l : List ℕ). c.add-2.new.list ++ at_console c.args.user (event.Line l) ∷ []) c.numbered-2.ensures.value)
    (c.in_ok-add-4.ensures ∙ ap (λ (l : List ℕ). c.add-3.new.list ++ at_console c.args.user (event.Line l) ∷ []) c.of.ensures)
    (c.in_ok-add-5.ensures ∙ ap (λ (l : List ℕ). c.add-4.new.list ++ at_console c.args.user (event.Line l) ∷ []) c.of-2.ensures)
    (c.in_ok-add-6.ensures ∙ ap (λ (l : List ℕ). c.add-5.new.list ++ at_console c.args.user (event.Line l) ∷ []) c.of-3.ensures)
