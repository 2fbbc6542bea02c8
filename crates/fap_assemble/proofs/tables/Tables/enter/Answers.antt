use Rattle.std.proofs.Common.{◌+◌, max, ℕ, length, Option, ◌∙◌, sym, ap}
use Rattle.fap_model.specs.declared.types.Operation.{Operation}
use Rattle.fap_model.specs.Decks.{literal_by, with_literal, size_by, reach_of}
use Rattle.fap_assemble.specs.Fields.{known_at}
use Rattle.fap_assemble.specs.Steps.{place_by, value_by}
use Rattle.fap_assemble.specs.Passes.{symbol_entered}
use Rattle.fap_assemble.proofs.Passes.{entered, entered_reach, reach_most}
use Rattle.fap_assemble.proofs.tables.Tables.enter.Goals as goal

pub returns-clause-known : goal.returns-clause-known
returns-clause-known c =
    let t = c.args.self.now in
    let text = c.args.text.now in
    let k = known_at t.symbols (length t.symbols) t.place in
    let card = c.in_ok-card.card in
    let e = c.in_ok-card.ensures in
    let is = c.operation_in-op.ensures in
    entered t.symbols c.enter_symbol.new.symbols t.place card.next card.value text
    (e.next ∙ ap (λ (o : Option Operation). place_by o k text) is)
    (e.value ∙ ap (λ (o : Option Operation). value_by o k text) is)
    (c.in_ok-enter_symbol.ensures ∙ ap (λ (name : Option ℕ). symbol_entered t.symbols name card.value) c.definition.ensures)

pub returns-clause-literals : goal.returns-clause-literals
returns-clause-literals c =
    let text = c.args.text.now in
    c.in_ok-enter_literal.ensures.value
    ∙ ap (with_literal c.args.self.now.literals) (c.literal_by.ensures ∙ ap (λ (o : Option Operation). literal_by o text) c.operation_in-op.ensures)

pub returns-clause-reach : goal.returns-clause-reach
returns-clause-reach c =
    let t = c.args.self.now in
    let text = c.args.text.now in
    let k = known_at t.symbols (length t.symbols) t.place in
    let size = c.in_ok-card.card.size in
    c.reach_of-self.ensures
    ∙ ap (reach_of t.reach t.place) (sym (entered_reach t.symbols t.place size text (c.in_ok-card.ensures.size ∙ ap (λ (o : Option Operation). size_by o k text) c.operation_in-op.ensures)))

pub returns-clause-reach_within : goal.returns-clause-reach_within
returns-clause-reach_within c =
    let t = c.args.self.now in
    let size = c.in_ok-card.card.size in
    rw c.reach_of-self.ensures (reach_most t.reach t.place size (max 32768 (t.place + 1)) c.in_ok-card.ensures.size_within)
