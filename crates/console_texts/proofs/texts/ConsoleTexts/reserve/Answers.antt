use Rattle.std.proofs.Common.{rules, ◌<◌, ◌≤◌, length, ◌∙◌, arith}
use Rattle.std.proofs.lemmas.List.Elements.{AllWithin-more_set, All-from_all_within, AllWithin-upto}
use Rattle.console_texts.specs.Parts.{Kept}
use Rattle.console_texts.proofs.Rows.{row_same}
use Rattle.console_texts.proofs.texts.ConsoleTexts.reserve.Goals as goal

pub returns-in_err-reserve-clause-shown : goal.returns-in_err-reserve-clause-shown
returns-in_err-reserve-clause-shown c =
    row_same c.rows.self-inside.rows.items c.rows.i c.index_mut.result.now c.reserve.new.self c.index_mut.ensures.value c.reserve.ensures.shown ∙ c.rows.invariant.shown

pub rows-preserved : goal.rows-preserved
rows-preserved c =
    let within : c.rows.i < length c.rows.self-inside.rows.items = let e = c.rows.invariant.end in let t = c.rows-test.true in omega (arith, e, t) in
    record {
      shown = row_same c.rows.self-inside.rows.items c.rows.i c.index_mut.result.now c.reserve.new.self c.index_mut.ensures.value c.reserve.ensures.shown ∙ c.rows.invariant.shown;
      room = AllWithin-more_set c.rows.self-inside.rows.items c.rows.i c.reserve.new.self within (λ (k : Kept). 4 ≤ k.room) c.rows.invariant.room c.in_ok-reserve.ensures.room;
      end = search rules;
    }

pub returns-clause-room : goal.returns-clause-room
returns-clause-room c =
    All-from_all_within (λ (k : Kept). 4 ≤ k.room) c.rows.self-inside.rows.items
    (AllWithin-upto (λ (k : Kept). 4 ≤ k.room) c.rows.self-inside.rows.items 0 c.rows.i (length c.rows.self-inside.rows.items) (let e = c.rows.invariant.end in let t = c.rows-test.false in omega (arith, e, t)) c.rows.invariant.room)
