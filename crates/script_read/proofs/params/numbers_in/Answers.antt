use Rattle.std.proofs.Common.{length, sym, ap, ◌∙◌}
use Rattle.std.specs.Option.{option_map}
use Rattle.ctss_types.specs.Params.{param_limits}
use Rattle.text_model.specs.Fields.{number_in}
use Rattle.script_read.proofs.CardWords.{number_more, no_number, fields_read, fields_refused}
use Rattle.script_read.proofs.params.numbers_in.Goals as goal

pub returns-in_err-n : goal.returns-in_err-n
returns-in_err-n c =
    ap (option_map (λ numbers. numbers.items)) c.from_residual.ensures
    ∙ sym (fields_refused number_in c.numbers.numbers.items c.numbers.rest.now _ _ c.numbers.invariant (sym c.numbers-test.ensures) (no_number c.numbers.rest.now c.in_err-n.ensures))

pub numbers-preserved : goal.numbers-preserved
numbers-preserved c =
    rw c.push.ensures.items
    (number_more (length param_limits) c.numbers.numbers.items c.numbers.rest.now c.in_ok-n.more.now c.in_ok-n.n _ c.in_ok-n.ensures (sym c.numbers-test.ensures)
    c.if-is_full.ensures.value c.if-is_full.ensures.fits c.numbers.invariant)

pub returns : goal.returns
returns c = sym (fields_read number_in c.numbers.numbers.items c.numbers.rest.now _ _ c.numbers.invariant (sym c.numbers-test.ensures))
