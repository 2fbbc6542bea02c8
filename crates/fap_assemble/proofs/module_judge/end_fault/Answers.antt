use Rattle.std.proofs.Common.{refl, is_none, ◌∙◌}
use Rattle.fap_model.specs.declared.types.Operation.TheVariants.{End as end}
use Rattle.link_model.specs.ModuleCards.{card_kind}
use Rattle.fap_assemble.specs.Judging.{relocated_in, moved_at}
use Rattle.fap_assemble.proofs.Judging.{end_read}
use Rattle.fap_assemble.proofs.module_judge.end_fault.Goals as goal

pub returns : goal.returns
returns c =
    c.fault_known.ensures
    ∙ end_read (relocated_in c.args.r.now) c.args.past.now (moved_at c.args.r.now c.args.spot) c.args.text.now c.in_ok-said.said c.is_known.result c.is_end_wrong-wrong.result
    c.is_known.ensures (is_none (card_kind end (relocated_in c.args.r.now) (moved_at c.args.r.now c.args.spot) c.args.text.now)) c.words_behind-more.result
    c.in_ok-said.ensures.value refl c.words_behind-more.ensures c.is_end_wrong-wrong.ensures
