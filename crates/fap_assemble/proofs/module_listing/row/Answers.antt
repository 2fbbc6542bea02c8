use Rattle.std.proofs.Common.{◌∙◌, sym}
use Rattle.fap_assemble.specs.Judging.{relocated_in, moved_at}
use Rattle.fap_assemble.proofs.ModuleListings.{row_is}
use Rattle.fap_assemble.proofs.module_listing.row.Goals as goal

pub words_placed-requires-clause-sound : goal.words_placed-requires-clause-sound
words_placed-requires-clause-sound c = λ h. (c.args.past.now, sym c.in_ok-fault.ensures ∙ h)

pub returns : goal.returns
returns c =
    row_is (relocated_in c.args.r.now) c.args.past.now (moved_at c.args.r.now c.args.spot) c.args.text.now c.module_operation-op.result c.in_ok-fault.fault
    c.in_ok-reserved.reserved c.kind_placed.result c.in_ok-words.words c.module_operation-op.ensures c.in_ok-fault.ensures c.in_ok-reserved.ensures c.kind_placed.ensures
    c.in_ok-words.ensures
