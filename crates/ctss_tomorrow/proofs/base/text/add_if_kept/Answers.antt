use Rattle.std.proofs.Common.{Bool, [], sym, ap, ◌∙◌}
use Rattle.std.specs.Prelude.{if◌then◌else◌}
use Rattle.text_model.specs.Canonical.{file_cards}
use Rattle.text_writer.proofs.Added.{adds_is, adds_none}
use Rattle.ctss_tomorrow.proofs.base.text.add_if_kept.Goals as goal

pub returns-else-is_kept : goal.returns-else-is_kept
returns-else-is_kept g c =
    adds_is (ap (λ (b : Bool). if b then file_cards (record { owner = c.args.owner; body = c.args.file.now }) else [])
    (sym (sym c.is_kept.ensures ∙ c.if-is_kept.false))) (adds_none g.K.Sink c.args.out.now)
