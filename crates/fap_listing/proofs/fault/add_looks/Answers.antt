use Rattle.std.proofs.Common.{rules, ap, ◌∙◌}
use Rattle.fap_listing.specs.Faults.{dark_column}
use Rattle.fap_listing.proofs.Rows.{look_same, looks_of}
use Rattle.text_writer.proofs.Added.{◌⨾◌, adds_is}
use Rattle.fap_listing.proofs.fault.add_looks.Goals as goal

pub returns-then-not-is_comment : goal.returns-then-not-is_comment
returns-then-not-is_comment g c =
    adds_is (looks_of c.args.text.now (search rules))
    (adds_is (look_same _ _ _ (c.dark_column-seventh.ensures ∙ ap (dark_column 7) c.part.ensures.value)) c.add_look.ensures
    ⨾ adds_is (look_same _ _ _ c.early_column-early.ensures) c.add_look-then-not-is_comment.ensures
    ⨾ adds_is (look_same _ _ _ c.late_column.ensures) c.add_look-then-not-is_comment-2.ensures)
