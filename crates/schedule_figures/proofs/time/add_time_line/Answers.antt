use Rattle.std.proofs.Common.{ℕ, ◌*◌, ap, ◌∙◌}
use Rattle.std.specs.Fmt.{decimal}
use Rattle.picture_model.specs.Figures.{total}
use Rattle.schedule_figures.specs.Time.{served_of, moved_of, idle_of}
use Rattle.schedule_figures.proofs.Times.{served_is, swapping_is, idle_is}
use Rattle.text_writer.proofs.Added.{◌⨾◌, adds_is}
use Rattle.schedule_figures.proofs.time.add_time_line.Goals as goal

pub returns : goal.returns
returns g c =
    c.add.ensures ⨾ c.add_number.ensures ⨾ c.add-2.ensures
    ⨾ adds_is (ap decimal (c.served_in.ensures ∙ ap (total served_of) c.as_slice-entries.ensures ∙ served_is c.args.run.now.entries)) c.add_number-2.ensures
    ⨾ c.add-3.ensures
    ⨾ adds_is
    (ap decimal (ap (λ (n : ℕ). c.args.swap * n) (c.moved_in.ensures.value ∙ ap (total moved_of) c.as_slice-entries.ensures) ∙ swapping_is c.args.swap c.args.run.now.entries))
    c.add_product.ensures
    ⨾ c.add-4.ensures
    ⨾ adds_is (ap decimal (c.idle_in.ensures ∙ ap (total idle_of) c.as_slice-entries.ensures ∙ idle_is c.args.run.now.entries)) c.add_number-3.ensures
    ⨾ c.add-5.ensures
