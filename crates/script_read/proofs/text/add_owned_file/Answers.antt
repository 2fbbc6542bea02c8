use Rattle.std.specs.Prelude.{codes}
use Rattle.std.proofs.Common.{ap, ◌++◌}
use Rattle.ctss_types.specs.Names.{NamePair}
use Rattle.text_model.specs.Canonical.{word_cards}
use Rattle.text_model.specs.Parts.{line, name, number}
use Rattle.text_writer.proofs.Added.{◌⨾◌, adds_is}
use Rattle.script_read.proofs.text.add_owned_file.Goals as goal

pub returns : goal.returns
returns g c =
    adds_is
    (ap (λ (n : NamePair). line (codes "FILE" ++ (number c.args.owner ++ (name n.first ++ (name n.second ++ number c.args.body.now.mode)))))
    c.name.view_is)
    c.add_file_card.ensures
    ⨾ adds_is (ap word_cards c.as_slice.ensures) c.add_word_cards.ensures
