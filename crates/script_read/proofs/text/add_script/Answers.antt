use Rattle.std.proofs.Common.{List, ap}
use Rattle.std.specs.List.{flat_map}
use Rattle.ctss_types.specs.declared.script.Account.{Account}
use Rattle.ctss_types.specs.declared.script.Timed.{Timed}
use Rattle.ctss_types.specs.declared.file.OwnedFile.{OwnedFile}
use Rattle.text_model.specs.Canonical.{user_cards, file_cards, event_card, script_text_of}
use Rattle.text_writer.proofs.Added.{◌⨾◌, adds_is}
use Rattle.script_read.proofs.text.add_script.Goals as goal

pub returns : goal.returns
unfolding script_text_of
returns g c =
    c.add_params.ensures
    ⨾ adds_is (ap (λ (l : List Account). user_cards 1 l) c.as_slice.ensures) c.add_users.ensures
    ⨾ adds_is (ap (λ (l : List OwnedFile). flat_map file_cards l) c.as_slice-2.ensures) c.add_files.ensures
    ⨾ adds_is (ap (λ (l : List Timed). flat_map event_card l) c.as_slice-3.ensures) c.add_events.ensures
    ⨾ c.add_end.ensures
