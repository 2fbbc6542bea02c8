use Rattle.std.proofs.Common.{List, ap}
use Rattle.ctss_types.specs.declared.script.Account.{Account}
use Rattle.ctss_types.specs.declared.file.FileBody.{FileBody}
use Rattle.text_model.specs.Canonical.{user_cards, script_text_of}
use Rattle.text_writer.proofs.Added.{◌⨾◌, adds_is}
use Rattle.ctss_tomorrow.proofs.KeptFiles.{text_from}
use Rattle.ctss_tomorrow.proofs.base.text.add_next.Goals as goal

pub returns : goal.returns
unfolding script_text_of
returns g c =
    c.add_params.ensures
    ⨾ adds_is (ap (λ (l : List Account). user_cards 1 l) c.as_slice.ensures) c.add_users.ensures
    ⨾ adds_is (ap (λ (l : List (List FileBody)). text_from 1 l) c.as_slice-2.ensures) c.add_all_kept.ensures
    ⨾ c.add_end.ensures
