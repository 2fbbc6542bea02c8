use Rattle.std.proofs.Common.{rules, ◌≡◌, ◌∙◌, Bool, sym, ap}
use Rattle.file_map.specs.Known.{known}
use Rattle.user_session.proofs.session.Session.link.Goals as goal

pub returns-in-Ok-clause-row : goal.returns-in-Ok-clause-row
returns-in-Ok-clause-row g c = λ core size.
    let told = c.in_ok-deck.ensures.answer in
    let reads = c.in_ok-deck.ensures.reads in
    let are : known (g.P.FilePort.tells c.deck_of_modules.new.files) told.0 ≡ g.P.FilePort.files c.deck_of_modules.new.files =
    ap (λ (b : Bool). known b told.0) (reads.uses.telling (λ e. cc)) ∙ told.1 ∙ sym (reads.files (λ e. cc)) in
    let row = c.put_file.ensures.row core told.0 size are in
    search rules
