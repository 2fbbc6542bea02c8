use Rattle.std.proofs.Common.{rules, ◌≡◌, ◌∙◌, refl, sym}
use Rattle.file_model.specs.Files.{written}
use Rattle.program_model.specs.Lines.{words_at}
use Rattle.user_model.proofs.CoreLaws.{recut_same}
use Rattle.user_session.proofs.Enters.{over_done, over_refused}
use Rattle.user_session.proofs.Files.{refused_change}
use Rattle.user_session.proofs.session.Session.write_file.Goals as goal

pub returns-in-Ok-clause-row : goal.returns-in-Ok-clause-row
returns-in-Ok-clause-row g c = λ now.
    let core = g.M.MemoryPort.words c.args.core.now in
    let fs = g.P.FilePort.files c.args.files.now in
    let words : c.deref.result.now ≡ words_at core c.args.buffer.at c.args.buffer.count = c.deref.ensures.value ∙ c.in_ok-words.ensures in
    let same : written c.args.name c.args.place (words_at core c.args.buffer.at c.args.buffer.count) c.args.self.now.inner.account.tracks fs ≡ written c.args.name c.args.place c.deref.result.now (g.P.FilePort.quota c.args.files.now) fs =
    λ j. written c.args.name c.args.place (sym words j) (sym c.requires.own.quota j) fs in
    over_done _ core core fs _ (written c.args.name c.args.place c.deref.result.now (g.P.FilePort.quota c.args.files.now) fs) _ (g.met.P.FilePort.is_known c.args.files.now c.requires.own.usable) c.in-Ok.ensures.left
    (λ has is. rw (same ∙ is) (refl, search rules, recut_same _ _ c.requires.can.size, refl, refl, refl, tt))

pub returns-in-Err-Refused-clause-row : goal.returns-in-Err-Refused-clause-row
returns-in-Err-Refused-clause-row g c = λ now.
    let core = g.M.MemoryPort.words c.args.core.now in
    let fs = g.P.FilePort.files c.args.files.now in
    let words : c.deref.result.now ≡ words_at core c.args.buffer.at c.args.buffer.count = c.deref.ensures.value ∙ c.in_ok-words.ensures in
    let same : written c.args.name c.args.place (words_at core c.args.buffer.at c.args.buffer.count) c.args.self.now.inner.account.tracks fs ≡ written c.args.name c.args.place c.deref.result.now (g.P.FilePort.quota c.args.files.now) fs =
    λ j. written c.args.name c.args.place (sym words j) (sym c.requires.own.quota j) fs in
    let change = refused_change (Unit {0}) c.in-Err-Refused.field-0 c.in-Err-Refused.refusal _ (written c.args.name c.args.place c.deref.result.now (g.P.FilePort.quota c.args.files.now) fs) fs _ c.in-Err-Refused.field-0-is c.in-Err-Refused.ensures.left in
    over_refused _ core core fs _ _ (g.met.P.FilePort.is_known c.args.files.now c.requires.own.usable) change.1 (rw (same ∙ change.0) (refl, search rules, recut_same _ _ c.requires.can.size, refl, refl, refl, tt))
