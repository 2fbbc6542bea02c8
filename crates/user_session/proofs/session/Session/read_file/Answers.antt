use Rattle.std.proofs.Common.{rules, ◌≡◌, ◌∙◌, ℕ, List, Err, refl, ap}
use Rattle.file_model.specs.Files.{read}
use Rattle.program_model.specs.Lines.{with_words}
use Rattle.user_model.specs.Inner.{recut}
use Rattle.user_model.proofs.CoreLaws.{recut_same}
use Rattle.user_session.proofs.Enters.{over_read}
use Rattle.user_session.proofs.Files.{refused_told}
use Rattle.user_session.proofs.session.Session.read_file.Goals as goal

pub returns-in-Ok-clause-row : goal.returns-in-Ok-clause-row
returns-in-Ok-clause-row g c = λ now.
    let told = c.in-Ok.ensures.answer in
    let words : recut c.args.self.now.inner.blocks (g.M.MemoryPort.words c.store_words.new.core) ≡ with_words (g.M.MemoryPort.words c.args.core.now) c.args.buffer.at c.in-Ok.words =
    recut_same c.args.self.now.inner.blocks (g.M.MemoryPort.words c.store_words.new.core) (g.met.M.MemoryPort.same_size _ _ c.store_words.ensures.keeps ∙ c.requires.can.size)
    ∙ c.store_words.ensures.words ∙ ap (λ (ws : List ℕ). with_words (g.M.MemoryPort.words c.args.core.now) c.args.buffer.at ws) c.as_slice.ensures in
    over_read _ (g.M.MemoryPort.words c.args.core.now) (g.M.MemoryPort.words c.store_words.new.core) (g.P.FilePort.files c.args.files.now) _ _ (c.in-Ok.ensures.left (λ e. cc))
    (told.0, told.1.0, rw told.1.1 (refl, search rules, words, refl, refl, refl, tt))

pub returns-in-Err-Refused-clause-row : goal.returns-in-Err-Refused-clause-row
returns-in-Err-Refused-clause-row g c = λ now.
    let told = c.in-Err-Refused.ensures.answer in
    let none : read c.args.name c.args.place c.args.buffer.count told.0 ≡ Err c.in-Err-Refused.refusal =
    refused_told {T = List ℕ} c.in-Err-Refused.field-0 c.in-Err-Refused.refusal (read c.args.name c.args.place c.args.buffer.count told.0) c.in-Err-Refused.field-0-is told.1.1 in
    over_read _ (g.M.MemoryPort.words c.args.core.now) (g.M.MemoryPort.words c.args.core.now) (g.P.FilePort.files c.args.files.now) _ _ (c.in-Err-Refused.ensures.left (λ e. (let k = c.in-Err-Refused.field-0-is in cc)))
    (told.0, told.1.0, rw none (refl, search rules, recut_same _ _ c.requires.can.size, refl, refl, refl, tt))
