use Rattle.std.proofs.Common.{◌∙◌, refl}
use Rattle.user_model.proofs.CoreLaws.{recut_same}
use Rattle.user_model.proofs.RowTurns.{fill_turn}
use Rattle.user_session.proofs.Enters.{over_read}
use Rattle.user_session.proofs.session.Session.fill_core.Goals as goal

pub returns-clause-turn : goal.returns-clause-turn
returns-clause-turn g c = λ now.
    let told = c.in_ok-store.ensures.ok in
    over_read _ (g.M.MemoryPort.words c.args.core.now) (g.M.MemoryPort.words c.store.new.core) (g.P.FilePort.files c.args.files.now) _ _ (c.in_ok-store.ensures.reads.files (λ e. cc)) (
      told.0,
      told.1,
      fill_turn now c.args.self.now _ _ _ c.args.with _ _ c.requires.works c.requires.waits c.requires.on
          (refl, told.2.user, recut_same _ _ (g.met.M.MemoryPort.same_size _ _ c.in_ok-store.ensures.core.keeps ∙ c.requires.can.size) ∙ told.2.core, refl, refl, refl, tt),
    )
