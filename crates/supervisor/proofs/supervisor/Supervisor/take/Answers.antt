use Rattle.std.proofs.Common.{List, sym, ◌∙◌, ap, subst}
use Rattle.time_sharing.specs.System.{Console}
use Rattle.user_model.specs.User.{User}
use Rattle.supervisor.specs.Seen.{Bare}
use Rattle.supervisor.specs.Shows.{texts_of, MatchesConsoles}
use Rattle.supervisor.proofs.supervisor.Supervisor.take.Goals as goal

pub invariant_of-self : goal.invariant_of-self
invariant_of-self c = (
  c.take.ensures.sound,
  subst (λ (us : List User). MatchesConsoles c.take.new.self.consoles.items us c.self.inside.watch.texts) (sym c.take.ensures.sessions)
      (subst (λ (cs : List Console). MatchesConsoles cs c.self.inside.watch.state.sessions.items c.self.inside.watch.texts) (sym c.take.ensures.consoles) c.self.invariant.1),
)

pub returns-clause-texts : goal.returns-clause-texts
returns-clause-texts c = ap (λ (us : List User). texts_of us c.self.inside.watch.texts) c.take.ensures.sessions ∙ ap (λ (b : Bare). b.texts) c.self.view_is
