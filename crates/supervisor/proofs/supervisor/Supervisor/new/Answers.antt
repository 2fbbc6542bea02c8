use Rattle.std.proofs.Common.{List, map, replicate, sym, ◌∙◌, ap, subst}
use Rattle.time_sharing.specs.System.{Console}
use Rattle.console_texts.specs.Parts.{text_of}
use Rattle.console_texts.specs.Following.{AreShown}
use Rattle.console_texts.specs.Watching.{transcripts_of}
use Rattle.console_texts.proofs.Fresh.{fresh_shown, fresh_texts}
use Rattle.supervisor.specs.Shows.{rows_of}
use Rattle.supervisor.proofs.supervisor.Supervisor.new.Goals as goal

pub invariant_of-result : goal.invariant_of-result
invariant_of-result c = (
  c.in_ok-state.ensures.sound,
  subst (λ (cs : List Console). AreShown cs (transcripts_of c.in_ok-state.state.sessions.items) (rows_of c.in_ok-texts.texts)) (sym c.in_ok-state.ensures.off)
      (subst (AreShown (replicate 32 Rattle.time_sharing.specs.System.Off) (transcripts_of c.in_ok-state.state.sessions.items)) (sym c.in_ok-texts.ensures) (fresh_shown 32 (transcripts_of c.in_ok-state.state.sessions.items))),
)

pub returns-clause-texts : goal.returns-clause-texts
returns-clause-texts c = ap (map (text_of (transcripts_of c.in_ok-state.state.sessions.items))) c.in_ok-texts.ensures ∙ fresh_texts 32 1 (transcripts_of c.in_ok-state.state.sessions.items)
