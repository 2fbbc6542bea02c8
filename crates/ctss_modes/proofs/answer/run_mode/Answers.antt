use Rattle.std.proofs.Common.{◌≡◌, ◌∙◌, ◌≤◌, true, false, Option, Some, None, refl, ap, subst}
use Rattle.text_model.specs.declared.mode.Mode.{Mode}
use Rattle.text_model.specs.declared.mode.Mode.TheVariants.{Replay, Dump, Load, Asm, Serve}
use Rattle.ctss_modes.specs.Modes.{turns_asked}
use Rattle.ctss_modes.proofs.Allowed.{always}
use Rattle.ctss_modes.proofs.Answering.{answer_as, scripted, assembles, refuses}
use Rattle.ctss_modes.proofs.answer.run_mode.Goals as goal

pub serve_consoles-requires-clause-turns : goal.serve_consoles-requires-clause-turns
serve_consoles-requires-clause-turns g c = subst (λ (m : Option Mode). turns_asked m ≤ 100000) (c.in-Some.is ∙ ap Some c.in-Serve.is) c.requires.turns

pub returns-in-Replay : goal.returns-in-Replay
returns-in-Replay g c =
    answer_as c.args.asked (Some Replay) _ _ _ (c.in-Some.is ∙ ap Some c.in-Replay.is)
    (scripted Replay _ _ c.replay.result
    (record {
      runs = refl;
      statuses = c.replay.ensures.status;
      told = c.replay.ensures.statuses;
      answers = c.replay.ensures.answers _;
      unlinked = λ h. refl;
    }))

pub returns-in-Dump : goal.returns-in-Dump
returns-in-Dump g c =
    answer_as c.args.asked (Some Dump) _ _ _ (c.in-Some.is ∙ ap Some c.in-Dump.is)
    (scripted Dump _ _ c.replay-in-Dump.result
    (record {
      runs = refl;
      statuses = c.replay-in-Dump.ensures.status;
      told = c.replay-in-Dump.ensures.statuses;
      answers = c.replay-in-Dump.ensures.answers _;
      unlinked = λ h. refl;
    }))

pub returns-in-Load : goal.returns-in-Load
returns-in-Load g c =
    answer_as c.args.asked (Some (Load c.in-Load.n)) _ _ _ (c.in-Some.is ∙ ap Some c.in-Load.is)
    (scripted (Load c.in-Load.n) _ _ c.load.result
    (record {
      runs = refl;
      statuses = c.load.ensures.status;
      told = always _ _ c.load.ensures.status;
      answers = c.load.ensures.answers _ _;
      unlinked = λ h. refl;
    }))

pub returns-in-Asm : goal.returns-in-Asm
returns-in-Asm g c =
    answer_as c.args.asked (Some Asm) _ _ _ (c.in-Some.is ∙ ap Some c.in-Asm.is) (assembles _ _ c.asm.result (c.asm.ensures _ _) refl refl)

pub returns-in-Serve : goal.returns-in-Serve
returns-in-Serve g c =
    answer_as c.args.asked (Some (Serve c.in-Serve.port c.in-Serve.turns)) _ _ _ (c.in-Some.is ∙ ap Some c.in-Serve.is)
    (scripted (Serve c.in-Serve.port c.in-Serve.turns) _ _ c.serve_consoles.result
    (record {
      runs = refl;
      statuses = c.serve_consoles.ensures.status;
      told = c.serve_consoles.ensures.statuses;
      answers = c.serve_consoles.ensures.answers;
      unlinked = λ h. absurd (let wrong : true ≡ false = h in cc);
    }))

pub returns-in_default : goal.returns-in_default
returns-in_default g c =
    answer_as c.args.asked None _ _ _ c.in_default.is
    (refuses _ _ c.refuse_words.result
    (record {
      statuses = c.refuse_words.ensures.status;
      refused = c.refuse_words.ensures.refused;
      written = c.refuse_words.ensures.written;
      cut = c.refuse_words.ensures.cut;
      part = c.refuse_words.ensures.part;
      cause = c.refuse_words.ensures.cause;
      input = refl;
      media = refl;
      link = refl;
    }))
