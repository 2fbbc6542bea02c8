use Rattle.std.proofs.Common.{◌≤◌, Option, subst}
use Rattle.text_model.specs.declared.mode.Mode.{Mode}
use Rattle.ctss_modes.specs.Modes.{turns_asked}
use Rattle.promises.proofs.Consoles.{repeats, cut_to}
use Rattle.promises.proofs.comparing.serve_and_replay.Goals as goal

pub returns : goal.returns
returns c = λ first_zero second_zero.
    repeats c.live_scripts_are_read.ensures c.args.base.now c.args.port c.args.turns c.args.len _ _ _ _ _ _ _
    (subst (λ (m : Option Mode). turns_asked m ≤ 100000) c.requires.asked (c.turns_are_few.ensures c.args.words.now))
    (cut_to c.min.result c.args.len c.bytes-written.result.now _ c.min.ensures c.bytes-written.ensures.bytes) (c.in_ok-second.ensures.done second_zero)
