use Rattle.std.proofs.Common.{◌≤◌, Option, sym, subst}
use Rattle.text_model.specs.declared.mode.Mode.{Mode}
use Rattle.ctss_modes.specs.Modes.{turns_asked}
use Rattle.ctss_modes.proofs.Answering.{no_memory_of}
use Rattle.ctss_top.proofs.Asked.{few_turns}
use Rattle.ctss_top.proofs.run_ctss.Goals as goal

pub run_mode-requires-clause-turns : goal.run_mode-requires-clause-turns
run_mode-requires-clause-turns g c = subst (λ (m : Option Mode). turns_asked m ≤ 100000) (sym c.in-Ok.ensures) (few_turns c.args.words.now)

pub returns-in-Ok-clause-headline : goal.returns-in-Ok-clause-headline
returns-in-Ok-clause-headline g c = (c.run_mode.ensures.to_words c.args.words.now (sym c.in-Ok.ensures)).headline

pub returns-in-Ok-clause-deck : goal.returns-in-Ok-clause-deck
returns-in-Ok-clause-deck g c = (c.run_mode.ensures.to_words c.args.words.now (sym c.in-Ok.ensures)).deck

pub returns-in-Ok-clause-refusals : goal.returns-in-Ok-clause-refusals
returns-in-Ok-clause-refusals g c = (c.run_mode.ensures.to_words c.args.words.now (sym c.in-Ok.ensures)).refusals

pub returns-in-Ok-clause-causes : goal.returns-in-Ok-clause-causes
returns-in-Ok-clause-causes g c = (c.run_mode.ensures.to_words c.args.words.now (sym c.in-Ok.ensures)).causes

pub returns-in-Ok-clause-cut_off : goal.returns-in-Ok-clause-cut_off
returns-in-Ok-clause-cut_off g c = (c.run_mode.ensures.to_words c.args.words.now (sym c.in-Ok.ensures)).cut_off

pub returns-in-Ok-clause-stopped : goal.returns-in-Ok-clause-stopped
returns-in-Ok-clause-stopped g c = (c.run_mode.ensures.to_words c.args.words.now (sym c.in-Ok.ensures)).stopped

pub returns-in-Ok-clause-lost : goal.returns-in-Ok-clause-lost
returns-in-Ok-clause-lost g c = (c.run_mode.ensures.to_words c.args.words.now (sym c.in-Ok.ensures)).lost

pub returns-in-Ok-clause-silent : goal.returns-in-Ok-clause-silent
returns-in-Ok-clause-silent g c = (c.run_mode.ensures.to_words c.args.words.now (sym c.in-Ok.ensures)).silent

pub returns-in-Ok-clause-apart : goal.returns-in-Ok-clause-apart
returns-in-Ok-clause-apart g c = (c.run_mode.ensures.to_words c.args.words.now (sym c.in-Ok.ensures)).apart

pub returns-in-Ok-clause-allowed : goal.returns-in-Ok-clause-allowed
returns-in-Ok-clause-allowed g c = (c.run_mode.ensures.to_words c.args.words.now (sym c.in-Ok.ensures)).allowed

pub returns-in-Ok-clause-complete : goal.returns-in-Ok-clause-complete
returns-in-Ok-clause-complete g c = (c.run_mode.ensures.to_words c.args.words.now (sym c.in-Ok.ensures)).complete

pub returns-in-Err-clause-headline : goal.returns-in-Err-clause-headline
returns-in-Err-clause-headline g c = (no_memory_of c.args.words.now _ c.bare.result c.bare.ensures).headline

pub returns-in-Err-clause-deck : goal.returns-in-Err-clause-deck
returns-in-Err-clause-deck g c = (no_memory_of c.args.words.now _ c.bare.result c.bare.ensures).deck

pub returns-in-Err-clause-refusals : goal.returns-in-Err-clause-refusals
returns-in-Err-clause-refusals g c = (no_memory_of c.args.words.now _ c.bare.result c.bare.ensures).refusals

pub returns-in-Err-clause-causes : goal.returns-in-Err-clause-causes
returns-in-Err-clause-causes g c = (no_memory_of c.args.words.now _ c.bare.result c.bare.ensures).causes

pub returns-in-Err-clause-cut_off : goal.returns-in-Err-clause-cut_off
returns-in-Err-clause-cut_off g c = (no_memory_of c.args.words.now _ c.bare.result c.bare.ensures).cut_off

pub returns-in-Err-clause-stopped : goal.returns-in-Err-clause-stopped
returns-in-Err-clause-stopped g c = (no_memory_of c.args.words.now _ c.bare.result c.bare.ensures).stopped

pub returns-in-Err-clause-lost : goal.returns-in-Err-clause-lost
returns-in-Err-clause-lost g c = (no_memory_of c.args.words.now _ c.bare.result c.bare.ensures).lost

pub returns-in-Err-clause-silent : goal.returns-in-Err-clause-silent
returns-in-Err-clause-silent g c = (no_memory_of c.args.words.now _ c.bare.result c.bare.ensures).silent

pub returns-in-Err-clause-apart : goal.returns-in-Err-clause-apart
returns-in-Err-clause-apart g c = (no_memory_of c.args.words.now _ c.bare.result c.bare.ensures).apart

pub returns-in-Err-clause-allowed : goal.returns-in-Err-clause-allowed
returns-in-Err-clause-allowed g c = (no_memory_of c.args.words.now _ c.bare.result c.bare.ensures).allowed

pub returns-in-Err-clause-complete : goal.returns-in-Err-clause-complete
returns-in-Err-clause-complete g c = (no_memory_of c.args.words.now _ c.bare.result c.bare.ensures).complete
