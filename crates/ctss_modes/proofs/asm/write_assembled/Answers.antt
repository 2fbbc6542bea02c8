use Rattle.std.proofs.Common.{◌≡◌, ap, sym, subst, ◌∙◌, List, Err}
use Rattle.fap_assemble.specs.Answers.{IsAssembled}
use Rattle.fap_assemble.specs.Follows.{numbered}
use Rattle.fap_assemble.specs.declared.fault.AsmFault.{AsmFault}
use Rattle.fap_assemble.specs.declared.fault.CardFault.{CardFault}
use Rattle.fap_model.specs.Decks.{deck, faulty}
use Rattle.ctss_modes.specs.Asm.{assembled_from}
use Rattle.ctss_modes.proofs.Cards.{deck_cards, faults_cards, memory_cards}
use Rattle.ctss_modes.proofs.asm.write_assembled.Goals as goal

pub returns-in-Ok : goal.returns-in-Ok
returns-in-Ok g c = deck_cards c.args.bytes.now c.as_slice.result.now _ _ c.write_deck.result (c.in-Ok.ensures ∙ ap deck (sym c.as_slice.ensures)) c.write_deck.ensures

pub returns-in-Err-Faults : goal.returns-in-Err-Faults
returns-in-Err-Faults g c =
    let made : assembled_from c.args.bytes.now ≡ faulty (numbered c.in-Err-Faults.faults) =
    subst (λ (f : AsmFault). IsAssembled (Err f) (assembled_from c.args.bytes.now)) c.in-Err-Faults.field-0-is c.in-Err-Faults.ensures in
    faults_cards c.args.bytes.now (numbered c.as_slice-in-Err-Faults.result.now) _ _ c.write_faults.result
    (made ∙ ap (λ (fs : List CardFault). faulty (numbered fs)) (sym c.as_slice-in-Err-Faults.ensures)) c.write_faults.ensures

pub returns-in-Err-NoMemory : goal.returns-in-Err-NoMemory
returns-in-Err-NoMemory g c = memory_cards c.args.bytes.now _ c.bare.result c.bare.ensures
