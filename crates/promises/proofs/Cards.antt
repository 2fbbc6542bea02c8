-- The sentence of cards, from the clauses of the top call.
use Rattle.std.proofs.Common.{◌≡◌, ℕ, List, [], Some, sym, ap, ◌∙◌}
use Rattle.text_model.specs.declared.mode.Mode.TheVariants.{Asm}
use Rattle.text_model.specs.Canonical.{word_cards}
use Rattle.text_model.specs.Words.{mode_of, faults_text}
use Rattle.fap_model.specs.Decks.{Assembled, deck, faulty}
use Rattle.ctss_modes.specs.Asm.{assembled_from, IsInput, DeckIsWritten}
use Rattle.ctss_modes.specs.Top.{IsRefusal, LeavesUnasked, asks_run, asks_link}
use Rattle.promises.specs.Sentences.{IsAssembled}
use Rattle.promises.specs.declared.machine.Machine.{Machine}
use Rattle.promises.specs.declared.replaying.Answered.{Answered}
use Rattle.promises.proofs.Devices.{seen, source, sink, all_read, written, untouched}

came : (bytes rest cards : List ℕ) (a : Assembled) → IsInput (Some cards) (Some rest) bytes → assembled_from bytes ≡ a → assembled_from cards ≡ a
came bytes rest cards a read made = ap assembled_from (sym (all_read cards bytes rest read.came read.whole)) ∙ made

pub is_assembled : (words : List (List ℕ)) (cards : List ℕ) (room : ℕ) (old new : Machine) (a : Answered) → mode_of words ≡ Some Asm
    → (mode_of words ≡ Some Asm → a.outcome.status ≡ 0 → DeckIsWritten (seen (source cards []) (sink room []) old) (seen a.input a.output new) a.outcome)
    → IsRefusal words (seen (source cards []) (sink room []) old) (seen a.input a.output new) a.outcome
    → LeavesUnasked words (seen (source cards []) (sink room []) old) (seen a.input a.output new) → IsAssembled cards old new a
is_assembled words cards room old new a asked done refusal leaves =
    record {
      untouched = untouched old new (leaves.media (ap asks_run asked)) (leaves.link (ap asks_link asked));
      done = λ zero. let d = done asked zero in (d.words, came d.bytes a.input.left cards (deck d.words) d.read d.made, written a.output.held (word_cards d.words) d.written);
      faulty = λ nine. let r = refusal.of_cards nine in (r.faults, came r.bytes a.input.left cards (faulty r.faults) r.read r.made, written a.output.held (faults_text r.faults) r.written);
    }
