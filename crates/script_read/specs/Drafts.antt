-- proof: the code's draft and what its answers mean.
use Rattle.std.specs.Prelude.{◌≡◌, Result, Ok, Err}
use Rattle.text_model.specs.declared.cause.ScriptCause.{ScriptCause}
use Rattle.text_model.specs.Drafts.{Draft}
use Rattle.script_read.specs.declared.draft.Draft as code
use Rattle.script_read.specs.declared.draft.CardFault.{CardFault}
use Rattle.script_read.specs.declared.draft.CardFault.TheVariants as card

abbrev pub draft_of : code.Draft → Draft
draft_of d =
    record {
      params = d.params;
      accounts = d.accounts;
      blocks = d.blocks;
      tracks = d.tracks;
      files = d.files;
      file = d.file;
      events = d.events;
      tick = d.tick;
      end = d.end;
    }

-- what a card leaves behind, or the cause for which it is refused
abbrev pub Enters : {X : Type 0} → Result (Unit {0}) CardFault → Result X ScriptCause → X → Type 0
Enters (Ok _) said x = said ≡ Ok x
Enters (Err (card.Refused cause)) said x = said ≡ Err cause
Enters (Err card.NoMemory) said x = Unit {0}
