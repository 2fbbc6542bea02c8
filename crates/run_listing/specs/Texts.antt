-- proof: the texts that are written in answer to cards.
use Rattle.std.specs.Prelude.{◌≡◌, ℕ, List}
use Rattle.fap_assemble.specs.Steps.{texts}
use Rattle.fap_listing.specs.Cards.{made_text}
use Rattle.program_trace.specs.Programs.{program_of}
use Rattle.program_trace.specs.Texts.{trace_text}
use Rattle.run_listing.specs.Answer.{Asked, text_of, status_of, no_line_text, module_text, trace_by, trace_status}
use Rattle.run_listing.specs.declared.text.AnswerText.{AnswerText}
use Rattle.run_listing.specs.declared.text.AnswerText.TheVariants.{Listing, Traced, NoLine, Module}
use Rattle.run_listing.specs.declared.text.Answer.{Answer}

abbrev pub text_bytes : AnswerText → List ℕ
text_bytes (Listing l) = made_text l.made (texts l.cards)
text_bytes (Traced l t) = trace_text l.rows l.symbols t
text_bytes (NoLine n) = no_line_text n
text_bytes Module = module_text

-- the text that was asked for of these bytes, with its status
pub record IsAsked (a : Asked) (bytes : List ℕ) (told : Answer) : Type 0 where
  pub text : text_bytes told.text ≡ text_of a bytes
  pub status : told.status ≡ status_of a bytes

-- the trace of cards that are no module's, of at most so many steps, with its status
pub record IsTraceOf (most : ℕ) (cards : List (List ℕ)) (told : Answer) : Type 0 where
  pub text : text_bytes told.text ≡ trace_by most (program_of cards) cards
  pub status : told.status ≡ trace_status (program_of cards)
