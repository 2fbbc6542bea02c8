-- proof: why a card is at fault, by what its field comes to.
use Rattle.std.specs.Prelude.{ℕ, ◌+◌, Bool, false, not, ◌&&◌, nat_eq, nat_lt, if◌then◌else◌, List, length, take, Option, Some, None, is_none}
use Rattle.std.specs.Option.{option_map}
use Rattle.fap_model.specs.Cards.{is_bad, has_bad_symbol, flag_of, symbol_of, symbol_text}
use Rattle.fap_model.specs.declared.types.Operation.{Operation}
use Rattle.fap_model.specs.Statements as says
use Rattle.fap_model.specs.Places.{Known, max_place, takes_flag, is_equ, symbol_is_known}
use Rattle.fap_model.specs.declared.types.FaultCause.{FaultCause}
use Rattle.fap_model.specs.declared.types.FaultCause.TheVariants.{Characters, BadSymbol, Flag, NoSymbol, BadForm, HighTag, Start, Undefined, Repeated, PastEnd}
use Rattle.fap_assemble.specs.declared.field.Said.{Said}
use Rattle.fap_assemble.specs.Fields.{said, known_at, is_wrong, is_defined, count}
use Rattle.fap_assemble.specs.Wholes.{names_seen}

abbrev pub cause_said : ℕ → Bool → Known → Operation → List ℕ → Option Said → Option FaultCause
cause_said more wrong k o card s =
    if is_bad card then Some Characters
    else (if has_bad_symbol card then Some BadSymbol
    else (if flag_of card && not (takes_flag o) then Some Flag
    else (if is_equ o && nat_eq (length (symbol_text card)) 0 then Some NoSymbol
    else (if is_none s then Some BadForm
    else (if is_wrong s then Some HighTag
    else (if wrong then Some Start
    else (if not (is_defined s) then Some Undefined
    else (if symbol_is_known k (symbol_of card) then Some Repeated
    else (if nat_lt max_place (k.place + count o s + more) then Some PastEnd else None)))))))))

abbrev pub card_cause : Operation → List (ℕ × ℕ) → ℕ → ℕ → List ℕ → Option FaultCause
card_cause o symbols visible place card =
    cause_said 0 false (known_at symbols visible place) o card (option_map (said (take (names_seen o symbols visible) symbols) place) (says.field_for o card))
