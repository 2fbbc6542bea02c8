-- claim: worked rows: two files of cards, their modules, the deck that they make, and what a listing shows of one.
use Rattle.std.specs.Prelude.{◌≡◌, ℕ, true, false, List, [], ◌∷◌, Some, None, Ok, Err, codes}
use Rattle.ctss_types.specs.Words.{name_of}
use Rattle.ctss_types.specs.declared.file.FileBody.{FileBody}
use Rattle.link_model.specs.declared.types.LinkRefusal.TheVariants.{NoFile, BadModule, Doubly, Undefined}
use Rattle.link_model.specs.Files.{module_name, files_linked}
use Rattle.link_model.specs.Modules.{Module, ModuleEntry, ModulePlace, module_words, module_of_words}
use Rattle.link_model.specs.Links.{link_of, deck, doubly, undefined}
use Rattle.link_model.specs.ModuleCards.{is_relocatable, relocatable, faulty, module_made}
use Rattle.link_model.specs.Listed.{ModuleRow, listed_module}

abbrev pub greeting : List (List ℕ)
greeting =
    codes "       REL" ∷ codes "       EXTERN  PRINT" ∷ codes "GO     TSX     PRINT,4" ∷ codes "       PZE     TEXT,,1" ∷ codes "       TSX     STOP,4"
    ∷ codes "TEXT   BCI     1,HELLO" ∷ codes "STOP   TIA     =HDEAD" ∷ codes "       END     GO" ∷ []

abbrev pub printer : List (List ℕ)
printer = codes "       REL" ∷ codes "       ENTRY   PRINT" ∷ codes "PRINT  TIA     =HWRFLX" ∷ codes "       END" ∷ []

abbrev pub entry : ℕ → ℕ → ModuleEntry
entry name place = record { name = name; place = place }

abbrev pub place : ℕ → ℕ → ModulePlace
place kind word = record { kind = kind; word = word }

abbrev pub greeting_module : Module
greeting_module =
    record {
      start = 0;
      entries = [];
      externs = name_of (codes "PRINT") ∷ [];
      places =
          place 2 0o007400400000 ∷ place 1 0o000001000003 ∷ place 1 0o007400400004 ∷ place 0 0o302543434660
          ∷ place 1 0o010100000005 ∷ place 0 0o242521246060 ∷ [];
    }

abbrev pub printer_module : Module
printer_module =
    record { start = 0; entries = entry (name_of (codes "PRINT")) 0 ∷ []; externs = []; places = place 1 0o010100000001 ∷ place 0 0o665126436760 ∷ [] }

pub record RowOfModules : Type 0 where
  pub greeting_is : module_made greeting ≡ relocatable greeting_module
  pub printer_is : module_made printer ≡ relocatable printer_module
  pub words :
      module_words printer_module ≡ 0o000000000002 ∷ 0o000001000000 ∷ name_of (codes "PRINT") ∷ 0 ∷ 1 ∷ 0o010100000001 ∷ 0 ∷ 0o665126436760 ∷ []
  pub back : module_of_words (module_words greeting_module) ≡ Some greeting_module
  pub short : module_of_words (2 ∷ []) ≡ None
  pub long : module_of_words (0 ∷ 0 ∷ 0 ∷ []) ≡ None
  pub high_kind : module_of_words (1 ∷ 0 ∷ 2 ∷ 0 ∷ []) ≡ None
  pub high_start : module_of_words (0o000400000000 ∷ 0 ∷ []) ≡ None
  pub no_rel : is_relocatable (codes "*" ∷ codes "       END" ∷ []) ≡ false
  pub starred : is_relocatable (codes "*" ∷ codes "       REL*" ∷ []) ≡ true

abbrev pub row : (place kind : ℕ) → List ℕ → ModuleRow
row place kind words = record { place = place; fault = 0; reserved = 0; kind = kind; words = words }

pub record RowOfListedModule : Type 0 where
  pub printer_is :
      listed_module printer
      ≡ record {
        rows = row 0 0 [] ∷ row 0 0 [] ∷ row 0 1 (0o010100000001 ∷ []) ∷ row 1 0 [] ∷ [];
        symbols = record { name = name_of (codes "PRINT"); value = 0 } ∷ [];
        definitions = record { name = name_of (codes "PRINT"); card = 3 } ∷ [];
        uses = [];
        entries = entry (name_of (codes "PRINT")) 0 ∷ [];
        externs = [];
        literals = 0o665126436760 ∷ [];
        end_place = 1;
        start = 0;
        has_end = true;
      }

pub record RowOfLinks : Type 0 where
  pub both :
      link_of (greeting_module ∷ printer_module ∷ [])
      ≡ deck (0o000000000001 ∷ 0o000010000000 ∷ 0o007400400006 ∷ 0o000001000003 ∷ 0o007400400004
      ∷ 0o302543434660 ∷ 0o010100000005 ∷ 0o242521246060 ∷ 0o010100000007 ∷ 0o665126436760 ∷ [])
  pub missing : link_of (greeting_module ∷ []) ≡ undefined (name_of (codes "PRINT"))
  pub twice : link_of (printer_module ∷ printer_module ∷ []) ≡ doubly (name_of (codes "PRINT"))

-- a module's cards at fault, each in its own way
abbrev pub faulty_cards : List (List ℕ)
faulty_cards =
    codes "       REL     A" ∷ codes "       ORG     5" ∷ codes "       REL" ∷ codes "A      PZE     A+A" ∷ codes "       EXTERN  A" ∷ codes "       EXTERN  B"
    ∷ codes "       CLA     B-A" ∷ codes "       CLA     B+A" ∷ codes "       CLA     B+A-*" ∷ codes "B      PZE" ∷ codes "C      EQU     A" ∷ codes "       ENTRY   C"
    ∷ codes "       ENTRY   D" ∷ codes "       ENTRY   B" ∷ codes "E      BSS     *" ∷ codes "       ENTRY   E" ∷ codes "       ENTRY   E" ∷ codes "       CLA     E,E"
    ∷ codes "       END     B" ∷ []

pub record RowOfModuleFaults : Type 0 where
  pub faults :
      module_made faulty_cards
      ≡ faulty ((1, 2) ∷ (2, 1) ∷ (3, 1) ∷ (4, 2) ∷ (5, 4) ∷ (7, 2) ∷ (8, 2) ∷ (9, 2) ∷ (10, 4) ∷ (11, 2) ∷ (12, 2) ∷ (13, 3) ∷ (14, 2) ∷ (15, 2)
      ∷ (17, 4) ∷ (18, 2) ∷ (19, 2) ∷ [])

-- a file of a module, by its words
abbrev pub module_file : List ℕ → List ℕ → FileBody
module_file name words = record { name = module_name (name_of name); mode = 1; words = words }

abbrev pub two_files : List FileBody
two_files = module_file (codes "A") (module_words greeting_module) ∷ module_file (codes "B") (module_words printer_module) ∷ module_file (codes "C") (1 ∷ []) ∷ []

abbrev pub named : List ℕ → ℕ
named text = name_of text

pub record RowOfFiles : Type 0 where
  pub both :
      files_linked (named (codes "A") ∷ named (codes "B") ∷ []) two_files
      ≡ Ok (0o000000000001 ∷ 0o000010000000 ∷ 0o007400400006 ∷ 0o000001000003 ∷ 0o007400400004
      ∷ 0o302543434660 ∷ 0o010100000005 ∷ 0o242521246060 ∷ 0o010100000007 ∷ 0o665126436760 ∷ [])
  pub missing : files_linked (named (codes "A") ∷ []) two_files ≡ Err (Undefined (name_of (codes "PRINT")))
  pub twice : files_linked (named (codes "B") ∷ named (codes "B") ∷ []) two_files ≡ Err (Doubly (name_of (codes "PRINT")))
  pub bad : files_linked (named (codes "C") ∷ named (codes "D") ∷ []) two_files ≡ Err BadModule
  pub absent : files_linked (named (codes "D") ∷ named (codes "C") ∷ []) two_files ≡ Err NoFile
