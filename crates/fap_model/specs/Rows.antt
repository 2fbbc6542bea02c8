-- claim: worked rows: nine cards and their deck, and three cards that are at fault.
use Rattle.std.specs.Prelude.{◌≡◌, ℕ, List, [], ◌∷◌, codes}
use Rattle.fap_model.specs.Decks.{assembled, deck, faulty}

abbrev pub greeting : List (List ℕ)
greeting =
    codes "       ORG     8" ∷ codes "GO     TSX     PRINT,4" ∷ codes "       PZE     TEXT,,1" ∷ codes "       TSX     STOP,4" ∷ codes "TEXT   BCI     1,HELLO"
    ∷ codes "BUF    BSS     2" ∷ codes "PRINT  TIA     =HWRFLX" ∷ codes "STOP   TIA     =HDEAD" ∷ codes "       END     GO" ∷ []

abbrev pub RowOfGreeting : Type 0
RowOfGreeting =
    assembled greeting
    ≡ deck (0o000010000001 ∷ 0o000004000010 ∷ 0o007400400016 ∷ 0o000001000013 ∷ 0o007400400017
    ∷ 0o302543434660 ∷ 0o000004000016 ∷ 0o010100000020 ∷ 0o010100000021 ∷ 0o665126436760
    ∷ 0o242521246060 ∷ [])

abbrev pub RowOfFaults : Type 0
RowOfFaults =
    assembled (codes "A      PZE     B" ∷ codes "A      PZE     0" ∷ codes "       CLX     1" ∷ []) ≡ faulty ((1, 3) ∷ (2, 4) ∷ (3, 1) ∷ (4, 6) ∷ [])

-- equal literals share a word, `*` is the card's place, and an EQU may use what stands before it
abbrev pub RowOfLiterals : Type 0
RowOfLiterals =
    assembled (codes "ONE    EQU     1" ∷ codes "       CLA     =1,ONE" ∷ codes "       ADD*    =O1" ∷ codes "       TRA     *-1" ∷ codes "       BSS     ONE+1" ∷ codes "       END" ∷ [])
    ≡ deck (1 ∷ 0o000003000000 ∷ 0o050000100005 ∷ 0o040060000005 ∷ 0o002000000001 ∷ 0o000001000005 ∷ 1 ∷ [])
