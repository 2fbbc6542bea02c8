-- claim: what is said in words, on one line, beside a status that is not 0.
use Rattle.std.specs.Prelude.{ℕ, List, [], ◌∷◌, ◌++◌, nat_eq, codes, if◌then◌else◌}
use Rattle.std.specs.Fmt.{decimal}
use Rattle.text_model.specs.Parts.{line}

-- why a script is refused, and what is wanted
abbrev pub cause_text : ℕ → List ℕ
cause_text cause =
    if nat_eq cause 1 then
    codes "no such card here: wanted are PARAM, USER, FILE (O, T), AT, END in this order, in capitals, no name twice"
    else (if nat_eq cause 2 then
    codes "the tick is less than that of the AT card before"
    else (if nat_eq cause 3 then
    codes "no account has this number, or it is not the next one; USER cards count from 1"
    else (if nat_eq cause 4 then
    codes "a number out of its range, a text above 84 characters, or an account's files above its tracks"
    else (if nat_eq cause 5 then
    codes "the blocks of all accounts are more than the drum's records"
    else (if nat_eq cause 6 then
    codes "the tracks of all accounts and the common files are more than the disk's"
    else (if nat_eq cause 7 then
    codes "no END card is the last one"
    else (if nat_eq cause 8 then
    codes "more than 4194304 bytes came in"
    else [])))))))

-- what the words of the command line may be, what the numbers of cards' faults mean, and what failed and what that leaves
abbrev pub status_text : ℕ → List ℕ
status_text status =
    if nat_eq status 1 then
    codes "words refused: wanted is replay, dump, load N, asm or serve --port P --turns T, and input behind <"
    else (if nat_eq status 9 then
    codes "cards at fault: 1 operation, 2 field or characters, 3 undefined symbol, 4 symbol twice, 5 too far, 6 no END"
    else (if nat_eq status 3 then
    codes "reading the input failed: nothing was run or written"
    else (if nat_eq status 4 then
    codes "writing the output failed: what was written is a beginning of it"
    else (if nat_eq status 5 then
    codes "the drum failed: nothing was written"
    else (if nat_eq status 6 then
    codes "the disk failed: nothing was written"
    else (if nat_eq status 7 then
    codes "listening failed: the port is taken or not allowed, or the listener broke; nothing was written"
    else (if nat_eq status 8 then
    codes "out of memory: nothing was written"
    else [])))))))

-- the line of a script's refusal
abbrev pub refusal_line : ℕ → ℕ → List ℕ
refusal_line card cause = codes "script refused at card " ++ (decimal card ++ (codes ": " ++ (cause_text cause ++ (10 ∷ []))))

-- the line beside a status, none beside 0; card and cause count where a script is refused
abbrev pub explained : ℕ → ℕ → ℕ → List ℕ
explained status card cause =
    if nat_eq status 0 then []
    else (if nat_eq status 2 then refusal_line card cause
    else line (status_text status))
