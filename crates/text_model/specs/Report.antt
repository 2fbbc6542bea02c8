-- claim: the report of a script's record.
use Rattle.std.specs.Prelude.{ℕ, suc, ◌-◌, Bool, if◌then◌else◌, List, [], ◌∷◌, ◌++◌, codes, get_or}
use Rattle.std.specs.List.{flat_map}
use Rattle.ctss_types.specs.Entries.{cause_text, kind_text}
use Rattle.ctss_types.specs.declared.script.Script.{Script}
use Rattle.ctss_types.specs.declared.script.Account.{Account}
use Rattle.ctss_types.specs.declared.file.FileBody.{FileBody}
use Rattle.ctss_types.specs.declared.file.CommonOp.{CommonOp}
use Rattle.ctss_types.specs.declared.file.CommonOp.TheVariants as op
use Rattle.ctss_types.specs.declared.file.Reply.{Reply}
use Rattle.ctss_types.specs.declared.file.Reply.TheVariants as reply
use Rattle.ctss_types.specs.declared.history.Record.{Record}
use Rattle.ctss_types.specs.declared.history.Item.{Item}
use Rattle.ctss_types.specs.declared.history.Item.TheVariants as item
use Rattle.ctss_types.specs.declared.history.Entry.{Entry}
use Rattle.ctss_types.specs.declared.history.Entry.TheVariants.{Taken, Login, Refused, Idle, Swap, Rise, Serve, Clock, Common}
use Rattle.text_model.specs.Canonical.{word_cards}
use Rattle.file_model.specs.Texts.{file_line, refusal_number}
use Rattle.text_model.specs.Parts.{line, blank, number, name}

-- a letter and a text, the letter alone where the text is empty
abbrev pub labelled : ℕ → List ℕ → List ℕ
labelled letter [] = letter ∷ []
labelled letter (c ∷ cs) = letter ∷ 32 ∷ c ∷ cs

abbrev pub item_text : Item → List ℕ
item_text (item.In text) = line (labelled 73 text)
item_text (item.Out text) = line (labelled 79 text)
item_text item.Quit = line (codes "Q")
item_text item.Hang = line (codes "H")

-- a file, and in a dump its words behind it
abbrev pub file_text : Bool → FileBody → List ℕ
file_text dump f = line (file_line f) ++ (if dump then word_cards f.words else [])

-- one account: what it saw and its files
abbrev pub account_text : Bool → ℕ → Account → List Item → List FileBody → List ℕ
account_text dump n a items files =
    line (codes "USER" ++ (number n ++ name a.name))
    ++ (flat_map item_text items
    ++ (line (codes "FILES" ++ (number n ++ name a.name))
    ++ flat_map (file_text dump) files))

-- the accounts, numbered from n on
abbrev pub accounts_text : Bool → ℕ → List Account → Record → List ℕ
accounts_text dump n [] rec = []
accounts_text dump n (a ∷ accounts) rec =
    account_text dump n a (get_or rec.transcripts (n - 1) []) (get_or rec.files (n - 1) []) ++ accounts_text dump (suc n) accounts rec

abbrev pub op_text : CommonOp → List ℕ
op_text (op.Stat name) = codes "STAT"
op_text (op.Read name place count) = codes "READ"
op_text (op.Write name place words) = codes "WRITE"
op_text (op.Delete name) = codes "DELETE"
op_text (op.Put name words) = codes "PUT"
op_text (op.Get name) = codes "GET"

-- 0, or the number of the refusal
abbrev pub reply_number : Reply → ℕ
reply_number reply.Done = 0
reply_number (reply.Size n) = 0
reply_number (reply.Words ws) = 0
reply_number (reply.Refused r) = refusal_number r

abbrev pub entry_text : Entry → List ℕ
entry_text (Taken tick console kind user own) =
    line (codes "TAKEN" ++ (number tick ++ (number console ++ (blank (kind_text kind) ++ (number user ++ number own)))))
entry_text (Login tick console user) = line (codes "LOGIN" ++ (number tick ++ (number console ++ number user)))
entry_text (Refused tick console cause) = line (codes "REFUSED" ++ (number tick ++ (number console ++ number cause)))
entry_text (Idle from until) = line (codes "IDLE" ++ (number from ++ number until))
entry_text (Swap tick user dumped read fresh) =
    line (codes "SWAP" ++ (number tick ++ (number user ++ (number dumped ++ (number read ++ number fresh)))))
entry_text (Rise tick user level) = line (codes "RISE" ++ (number tick ++ (number user ++ number level)))
entry_text (Serve tick user level ran cause) =
    line (codes "SERVE" ++ (number tick ++ (number user ++ (number level ++ (number ran ++ blank (cause_text cause))))))
entry_text (Clock answer user) = line (codes "CLOCK" ++ (number answer ++ number user))
entry_text (Common user op reply) = line (codes "SHARED" ++ (number user ++ (blank (op_text op) ++ number (reply_number reply))))

unfoldable pub report_of : Script → Record → Bool → List ℕ
report_of script rec dump =
    accounts_text dump 1 script.accounts rec
    ++ (line (codes "COMMON")
    ++ (flat_map (file_text dump) rec.common
    ++ (line (codes "SCHEDULE")
    ++ (flat_map entry_text rec.entries
    ++ line (codes "END" ++ number rec.clock)))))
