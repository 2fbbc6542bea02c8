-- proof: buffers of calls.
use Rattle.std.specs.Prelude.{◌≡◌, ℕ, ◌+◌, ◌≤◌, true}
use Rattle.ctss_types.specs.Names.{NamePair}
use Rattle.program_model.specs.declared.Call.{Call}
use Rattle.program_model.specs.declared.Call.TheVariants.{ReadLine, WriteLine, ReadFile, WriteFile, Common}
use Rattle.program_model.specs.declared.CommonCall.TheVariants as common
use Rattle.program_model.specs.Calls.{is_line_count}
use Rattle.tia_entry.specs.declared.call.LineEntry.{LineEntry}
use Rattle.tia_entry.specs.declared.call.LineEntry.TheVariants.{Read, Write}
use Rattle.tia_entry.specs.declared.file_call.TransferEntry.{TransferEntry}
use Rattle.tia_entry.specs.declared.file_call.TransferEntry.TheVariants as transfer

-- the buffer of a line or of a file's words lies within a core of so many words
abbrev pub HasBuffer : ℕ → Call → Type 0
HasBuffer words (ReadLine at count) = is_line_count count ≡ true → at + count ≤ words
HasBuffer words (WriteLine at count) = is_line_count count ≡ true → at + count ≤ words
HasBuffer words (ReadFile name at count place) = at + count ≤ words
HasBuffer words (WriteFile name at count place) = at + count ≤ words
HasBuffer words (Common (common.Read name at count place)) = at + count ≤ words
HasBuffer words (Common (common.Write name at count place)) = at + count ≤ words
HasBuffer words _ = Unit {0}

-- the call of an entry with a buffer
abbrev pub call_with : LineEntry → ℕ → ℕ → Call
call_with Read at count = ReadLine at count
call_with Write at count = WriteLine at count

-- the call of an entry with a buffer of a file's words
abbrev pub transfer_with : TransferEntry → NamePair → (at count place : ℕ) → Call
transfer_with transfer.Read name at count place = ReadFile name at count place
transfer_with transfer.Write name at count place = WriteFile name at count place
transfer_with transfer.CommonRead name at count place = Common (common.Read name at count place)
transfer_with transfer.CommonWrite name at count place = Common (common.Write name at count place)
