-- claim: a directory is a list of files in order of making, with a quota of tracks. Each operation gives its first refusal that
-- applies, or its answer; what it doesn't name stays.
use Rattle.std.specs.Prelude.{ℕ, ◌+◌, ◌/◌, max, Bool, not, ◌&&◌, nat_eq, nat_lt, nat_le, if◌then◌else◌, List, [], ◌∷◌, ◌++◌, length, map, filter, find, take, drop, sum, Option, Some, None, is_some, Ok, Err}
use Rattle.std.specs.declared.result.Result.{Result}
use Rattle.ctss_types.specs.Names.{NamePair}
use Rattle.ctss_types.specs.declared.file.FileBody.{FileBody}
use Rattle.ctss_types.specs.declared.file.Refusal.{Refusal}
use Rattle.ctss_types.specs.declared.file.Refusal.TheVariants.{NoFile, ReadOnly, Quota, NameUsed, PastEnd, BadMode}
use Rattle.file_model.specs.declared.Stat.{Stat}

abbrev pub same_name : NamePair → NamePair → Bool
same_name a b = nat_eq a.first b.first && nat_eq a.second b.second

abbrev pub is_named : NamePair → FileBody → Bool
is_named name f = same_name f.name name

-- the file of a name; names in a directory differ
abbrev pub file_named : NamePair → List FileBody → Option FileBody
file_named name files = find (is_named name) files

-- the file of a name changed, in its place
abbrev pub changed_if : NamePair → (FileBody → FileBody) → FileBody → FileBody
changed_if name change f = if is_named name f then change f else f

abbrev pub with_change : NamePair → (FileBody → FileBody) → List FileBody → List FileBody
with_change name change files = map (changed_if name change) files

-- a new file of mode 1, at the end
abbrev pub with_new : NamePair → List ℕ → List FileBody → List FileBody
with_new name words files = files ++ record { name = name; mode = 1; words = words } ∷ []

-- a file of w words costs a track for each 432, and one at least
abbrev pub tracks_of_words : ℕ → ℕ
tracks_of_words w = max 1 ((w + 431) / 432)

abbrev pub tracks_of : List FileBody → ℕ
tracks_of files = sum (map (λ (f : FileBody). tracks_of_words (length f.words)) files)

-- modes 2 and 3 are read-only
abbrev pub is_read_only : FileBody → Bool
is_read_only f = nat_le 2 f.mode

-- these files, if their tracks keep the quota
abbrev pub if_they_fit : ℕ → List FileBody → Result (List FileBody) Refusal
if_they_fit quota files = if nat_le (tracks_of files) quota then Ok files else Err Quota

abbrev pub stat_of : Option FileBody → Result Stat Refusal
stat_of None = Err NoFile
stat_of (Some f) = Ok (record { words = length f.words; mode = f.mode })

abbrev pub stat : NamePair → List FileBody → Result Stat Refusal
stat name files = stat_of (file_named name files)

abbrev pub read_of : Option FileBody → (place count : ℕ) → Result (List ℕ) Refusal
read_of None place count = Err NoFile
read_of (Some f) place count = if nat_lt (length f.words) (place + count) then Err PastEnd else Ok (take count (drop place f.words))

abbrev pub read : NamePair → (place count : ℕ) → List FileBody → Result (List ℕ) Refusal
read name place count files = read_of (file_named name files) place count

abbrev pub got_of : Option FileBody → Result (List ℕ) Refusal
got_of None = Err NoFile
got_of (Some f) = Ok f.words

-- all words
abbrev pub got : NamePair → List FileBody → Result (List ℕ) Refusal
got name files = got_of (file_named name files)

-- words from a place on, over those that stand there and behind the end
abbrev pub overwritten : ℕ → List ℕ → List ℕ → List ℕ
overwritten place words old = take place old ++ (words ++ drop (place + length words) old)

abbrev pub written_of : Option FileBody → NamePair → ℕ → List ℕ → ℕ → List FileBody → Result (List FileBody) Refusal
written_of None name place words quota files = if nat_eq place 0 then if_they_fit quota (with_new name words files) else Err NoFile
written_of (Some f) name place words quota files =
    if is_read_only f then Err ReadOnly
    else (if nat_lt (length f.words) place then Err PastEnd
    else if_they_fit quota (with_change name (λ g. record g { words = overwritten place words g.words }) files))

abbrev pub written : NamePair → ℕ → List ℕ → ℕ → List FileBody → Result (List FileBody) Refusal
written name place words quota files = written_of (file_named name files) name place words quota files

abbrev pub end_of : Option FileBody → ℕ
end_of None = 0
end_of (Some f) = length f.words

-- a write at the end, or at 0 where the file is absent
abbrev pub appended : NamePair → List ℕ → ℕ → List FileBody → Result (List FileBody) Refusal
appended name words quota files = written name (end_of (file_named name files)) words quota files

abbrev pub put_of : Option FileBody → NamePair → List ℕ → ℕ → List FileBody → Result (List FileBody) Refusal
put_of None name words quota files = if_they_fit quota (with_new name words files)
put_of (Some f) name words quota files =
    if is_read_only f then Err ReadOnly else if_they_fit quota (with_change name (λ g. record g { words = words }) files)

-- the whole content replaced
abbrev pub put : NamePair → List ℕ → ℕ → List FileBody → Result (List FileBody) Refusal
put name words quota files = put_of (file_named name files) name words quota files

-- another file with the name stands in the way
abbrev pub is_used : NamePair → NamePair → List FileBody → Bool
is_used name to files = not (same_name name to) && is_some (file_named to files)

abbrev pub renamed_of : Option FileBody → NamePair → NamePair → List FileBody → Result (List FileBody) Refusal
renamed_of None name to files = Err NoFile
renamed_of (Some f) name to files =
    if is_read_only f then Err ReadOnly
    else (if is_used name to files then Err NameUsed else Ok (with_change name (λ g. record g { name = to }) files))

abbrev pub renamed : NamePair → NamePair → List FileBody → Result (List FileBody) Refusal
renamed name to files = renamed_of (file_named name files) name to files

abbrev pub deleted_of : Option FileBody → NamePair → List FileBody → Result (List FileBody) Refusal
deleted_of None name files = Err NoFile
deleted_of (Some f) name files = if is_read_only f then Err ReadOnly else Ok (filter (λ g. not (is_named name g)) files)

abbrev pub deleted : NamePair → List FileBody → Result (List FileBody) Refusal
deleted name files = deleted_of (file_named name files) name files

abbrev pub moded_of : Option FileBody → NamePair → ℕ → List FileBody → Result (List FileBody) Refusal
moded_of None name mode files = Err NoFile
moded_of (Some f) name mode files =
    if nat_eq f.mode 3 then Err ReadOnly else (if nat_lt 3 mode then Err BadMode else Ok (with_change name (λ g. record g { mode = mode }) files))

-- another mode; a file of mode 3 keeps it for good
abbrev pub moded : NamePair → ℕ → List FileBody → Result (List FileBody) Refusal
moded name mode files = moded_of (file_named name files) name mode files

-- files of mode 0 go
abbrev pub lasting : List FileBody → List FileBody
lasting files = filter (λ f. not (nat_eq f.mode 0)) files
