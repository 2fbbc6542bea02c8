-- Each change of a directory keeps its rules.
use Rattle.std.proofs.Common.{◌≡◌, ℕ, ◌≤◌, Bool, true, false, not, ◌&&◌, nat_eq, nat_le, nat_lt, List, [], ◌∷◌, length, map, filter, sum, cond}
use Rattle.std.proofs.Common.{Option, Some, None, Ok, Err, ◌⊎◌, inl, inr, ◌+◌, refl, sym, ap, ◌∙◌, arith}
use Rattle.std.specs.Prelude.{is_some}
use Rattle.std.specs.declared.result.Result.{Result}
use Rattle.std.specs.List.{All}
use Rattle.std.proofs.lemmas.Bool.{leb-true, ltb-false}
use Rattle.std.proofs.lemmas.List.Elements.{All-nil, All-push, All-map, All-weaker, All-filter}
use Rattle.std.proofs.lemmas.List.Sums.{sum-map, sum_by-cons}
use Rattle.ctss_types.specs.Names.{NamePair}
use Rattle.ctss_types.specs.declared.file.FileBody.{FileBody}
use Rattle.ctss_types.specs.declared.file.Refusal.{Refusal}
use Rattle.ctss_types.specs.declared.file.Refusal.TheVariants.{NoFile, ReadOnly, Quota, NameUsed, PastEnd, BadMode}
use Rattle.file_model.specs.Files.{same_name, is_named, file_named, changed_if, with_change, with_new, tracks_of_words, tracks_of, is_read_only, if_they_fit, overwritten, written_of, written, end_of, appended, put_of, put, renamed_of, renamed, deleted_of, deleted, moded_of, moded, lasting}
use Rattle.text_model.specs.Reading.{names_differ}
use Rattle.record_laws.specs.Rules.{KeepsRules}
use Rattle.record_laws.proofs.Names.{fewer_differ, new_differs, changed_differ, named_to, renames_differ}

-- a mode that a file may have
abbrev HasMode : FileBody → Type 0
HasMode f = f.mode ≤ 3

-- the tracks of a file
abbrev cost_of : FileBody → ℕ
cost_of f = tracks_of_words (length f.words)

-- what a change gives keeps the rules, if it isn't refused
abbrev pub Gives : ℕ → Result (List FileBody) Refusal → Type 0
Gives quota (Ok files) = KeepsRules quota files
Gives quota (Err r) = Unit {0}

-- no files keep the rules
pub none_keeps : (quota : ℕ) → KeepsRules quota []
none_keeps quota = record { modes = All-nil HasMode; differ = refl; tracks = omega arith }

-- fewer files

-- fewer files take no more tracks
fewer_cost : (q : FileBody → Bool) (files : List FileBody) → tracks_of (filter q files) ≤ tracks_of files
fewer_cost q [] = omega arith
fewer_cost q (f ∷ fs) = by_test (q f) (fewer_cost q fs)
  where
    first : (gs : List FileBody) → tracks_of (f ∷ gs) ≡ cost_of f + tracks_of gs
    first gs =
        sum-map cost_of (f ∷ gs) ∙ sum_by-cons cost_of f gs ∙ ap (λ (n : ℕ). cost_of f + n) (sym (sum-map cost_of gs))

    by_test : (b : Bool) → tracks_of (filter q fs) ≤ tracks_of fs
        → tracks_of (cond b (f ∷ filter q fs) (filter q fs)) ≤ tracks_of (f ∷ fs)
    by_test true rest = omega (arith, first (filter q fs), first fs)
    by_test false rest = omega (arith, first fs)

-- fewer files keep the rules
pub fewer_keep : (quota : ℕ) (q : FileBody → Bool) (files : List FileBody) → KeepsRules quota files
    → KeepsRules quota (filter q files)
fewer_keep quota q files h =
    record {
      modes = All-filter q HasMode files h.modes;
      differ = fewer_differ q files h.differ;
      tracks = omega (arith, fewer_cost q files, h.tracks);
    }

-- a directory whose session is over
pub lasting_keep : (quota : ℕ) (files : List FileBody) → KeepsRules quota files → KeepsRules quota (lasting files)
lasting_keep quota files h = fewer_keep quota (λ (f : FileBody). not (nat_eq f.mode 0)) files h

-- more words

-- files that are put if they fit
they_fit : (quota : ℕ) (files : List FileBody) → All HasMode files → names_differ files ≡ true
    → Gives quota (if_they_fit quota files)
they_fit quota files modes differ = by_test (nat_le (tracks_of files) quota) refl
  where
    by_test : (b : Bool) → nat_le (tracks_of files) quota ≡ b → Gives quota (cond b (Ok files) (Err Quota))
    by_test true e = record { modes = modes; differ = differ; tracks = leb-true (tracks_of files) quota e }
    by_test false e = tt

-- a new file that fits keeps them
new_fits : (quota : ℕ) (name : NamePair) (words : List ℕ) (files : List FileBody) → file_named name files ≡ None
    → KeepsRules quota files → Gives quota (if_they_fit quota (with_new name words files))
new_fits quota name words files none h =
    they_fit quota (with_new name words files) (All-push HasMode files _ h.modes (omega arith))
    (new_differs name words files none h.differ)

-- the modes after a change of the file of a name
modes_behind : (name : NamePair) (change : FileBody → FileBody) (files : List FileBody)
    → ((f : FileBody) → f.mode ≤ 3 → (change f).mode ≤ 3) → All HasMode files
    → All HasMode (with_change name change files)
modes_behind name change files k all =
    All-map HasMode (changed_if name change) files
    (All-weaker HasMode (λ (f : FileBody). (changed_if name change f).mode ≤ 3) each files all)
  where
    by_test : (f : FileBody) (b : Bool) → f.mode ≤ 3 → (cond b (change f) f).mode ≤ 3
    by_test f true h = k f h
    by_test f false h = h

    each : (f : FileBody) → f.mode ≤ 3 → (changed_if name change f).mode ≤ 3
    each f h = by_test f (is_named name f) h

-- other words of the file of a name
abbrev worded : (List ℕ → List ℕ) → FileBody → FileBody
worded words f = record f { words = words f.words }

-- other words that fit keep them
words_fit : (quota : ℕ) (name : NamePair) (words : List ℕ → List ℕ) (files : List FileBody) → KeepsRules quota files
    → Gives quota (if_they_fit quota (with_change name (worded words) files))
words_fit quota name words files h =
    they_fit quota (with_change name (worded words) files)
    (modes_behind name (worded words) files (λ f mode. mode) h.modes)
    (changed_differ name (worded words) files (λ f own. refl) h.differ)

-- a change that a test refuses, or not
unless : (quota : ℕ) (b : Bool) (r : Refusal) (made : Result (List FileBody) Refusal) → Gives quota made
    → Gives quota (cond b (Err r) made)
unless quota true r made h = tt
unless quota false r made h = h

-- a write keeps them
pub written_keeps : (name : NamePair) (place : ℕ) (words : List ℕ) (quota : ℕ) (files : List FileBody)
    → KeepsRules quota files → Gives quota (written name place words quota files)
written_keeps name place words quota files h = by_file (file_named name files) refl
  where
    by_place : (b : Bool) → Gives quota (if_they_fit quota (with_new name words files))
        → Gives quota (cond b (if_they_fit quota (with_new name words files)) (Err NoFile))
    by_place true made = made
    by_place false made = tt

    by_file : (o : Option FileBody) → file_named name files ≡ o
        → Gives quota (written_of o name place words quota files)
    by_file None e = by_place (nat_eq place 0) (new_fits quota name words files e h)
    by_file (Some f) e =
        unless quota (is_read_only f) ReadOnly _
        (unless quota (nat_lt (length f.words) place) PastEnd _
        (words_fit quota name (overwritten place words) files h))

-- so does a write at the end
pub appended_keeps : (name : NamePair) (words : List ℕ) (quota : ℕ) (files : List FileBody) → KeepsRules quota files
    → Gives quota (appended name words quota files)
appended_keeps name words quota files h = written_keeps name (end_of (file_named name files)) words quota files h

-- and a whole content put
pub put_keeps : (name : NamePair) (words : List ℕ) (quota : ℕ) (files : List FileBody) → KeepsRules quota files
    → Gives quota (put name words quota files)
put_keeps name words quota files h = by_file (file_named name files) refl
  where
    by_file : (o : Option FileBody) → file_named name files ≡ o → Gives quota (put_of o name words quota files)
    by_file None e = new_fits quota name words files e h
    by_file (Some f) e = unless quota (is_read_only f) ReadOnly _ (words_fit quota name (λ old. words) files h)

-- the same words

-- a change that keeps words keeps what each file costs
same_costs : (g : FileBody → FileBody) (files : List FileBody) → ((f : FileBody) → (g f).words ≡ f.words)
    → map cost_of (map g files) ≡ map cost_of files
same_costs g [] same = refl
same_costs g (f ∷ fs) same = λ i. tracks_of_words (length (same f i)) ∷ same_costs g fs same i

-- and so the tracks of all
tracks_stay : (name : NamePair) (change : FileBody → FileBody) (files : List FileBody)
    → ((f : FileBody) → (change f).words ≡ f.words)
    → tracks_of (with_change name change files) ≡ tracks_of files
tracks_stay name change files same =
    ap sum (same_costs (changed_if name change) files (λ f. by_test f (is_named name f)))
  where
    by_test : (f : FileBody) (b : Bool) → (cond b (change f) f).words ≡ f.words
    by_test f true = same f
    by_test f false = refl

-- a change that keeps words
change_keeps : (quota : ℕ) (name : NamePair) (change : FileBody → FileBody) (files : List FileBody)
    → ((f : FileBody) → (change f).words ≡ f.words) → ((f : FileBody) → f.mode ≤ 3 → (change f).mode ≤ 3)
    → names_differ (with_change name change files) ≡ true → KeepsRules quota files
    → KeepsRules quota (with_change name change files)
change_keeps quota name change files words modes differ h =
    record {
      modes = modes_behind name change files modes h.modes;
      differ = differ;
      tracks = omega (arith, tracks_stay name change files words, h.tracks);
    }

-- a rename keeps the rules
pub renamed_keeps : (name to : NamePair) (quota : ℕ) (files : List FileBody) → KeepsRules quota files
    → Gives quota (renamed name to files)
renamed_keeps name to quota files h = by_file (file_named name files)
  where
    made : (same_name name to ≡ true) ⊎ (file_named to files ≡ None)
        → KeepsRules quota (with_change name (named_to to) files)
    made free =
        change_keeps quota name (named_to to) files (λ f. refl) (λ f mode. mode)
        (renames_differ name to files free h.differ) h

    by_tests : (same : Bool) (o : Option FileBody) → same_name name to ≡ same → file_named to files ≡ o
        → Gives quota (cond (not same && is_some o) (Err NameUsed) (Ok (with_change name (named_to to) files)))
    by_tests true o e k = made (inl e)
    by_tests false None e k = made (inr k)
    by_tests false (Some g) e k = tt

    by_file : (o : Option FileBody) → Gives quota (renamed_of o name to files)
    by_file None = tt
    by_file (Some f) =
        unless quota (is_read_only f) ReadOnly _ (by_tests (same_name name to) (file_named to files) refl refl)

-- a deletion keeps the rules
pub deleted_keeps : (name : NamePair) (quota : ℕ) (files : List FileBody) → KeepsRules quota files
    → Gives quota (deleted name files)
deleted_keeps name quota files h = by_file (file_named name files)
  where
    by_file : (o : Option FileBody) → Gives quota (deleted_of o name files)
    by_file None = tt
    by_file (Some f) =
        unless quota (is_read_only f) ReadOnly _ (fewer_keep quota (λ (g : FileBody). not (is_named name g)) files h)

-- a file of another mode
abbrev of_mode : ℕ → FileBody → FileBody
of_mode mode f = record f { mode = mode }

-- another mode keeps the rules
pub moded_keeps : (name : NamePair) (mode quota : ℕ) (files : List FileBody) → KeepsRules quota files
    → Gives quota (moded name mode files)
moded_keeps name mode quota files h = by_file (file_named name files)
  where
    by_mode : (b : Bool) → nat_lt 3 mode ≡ b
        → Gives quota (cond b (Err BadMode) (Ok (with_change name (of_mode mode) files)))
    by_mode true e = tt
    by_mode false e =
        change_keeps quota name (of_mode mode) files (λ f. refl) (λ f old. ltb-false 3 mode e)
        (changed_differ name (of_mode mode) files (λ f own. refl) h.differ) h

    by_file : (o : Option FileBody) → Gives quota (moded_of o name mode files)
    by_file None = tt
    by_file (Some f) = unless quota (nat_eq f.mode 3) ReadOnly _ (by_mode (nat_lt 3 mode) refl)
