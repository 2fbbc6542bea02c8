use Rattle.std.specs.Prelude.{Ok, take, drop}
use Rattle.std.proofs.Common.{◌≡◌, ◌<◌, ◌≤◌, ◌+◌, ◌-◌, ◌*◌, ◌/◌, ◌%◌, ℕ, List, length, get_or, ◌∙◌, sym, ap, subst, arith}
use Rattle.std.proofs.lemmas.List.Elements.{All-get_or}
use Rattle.file_model.specs.Files.{read_of}
use Rattle.track_store.specs.Words.{tracks_joined}
use Rattle.file_tracks.specs.Places.{count_in, bit}
use Rattle.file_tracks.specs.Stored.{body_on, files_on, HasTracks, IsWhole}
use Rattle.file_tracks.specs.declared.table.Filed.{Filed}
use Rattle.file_tracks.proofs.Told.{told_map}
use Rattle.file_tracks.proofs.Puts.{old_bits}
use Rattle.file_tracks.proofs.Tables.{content-length, occurs_at}
use Rattle.file_tracks.proofs.Changes.{count_take, count_drop}
use Rattle.file_tracks.proofs.Writes.{part_taken}
use Rattle.file_tracks.proofs.Parts.{read_part}
use Rattle.file_tracks.proofs.Removes.{read_is, read_past}
use Rattle.file_tracks.proofs.Anyhow.{any_rows, any_span}
use Rattle.file_tracks.proofs.reading.read_in.Goals as goal

pub read_span-requires-clause-taken : goal.read_span-requires-clause-taken
read_span-requires-clause-taken g c =
    let taken = c.args.store.now.tracks.taken.items in
    let low = c.in-Some.ensures.0 in
    let ts = c.deref.ensures.value ∙ ap (λ (x : Filed). x.tracks.items) c.index-file.ensures in
    part_taken taken c.deref.result.now (c.args.place / 432) (c.div_ceil-to.result - c.args.place / 432)
    (λ t. subst (λ (us : List ℕ). count_in t us ≤ bit taken t) (sym ts) (old_bits _ _ _ _ _ c.requires.ready.directory c.in-Some.at c.index-file.result.now low t))

pub returns-in_default-clause-any : goal.returns-in_default-clause-any
returns-in_default-clause-any g c =
    let a = any_rows _ _ _ _ _ c.requires.ready.directory in
    (a.0, (a.1.0, (a.1.1, ap (λ o. read_of o c.args.place c.args.count) (c.in_default.ensures a.0))))

pub returns-then-is_past-clause-any : goal.returns-then-is_past-clause-any
returns-then-is_past-clause-any g c =
    let fs = c.args.table.now.files.items in
    let at = c.in-Some.at in
    let f = c.index-file.result.now in
    let low = c.in-Some.ensures.0 in
    let a = any_rows _ _ _ _ _ c.requires.ready.directory in
    let words = content-length a.0 (get_or fs at f) (All-get_or HasTracks fs at f low c.requires.ready.directory.tracked) (All-get_or (IsWhole a.0) fs at f low a.1.1) in
    let same = ap (λ (x : Filed). x.words) c.index-file.ensures in
    let past = c.if-is_past.ensures in
    (a.0, (a.1.0, (a.1.1, read_past c.args.name c.args.place c.args.count (files_on a.0 fs) (body_on a.0 (get_or fs at f)) (c.in-Some.ensures.1 a.0 f) (omega (arith, words, same, past)))))

pub returns-in-Err-NoMemory-clause-any : goal.returns-in-Err-NoMemory-clause-any
returns-in-Err-NoMemory-clause-any g c = let a = any_rows _ _ _ _ _ c.requires.ready.directory in (a.0, (a.1.0, (a.1.1, tt)))

pub returns-in-Err-Disk-clause-any : goal.returns-in-Err-Disk-clause-any
returns-in-Err-Disk-clause-any g c = let a = any_rows _ _ _ _ _ c.requires.ready.directory in (a.0, (a.1.0, (a.1.1, tt)))

pub returns-in_default-as_words-clause-any : goal.returns-in_default-as_words-clause-any
returns-in_default-as_words-clause-any g c = let a = any_rows _ _ _ _ _ c.requires.ready.directory in (a.0, (a.1.0, (a.1.1, tt)))

pub returns-clause-any : goal.returns-clause-any
returns-clause-any g c =
    let o = g.F.Medium.contents c.args.store.now.disk.now in
    let fs = c.args.table.now.files.items in
    let at = c.in-Some.at in
    let f = c.index-file.result.now in
    let f' = get_or fs at f in
    let name = c.args.name in
    let place = c.args.place in
    let count = c.args.count in
    let from = place / 432 in
    let to = c.div_ceil-to.result in
    let r = place % 432 in
    let low = c.in-Some.ensures.0 in
    let hf : HasTracks f' = All-get_or HasTracks fs at f low c.requires.ready.directory.tracked in
    let words_f = ap (λ (x : Filed). x.words) c.index-file.ensures in
    let inside = c.if-is_past.ensures in
    let fits : place + count ≤ f'.words = omega (arith, inside, words_f) in
    let last : to ≡ (place + count + 431) / 432 = (let a = c.div_ceil-to.ensures in omega (arith, a)) in
    let tracks_2 : c.deref.result.now ≡ f'.tracks.items = c.deref.ensures.value ∙ ap (λ (x : Filed). x.tracks.items) c.index-file.ensures in
    let span : List ℕ = c.in-Ok.span.items in
    let us : List ℕ = take (to - from) (drop from f'.tracks.items) in
    let a = any_span o _ _ _ fs c.requires.ready.directory us span
    (λ t. let p = count_take t (to - from) (drop from f'.tracks.items) in let q = count_drop t from f'.tracks.items in let b = occurs_at t fs at f low in omega (arith, p, q, b))
    (c.in-Ok.ensures.len ∙ ap (λ (ts : List ℕ). 432 * length (take (to - from) (drop from ts))) tracks_2)
    (told_map o _ _ (λ contents x. x ∙ ap (λ (ts : List ℕ). tracks_joined contents (take (to - from) (drop from ts))) tracks_2) c.in-Ok.ensures.given) in
    let wf : IsWhole a.0 f' = All-get_or (IsWhole a.0) fs at f low a.1.1.0 in
    let clen = content-length a.0 f' hf wf in
    let enough : f'.words ≤ 432 * length f'.tracks.items = omega (arith, hf) in
    let number : r + count - r ≡ count = omega arith in
    let at_place : place ≡ 432 * from + r = omega arith in
    let small : r < 432 = omega arith in (
      a.0,
      (
        a.1.0,
        (
          a.1.1.0,
          read_is name place count (files_on a.0 fs) (body_on a.0 f') (c.in-Some.ensures.1 a.0 f) (omega (arith, clen, fits))
              ∙ ap Ok (sym (
              c.from_vec.ensures ∙ c.in-Ok-as_words.ensures
              ∙ ap (λ (n : ℕ). take n (drop r c.deref-2.result.now)) number
              ∙ ap (λ (xs : List ℕ). take count (drop r xs)) (c.deref-2.ensures.value ∙ sym a.1.1.1)
              ∙ read_part a.0 f'.tracks.items f'.words place count from to r wf enough fits at_place small last
              )),
        ),
      ),
    )
