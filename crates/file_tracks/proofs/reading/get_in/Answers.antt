use Rattle.std.specs.Prelude.{take, drop, Ok}
use Rattle.std.proofs.Common.{◌≡◌, ◌≤◌, ◌++◌, ◌*◌, length, get_or, ℕ, zero, suc, List, [], ◌∷◌, ◌∙◌, sym, ap, subst, arith}
use Rattle.std.proofs.lemmas.List.{take-append-drop}
use Rattle.track_store.specs.Words.{Gave}
use Rattle.file_tracks.specs.Places.{count_in, bit}
use Rattle.file_tracks.specs.declared.table.Filed.{Filed}
use Rattle.file_tracks.proofs.Found.{all_taken}
use Rattle.file_tracks.proofs.Puts.{old_bits}
use Rattle.std.proofs.lemmas.List.Elements.{All-get_or}
use Rattle.file_model.specs.Files.{got_of}
use Rattle.track_store.specs.Words.{tracks_joined}
use Rattle.file_tracks.specs.Stored.{HasTracks}
use Rattle.file_tracks.proofs.Told.{told_map}
use Rattle.file_tracks.proofs.Tables.{occurs_at, used_at}
use Rattle.file_tracks.proofs.Anyhow.{any_rows, any_span, enough, least}
use Rattle.file_tracks.proofs.reading.get_in.Goals as goal

pub read_span-requires-clause-taken : goal.read_span-requires-clause-taken
read_span-requires-clause-taken g c =
    let taken = c.args.store.now.tracks.taken.items in
    let ts = c.deref.ensures.value ∙ ap (λ (x : Filed). x.tracks.items) c.index-file.ensures in
    all_taken taken c.deref.result.now
    (λ t. subst (λ (us : List ℕ). count_in t us ≤ bit taken t) (sym ts) (old_bits _ _ _ _ _ c.requires.ready.directory c.in-Some.at c.index-file.result.now c.in-Some.ensures.0 t))

pub returns-clause-gave : goal.returns-clause-gave
returns-clause-gave g c =
    let span = c.in-Ok.span.items in
    let was = g.F.Medium.calls c.args.store.now.disk.now in
    let now = g.F.Medium.calls c.read_span.new.store.disk.now in
    let words : c.from_vec.result ≡ take c.min-len.result span = c.from_vec.ensures ∙ c.in-Ok-as_words.ensures ∙ ap (take c.min-len.result) c.deref-2.ensures.value in (
      drop c.min-len.result span,
      subst (λ (ws : List ℕ). Gave was now ws) (sym (ap (λ (ws : List ℕ). ws ++ drop c.min-len.result span) words ∙ take-append-drop c.min-len.result span)) c.in-Ok.ensures.gave,
    )

pub returns-in_default-clause-any : goal.returns-in_default-clause-any
returns-in_default-clause-any g c =
    let a = any_rows _ _ _ _ _ c.requires.ready.directory in
    (a.0, (a.1.0, (a.1.1, ap got_of (c.in_default.ensures a.0))))

pub returns-in-Err-NoMemory-clause-any : goal.returns-in-Err-NoMemory-clause-any
returns-in-Err-NoMemory-clause-any g c = let a = any_rows _ _ _ _ _ c.requires.ready.directory in (a.0, (a.1.0, (a.1.1, tt)))

pub returns-in-Err-Disk-clause-any : goal.returns-in-Err-Disk-clause-any
returns-in-Err-Disk-clause-any g c = let a = any_rows _ _ _ _ _ c.requires.ready.directory in (a.0, (a.1.0, (a.1.1, tt)))

pub returns-in_default-as_words-clause-any : goal.returns-in_default-as_words-clause-any
returns-in_default-as_words-clause-any g c = let a = any_rows _ _ _ _ _ c.requires.ready.directory in (a.0, (a.1.0, (a.1.1, tt)))

pub returns-clause-any : goal.returns-clause-any
returns-clause-any g c =
    let o = g.F.Medium.contents c.args.store.now.disk.now in
    let fs = c.args.table.now.files.items in
    let at = c.in-Some.at in
    let f = c.index-file.result.now in
    let file = get_or fs at f in
    let low = c.in-Some.ensures.0 in
    let ts = c.deref.ensures.value ∙ ap (λ (x : Filed). x.tracks.items) c.index-file.ensures in
    let span = c.in-Ok.span.items in
    let e = c.in-Ok.ensures in
    let len : length span ≡ 432 * length file.tracks.items = e.len ∙ ap (λ (us : List ℕ). 432 * length us) ts in
    let a = any_span o _ _ _ fs c.requires.ready.directory file.tracks.items span (λ t. occurs_at t fs at f low) len (told_map o _ _ (λ contents x. x ∙ ap (tracks_joined contents) ts) e.given) in
    let long = enough _ _ _ len (All-get_or HasTracks fs at f low c.requires.ready.directory.tracked) in
    let min = least (length span) file.words c.min-len.result (let a = c.min-len.ensures in let b = c.len.ensures in let w = ap (λ (x : Filed). x.words) c.index-file.ensures in omega (arith, a, b, w)) long in
    let words = c.from_vec.ensures ∙ c.in-Ok-as_words.ensures ∙ ap (take c.min-len.result) c.deref-2.ensures.value ∙ ap (λ (n : ℕ). take n span) min in (
      a.0,
      (
        a.1.0,
        (
          a.1.1.0,
          ap got_of (c.in-Some.ensures.1 a.0 f)
              ∙ ap (λ (ws : List ℕ). Ok (take file.words ws)) a.1.1.1
              ∙ ap Ok (sym words),
        ),
      ),
    )

short : (n : ℕ) (xs : List ℕ) → length (take n xs) ≤ n
short zero xs = omega arith
short (suc n) [] = omega arith
short (suc n) (x ∷ xs) = omega (arith, short n xs)

pub returns-clause-bound : goal.returns-clause-bound
returns-clause-bound g c =
    let fs = c.args.table.now.files.items in
    let f = c.index-file.result.now in
    let low = c.in-Some.ensures.0 in
    let has = subst HasTracks (sym c.index-file.ensures) (All-get_or HasTracks fs c.in-Some.at f low c.requires.ready.directory.tracked) in
    let within = used_at fs c.in-Some.at f low in
    let same = ap (λ (x : Filed). length x.tracks.items) c.index-file.ensures in
    let few = c.requires.ready.directory.few in
    let counted = c.requires.ready.directory.counted in
    let words = c.from_vec.ensures ∙ c.in-Ok-as_words.ensures ∙ ap (take c.min-len.result) c.deref-2.ensures.value in
    let size : length c.from_vec.result ≡ length (take c.min-len.result c.in-Ok.span.items) = ap (λ (ws : List ℕ). length ws) words in
    let cut = short c.min-len.result c.in-Ok.span.items in
    let least_is = c.min-len.ensures in
    omega (arith, has, within, same, few, counted, size, cut, least_is)
