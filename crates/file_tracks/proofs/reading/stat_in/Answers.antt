use Rattle.std.specs.Prelude.{Ok}
use Rattle.std.proofs.Common.{length, get_or, ◌∙◌, sym, ap, subst, arith}
use Rattle.std.proofs.lemmas.List.Elements.{All-get_or}
use Rattle.file_model.specs.Files.{stat_of}
use Rattle.file_tracks.specs.Stored.{HasTracks, HasMode, IsWhole}
use Rattle.file_tracks.specs.declared.table.Filed.{Filed}
use Rattle.file_tracks.proofs.Tables.{content-length, used_at}
use Rattle.file_tracks.proofs.reading.stat_in.Goals as goal

pub returns-clause-answer : goal.returns-clause-answer
returns-clause-answer c = λ contents whole.
    let fs = c.args.table.now.files.items in
    let at = c.in-Some.at in
    let f = c.index-file.result.now in
    let file = get_or fs at f in
    let low = c.in-Some.ensures.0 in
    let len = content-length contents file (All-get_or HasTracks fs at f low c.requires.sound.tracked) (All-get_or (IsWhole contents) fs at f low whole) in
    ap stat_of (c.in-Some.ensures.1 contents f)
    ∙ (λ j. Ok (record { words = (len ∙ ap (λ (x : Filed). x.words) (sym c.index-file.ensures)) j; mode = ap (λ (x : Filed). x.mode) (sym c.index-file.ensures) j }))

pub returns-clause-mode : goal.returns-clause-mode
returns-clause-mode c =
    let f = c.index-file.result.now in
    subst HasMode (sym c.index-file.ensures) (All-get_or HasMode c.args.table.now.files.items c.in-Some.at f c.in-Some.ensures.0 c.requires.sound.modes)

pub returns-clause-words : goal.returns-clause-words
returns-clause-words c =
    let fs = c.args.table.now.files.items in
    let f = c.index-file.result.now in
    let low = c.in-Some.ensures.0 in
    let has = subst HasTracks (sym c.index-file.ensures) (All-get_or HasTracks fs c.in-Some.at f low c.requires.sound.tracked) in
    let within = used_at fs c.in-Some.at f low in
    let same = ap (λ (x : Filed). length x.tracks.items) c.index-file.ensures in
    let few = c.requires.sound.few in
    let counted = c.requires.sound.counted in
    omega (arith, has, within, same, few, counted)
