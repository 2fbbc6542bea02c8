use Rattle.std.specs.Prelude.{Option, drop}
use Rattle.std.specs.List.{All}
use Rattle.std.proofs.Common.{◌≡◌, ◌-◌, ℕ, List, length, take, sym, ap, subst, ◌∙◌}
use Rattle.std.proofs.lemmas.List.Elements.{All-rest, All-head}
use Rattle.faults.specs.Faults.{WhereTold}
use Rattle.track_store.specs.declared.tracks.Tracks.{Tracks}
use Rattle.file_tracks.specs.Stored.{IsDirectory}
use Rattle.file_tracks.specs.Directories.{AreDirectories}
use Rattle.file_tracks.specs.Lying.{LieOn}
use Rattle.file_tracks.specs.Seen.{files_seen}
use Rattle.file_tracks.specs.declared.table.TrackTable.{TrackTable}
use Rattle.track_directories.specs.Directories.{lists_from}
use Rattle.file_tracks.specs.Tracked.{tracked}
use Rattle.track_directories.specs.Tables.{files_at}
use Rattle.track_directories.proofs.Tables.{all_ready}
use Rattle.track_directories.proofs.Lying.{files_in, tables_split, lists_are, lists_seen, list_seen, lists_lie}
use Rattle.track_directories.proofs.all.TrackDirectories.take_lists.Goals as goal

pub lists_on-requires-clause-usable : goal.lists_on-requires-clause-usable
lists_on-requires-clause-usable g c =
    let s = tracked g.F.Medium c.args.self.now.store in
    let ts = c.args.self.now.tables.items in
    let xs = c.as_slice.result.now in
    let P : TrackTable → Type 0 = λ t. IsDirectory s.contents s.taken t.quota t.used t.files.items in
    let split = tables_split xs c.common-item.result c.in-len1-up.len_at_least c.common-item.is in
    All-rest P c.common-item.result (take (length xs - 1) (drop 1 xs)) ts (sym c.as_slice.ensures.value ∙ split) (all_ready s ts c.requires.sound)

pub read_all-requires-clause-usable : goal.read_all-requires-clause-usable
read_all-requires-clause-usable g c =
    let s = tracked g.F.Medium c.args.self.now.store in
    let ts = c.args.self.now.tables.items in
    let xs = c.as_slice.result.now in
    let d = c.common-item.result in
    let P : TrackTable → Type 0 = λ t. IsDirectory s.contents s.taken t.quota t.used t.files.items in
    let split = tables_split xs d c.in-len1-up.len_at_least c.common-item.is in
    let here : P d = All-head P d (take (length xs - 1) (drop 1 xs)) (subst (All P) (sym c.as_slice.ensures.value ∙ split) (all_ready s ts c.requires.sound)) in
    subst (λ (o : Option (List (List ℕ))). IsDirectory o c.lists_on.new.store.tracks.taken.items d.quota d.used d.files.items) (sym (c.in_ok-own.ensures.contents (λ e. let x = e in cc)))
    (subst (λ (t : Tracks). IsDirectory s.contents t.taken.items d.quota d.used d.files.items) (sym c.in_ok-own.ensures.keeps.tracks) here)

pub returns-clause-lists : goal.returns-clause-lists
returns-clause-lists g c = λ told.
    let s = tracked g.F.Medium c.args.self.now.store in
    let ts = c.args.self.now.tables.items in
    let xs = c.as_slice.result.now in
    let d = c.common-item.result in
    let own = take (length xs - 1) (drop 1 xs) in
    let split = sym c.as_slice.ensures.value ∙ tables_split xs d c.in-len1-up.len_at_least c.common-item.is in
    lists_seen s.contents own c.in_ok-own.own.items told c.in_ok-own.ensures.files
    ∙ lists_are (λ (t : TrackTable). files_seen s.contents t.files.items) d own
    ∙ ap (λ (ds : List TrackTable). lists_from 1 (length ds - 1) (files_at s.contents ds)) (sym split)

pub returns-clause-common : goal.returns-clause-common
returns-clause-common g c = λ told.
    let s = tracked g.F.Medium c.args.self.now.store in
    let xs = c.as_slice.result.now in
    let d = c.common-item.result in
    let y = c.in_ok-common.common in
    let split = sym c.as_slice.ensures.value ∙ tables_split xs d c.in-len1-up.len_at_least c.common-item.is in
    let read : WhereTold s.contents (λ contents. y ≡ files_in contents d) = subst (λ (o : Option (List (List ℕ))). WhereTold o (λ contents. y ≡ files_in contents d)) (c.in_ok-own.ensures.contents (λ e. let x = e in cc)) c.in_ok-common.ensures.files in
    list_seen s.contents d y told read ∙ ap (λ (ds : List TrackTable). files_at s.contents ds 0) (sym split)

pub returns-clause-lies : goal.returns-clause-lies
returns-clause-lies g c =
    let s = tracked g.F.Medium c.args.self.now.store in
    let ts = c.args.self.now.tables.items in
    let xs = c.as_slice.result.now in
    let d = c.common-item.result in
    let y = c.in_ok-common.common in
    let own = take (length xs - 1) (drop 1 xs) in
    let split = sym c.as_slice.ensures.value ∙ tables_split xs d c.in-len1-up.len_at_least c.common-item.is in
    let read : WhereTold s.contents (λ contents. y ≡ files_in contents d) = subst (λ (o : Option (List (List ℕ))). WhereTold o (λ contents. y ≡ files_in contents d)) (c.in_ok-own.ensures.contents (λ e. let x = e in cc)) c.in_ok-common.ensures.files in
    subst (λ (o : Option (List (List ℕ))). WhereTold o (λ contents. LieOn contents c.in_ok-own.own.items y)) (sym (c.in_ok-common.ensures.contents (λ e. let x = e in cc) ∙ c.in_ok-own.ensures.contents (λ e. let x = e in cc)))
    (lists_lie s.contents s.taken d own (subst (AreDirectories s.contents s.taken) split c.requires.sound.all) c.in_ok-own.own.items y c.in_ok-own.ensures.files read)
