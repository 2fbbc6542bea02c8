use Rattle.std.proofs.Common.{◌≤◌, [], lit≤}
use Rattle.std.specs.List.{IsDistinct}
use Rattle.std.proofs.lemmas.List.Elements.{All-nil, All-cons}
use Rattle.ctss_types.specs.declared.file.FileBody.{FileBody}
use Rattle.session_tests.proofs.directories.begins_and_ends_with_a_list.Goals as goal

pub with_first-requires-clause-differ : goal.with_first-requires-clause-differ
unfolding IsDistinct
with_first-requires-clause-differ g c = (tt, tt)

pub with_first-requires-clause-modes : goal.with_first-requires-clause-modes
with_first-requires-clause-modes g c =
    let first : FileBody = record { name = c.name.result; mode = 2; words = c.new.result } in
    All-cons (λ (f : FileBody). f.mode ≤ 3) first [] (lit≤ tt) (All-nil _)
