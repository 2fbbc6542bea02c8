use Rattle.std.proofs.Common.{◌≡◌, ◌++◌, ℕ, List, drop}
use Rattle.fap_listing.specs.Words.{word_lines}
use Rattle.text_writer.specs.Writing.{Adds}
use Rattle.fap_listing.proofs.word.add_word_lines.Given as goal

-- the lines so far were added, and with those that are left they are all
abbrev pub invariant-loop-word : goal.invariant-loop-word
invariant-loop-word g l =
    (done : List ℕ) × Adds g.K.Sink done l.fn.out l.out
    × (done ++ word_lines l.split l.place (drop l.word-index l.words) ≡ word_lines l.split l.fn.place l.words)
