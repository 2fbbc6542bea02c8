use Rattle.text_writer.proofs.Right.{file_dumped, file_listed}
use Rattle.text_writer.proofs.Added.{◌⨾◌, adds_is}
use Rattle.text_writer.proofs.report.file.add_file.Goals as goal

pub returns-then-dump : goal.returns-then-dump
returns-then-dump g c =
    adds_is (file_dumped c.args.dump c.args.file.now c.as_slice.result.now c.if-dump.true c.as_slice.ensures) (c.add_file_line.ensures ⨾ c.add_word_cards.ensures)

pub returns-else-dump : goal.returns-else-dump
returns-else-dump g c = adds_is (file_listed c.args.dump c.args.file.now c.if-dump.false) c.add_file_line.ensures
