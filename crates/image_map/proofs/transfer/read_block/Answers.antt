use Rattle.std.proofs.Common.{◌≡◌, List, ℕ, length, sym, subst}
use Rattle.std.proofs.lemmas.Grind.{common_steps}
use Rattle.std.proofs.Common.{arith}
use Rattle.core_bank.specs.Bank.{AreWords}
use Rattle.drum_slots.specs.Moves.{GetsBlock}
use Rattle.image_map.proofs.Words.{put_here, put_there, put_words, put_length}
use Rattle.image_map.proofs.transfer.read_block.Goals as goal

pub returns-clause-fills : goal.returns-clause-fills
returns-clause-fills g c =
    let size : length c.get_block.new.into ≡ 256 = grind (arith, common_steps) in
    let was : AreWords c.args.words.now = c.requires.core.words in
    let came : AreWords c.get_block.new.into = c.get_block.ensures.words in
    record {
      words = put_words c.args.words.now c.get_block.new.into c.args.place was came;
      len = put_length c.args.words.now c.get_block.new.into c.args.place c.requires.core.core c.requires.place size;
      others = λ b other. put_there _ _ c.args.place b c.requires.core.core c.requires.place size other;
    }

pub returns-clause-gets : goal.returns-clause-gets
returns-clause-gets g c =
    let size : length c.get_block.new.into ≡ 256 = grind (arith, common_steps) in
    let here = put_here c.args.words.now c.get_block.new.into c.args.place c.requires.core.core c.requires.place size in
    subst (λ (ws : List ℕ). GetsBlock g.D.Medium c.args.user c.args.block ws c.get_block.result c.args.table.now c.get_block.new.self) (sym here) c.get_block.ensures.gets
