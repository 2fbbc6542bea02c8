use Rattle.std.proofs.Common.{rules, ◌≡◌, ℕ, List, subst}
use Rattle.std.specs.Prelude.{OnOk}
use Rattle.bss_loader.specs.Runs.{words_in}
use Rattle.fap_assemble.specs.Wholes.{whole_in}
use Rattle.fap_assemble.proofs.CardWords.{right_said, room_said, words_read}
use Rattle.fap_assemble.proofs.words.add_card.Goals as goal

pub add_said-requires-clause-right : goal.add_said-requires-clause-right
add_said-requires-clause-right c =
    right_said (whole_in c.args.whole.now) c.args.visible c.args.place c.len.result c.in-Some.op c.args.text.now c.in_ok-said.said c.requires.sound (search rules) c.len.ensures
    c.in_ok-said.ensures.value

pub add_said-requires-clause-room : goal.add_said-requires-clause-room
add_said-requires-clause-room c =
    room_said (whole_in c.args.whole.now) c.args.visible c.args.place c.len.result c.in-Some.op c.args.text.now c.flag.result c.in_ok-said.said c.requires.at c.requires.sound (search rules)
    c.len.ensures c.in_ok-said.ensures.value c.flag.ensures

pub returns : goal.returns
returns c =
    subst (λ (ws : List ℕ). OnOk c.add_said.result (c.add_said.new.segments ≡ words_in c.args.segments.now c.args.place ws))
    (words_read (whole_in c.args.whole.now) c.args.visible c.args.place c.len.result c.in-Some.op c.args.text.now c.flag.result c.in_ok-said.said (search rules) c.len.ensures
    c.in_ok-said.ensures.value c.flag.ensures) c.add_said.ensures
