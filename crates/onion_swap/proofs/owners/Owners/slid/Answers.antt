use Rattle.std.proofs.Common.{◌+◌, arith}
use Rattle.onion_swap.specs.Places.{owner_of}
use Rattle.onion_swap.proofs.Owned.{slid_same, slid_more, slid_less, others_most}
use Rattle.onion_swap.proofs.owners.Owners.slid.Goals as goal

pub returns-then-first-last-clause-value : goal.returns-then-first-last-clause-value
returns-then-first-last-clause-value c =
    slid_same (owner_of c.args.self.now.owners) c.args.user c.args.blocks c.args.from c.args.count c.is_other-first.result c.is_other-last.result c.is_other-first.ensures c.is_other-last.ensures c.requires.count c.if-first-last.true

pub overflow_sub-result : goal.overflow_sub-result
overflow_sub-result c =
    let less = slid_less (owner_of c.args.self.now.owners) c.args.user c.args.blocks c.args.from c.args.count c.is_other-first.result c.is_other-last.result c.is_other-first.ensures c.is_other-last.ensures c.requires.count c.if-first-last.false c.if-last.false in
    omega arith

pub returns-else-last-clause-value : goal.returns-else-last-clause-value
returns-else-last-clause-value c =
    let less = slid_less (owner_of c.args.self.now.owners) c.args.user c.args.blocks c.args.from c.args.count c.is_other-first.result c.is_other-last.result c.is_other-first.ensures c.is_other-last.ensures c.requires.count c.if-first-last.false c.if-last.false in
    omega arith

pub returns-then-last-clause-value : goal.returns-then-last-clause-value
returns-then-last-clause-value c =
    slid_more (owner_of c.args.self.now.owners) c.args.user c.args.blocks c.args.from c.args.count c.is_other-first.result c.is_other-last.result c.is_other-first.ensures c.is_other-last.ensures c.requires.count c.if-first-last.false c.if-last.true

pub returns-then-last-clause-most : goal.returns-then-last-clause-most
returns-then-last-clause-most c =
    let most = others_most (owner_of c.args.self.now.owners) c.args.user c.args.blocks (c.args.from + 1) in
    omega (arith, returns-then-last-clause-value c, most)
