use Rattle.std.proofs.Common.{◌≡◌, ◌≢◌, ◌+◌, sym, ◌∙◌, arith}
use Rattle.std.proofs.lemmas.Bool.{false≢true}
use Rattle.std.proofs.lemmas.Grind.{common_steps}
use Rattle.onion_swap.specs.Places.{owner_of, base_of}
use Rattle.image_map.specs.Images.{size_of}
use Rattle.image_map.proofs.Residents.{loaded_yes, loaded_no}
use Rattle.image_map.proofs.image.Image.resident.Goals as goal

pub returns-clause-value : goal.returns-clause-value
returns-clause-value g c =
    let now = c.args.self.now in
    let size : c.index-b-end.result.now ≡ size_of now.tables.sizes.items c.args.user = grind (arith, common_steps) in
    sym (loaded_yes now.tables.owners now.tables.kept.slots (size_of now.tables.sizes.items c.args.user) c.args.user
    (λ b below. c.looking.invariant b (omega (arith, size, c.looking-test.false))))

pub returns-then-not-has-clause-value : goal.returns-then-not-has-clause-value
returns-then-not-has-clause-value g c =
    let now = c.args.self.now in
    let size : c.index-b-end.result.now ≡ size_of now.tables.sizes.items c.args.user = grind (arith, common_steps) in
    let other : owner_of now.tables.owners.owners (base_of now.tables.owners.bases c.args.user + c.looking.b) ≢ c.args.user =
    λ e. false≢true (sym c.if-not-has.true ∙ c.has.ensures.1 e) in
    sym (loaded_no now.tables.owners now.tables.kept.slots (size_of now.tables.sizes.items c.args.user) c.args.user c.looking.b (omega (arith, size, c.looking-test.true)) other)
