use Rattle.std.proofs.Common.{◌≡◌, ◌+◌, ◌*◌, ℕ, List, take, drop, sym, ◌∙◌, rules}
use Rattle.onion_swap.specs.Places.{base_of}
use Rattle.image_map.specs.Images.{size_of, IsResident}
use Rattle.image_map.proofs.Residents.{image_resident, image_stays}
use Rattle.core_tests.proofs.images.put.Goals as goal

pub returns-clause-mine : goal.returns-clause-mine
returns-clause-mine g c =
    let now = c.args.image.now.tables in
    let mine : IsResident now.owners (size_of now.sizes.items c.args.user) c.args.user = c.resident.ensures.owns.0 (search rules) in
    image_resident c.store_in.new.bank (g.D.Medium.contents now.kept.drum.now) now.owners now.kept.slots now.sizes.items c.args.user mine

pub returns-clause-others : goal.returns-clause-others
returns-clause-others g c = λ u other.
    let now = c.args.image.now.tables in
    let mine : IsResident now.owners (size_of now.sizes.items c.args.user) c.args.user = c.resident.ensures.owns.0 (search rules) in
    let new : List ℕ = c.store_in.new.bank in
    let b = c.base-base.ensures.value in
    let n = c.size-blocks.ensures.value in
    let front : take (256 * base_of now.owners.bases c.args.user) new ≡ take (256 * base_of now.owners.bases c.args.user) c.args.image.now.bank =
    (λ j. take (256 * sym b j) new) ∙ c.store_in.ensures.around.front ∙ (λ j. take (256 * b j) (c.bank_mut.ensures.now j)) in
    let rest : drop (256 * (base_of now.owners.bases c.args.user + size_of now.sizes.items c.args.user)) new ≡ drop (256 * (base_of now.owners.bases c.args.user + size_of now.sizes.items c.args.user)) c.args.image.now.bank =
    (λ j. drop (256 * (sym b j + sym n j)) new) ∙ c.store_in.ensures.around.rest ∙ (λ j. drop (256 * (b j + n j)) (c.bank_mut.ensures.now j)) in
    image_stays c.args.image.now.bank c.store_in.new.bank (g.D.Medium.contents now.kept.drum.now) now.owners now.kept.slots now.sizes.items c.args.user u mine front rest other
