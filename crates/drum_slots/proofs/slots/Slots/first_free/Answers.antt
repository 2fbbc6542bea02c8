use Rattle.std.proofs.Common.{◌≡◌, ◌<◌, arith}
use Rattle.drum_slots.specs.Slots.{first_free, count_free}
use Rattle.drum_slots.proofs.Slotted.{first_free_below, first_free_is}
use Rattle.drum_slots.proofs.slots.Slots.first_free.Goals as goal

pub overflow_cast-result : goal.overflow_cast-result
overflow_cast-result c =
    let s = c.args.self.now.sound in
    let some : 0 < count_free c.args.self.now.free.items = omega (arith, s.count, s.room) in
    let is : c.first_set.result ≡ first_free c.args.self.now.free.items = cc in
    record { fits = omega (arith, is, first_free_below _ some, c.args.self.now.size) }

pub returns-clause-inside : goal.returns-clause-inside
returns-clause-inside c =
    let s = c.args.self.now.sound in
    let some : 0 < count_free c.args.self.now.free.items = omega (arith, s.count, s.room) in
    let is : c.first_set.result ≡ first_free c.args.self.now.free.items = cc in
    omega (arith, is, first_free_below _ some)

pub returns-clause-is_free : goal.returns-clause-is_free
returns-clause-is_free c =
    let s = c.args.self.now.sound in
    let some : 0 < count_free c.args.self.now.free.items = omega (arith, s.count, s.room) in
    let is : c.first_set.result ≡ first_free c.args.self.now.free.items = cc in
    rw is (first_free_is _ some)
