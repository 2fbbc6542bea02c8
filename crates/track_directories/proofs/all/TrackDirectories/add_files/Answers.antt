use Rattle.std.proofs.Common.{refl, sym, ◌∙◌, le_refl, le_trans}
use Rattle.track_directories.specs.Tables.{shown}
use Rattle.track_directories.proofs.AddLaws.{known_nil, can_add, one_added}
use Rattle.track_directories.proofs.all.TrackDirectories.add_files.Goals as goal

pub adding-init : goal.adding-init
adding-init g c =
    let old = shown g.F.Medium c.args.self.now in
    record {
      sound = c.requires.sound;
      same = refl;
      users = record { may = λ u. refl; common = refl; count = refl };
      own = λ u some. c.requires.first.none u ∙ sym (known_nil old.tells);
      common = refl;
      tells = refl;
      faults = le_refl old.faults;
    }

pub add-requires-clause-can : goal.add-requires-clause-can
add-requires-clause-can g c =
    let inv = c.adding.invariant in
    can_add c.args.files.now c.adding.file-index c.file-item.result c.adding-test.true c.file-item.is (shown g.F.Medium c.args.self.now) (shown g.F.Medium c.adding.self)
    inv.own c.requires.first inv.users

pub adding-preserved : goal.adding-preserved
adding-preserved g c =
    let inv = c.adding.invariant in
    let e = c.in_ok-add.ensures in
    let old = shown g.F.Medium c.args.self.now in
    let now = shown g.F.Medium c.adding.self in
    let rest = e.serves.rest (λ x. let y = x in cc) in
    record {
      sound = e.sound (λ x. let y = x in cc);
      same = e.same ∙ inv.same;
      users = record { may = λ u. e.serves.users.may u ∙ inv.users.may u; common = e.serves.users.common ∙ inv.users.common; count = e.serves.users.count ∙ inv.users.count };
      own = one_added c.args.files.now c.adding.file-index c.file-item.result c.adding-test.true c.file-item.is old now inv.own (shown g.F.Medium c.add.new.self) inv.tells rest e.added;
      common = rest.common ∙ inv.common;
      tells = rest.tells ∙ inv.tells;
      faults = le_trans inv.faults e.serves.faults;
    }
