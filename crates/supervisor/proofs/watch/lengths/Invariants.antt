use Rattle.std.proofs.Common.{◌≡◌, length, map, take}
use Rattle.arrayvec.specs.ArrayVec.{array_vec_len}
use Rattle.user_model.specs.User.{User}
use Rattle.supervisor.proofs.watch.lengths.Given as goal

abbrev pub invariant-lens : goal.invariant-lens
invariant-lens l = record {
  items : l.lens.items ≡ map (λ (u : User). length u.transcript) (take l.i l.sessions);
  len : array_vec_len l.lens ≡ l.i;
}
