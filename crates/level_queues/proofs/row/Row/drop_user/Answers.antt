use Rattle.std.proofs.Common.{rules, not, nat_eq}
use Rattle.arrayvec.proofs.ArrayVecLemmas.{filter-from_retain}
use Rattle.ctss_types.specs.declared.session.Waiting.{Waiting}
use Rattle.level_queues.proofs.row.Row.drop_user.Goals as goal

pub returns : goal.returns
returns c = rw (← c.self.view_is) (filter-from_retain _ (λ (x : Waiting). not (nat_eq x.user c.args.user)) _ (λ x b f' y k. search rules) _ _ c.retain.ensures.filtered)
