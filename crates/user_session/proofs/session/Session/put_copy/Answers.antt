use Rattle.std.proofs.Common.{rules, ℕ, List, refl, subst}
use Rattle.user_model.proofs.CoreLaws.{recut_same}
use Rattle.user_session.specs.Changes.{DidPut}
use Rattle.user_session.specs.Stores.{stored}
use Rattle.user_session.proofs.Enters.{ok_map}
use Rattle.user_session.proofs.session.Session.put_copy.Goals as goal

pub returns-in-Some-clause-row : goal.returns-in-Some-clause-row
returns-in-Some-clause-row g c = λ core fs size are.
    ok_map _ _ c.put_file.result
    (λ s h. (h.0, h.1, rw c.in-Some.is (subst (λ (ws : List ℕ). DidPut c.args.line c.in-Some.name ws s.ending s.clock c.args.now c.args.self.now c.put_file.new.self (stored core fs) (stored core h.0)) c.as_slice.ensures h.2)))
    (c.put_file.ensures.row core fs size are)

pub returns-in_ok-say-in-None-clause-row : goal.returns-in_ok-say-in-None-clause-row
returns-in_ok-say-in-None-clause-row g c = λ core fs size are. (fs, are, rw c.in-None.is (refl, search rules, recut_same _ _ size, refl, refl, refl, refl))
