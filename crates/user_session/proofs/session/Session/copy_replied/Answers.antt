use Rattle.std.proofs.Common.{rules, Option, IfOk, refl, subst}
use Rattle.ctss_types.specs.Names.{NamePair}
use Rattle.user_model.proofs.CoreLaws.{recut_same}
use Rattle.user_session.specs.Changes.{Copies}
use Rattle.user_session.specs.Stores.{stored, OfSome}
use Rattle.user_session.proofs.session.Session.copy_replied.Goals as goal

pub returns-in-Words-clause-row : goal.returns-in-Words-clause-row
returns-in-Words-clause-row g c = λ core fs size are.
    rw c.in-Words.is (subst (λ (target : Option NamePair). IfOk c.put_copy.result (λ s. OfSome (g.P.FilePort.tells c.args.files.now) (g.P.FilePort.files c.put_copy.new.files) (λ has.
    Copies c.args.line target c.in-Words.words s.ending s.clock c.args.now c.args.self.now c.put_copy.new.self (stored core fs) (stored core has)))) c.copy_target.ensures (c.put_copy.ensures.row core fs size are))

pub returns-in_ok-say-in-Refused-clause-row : goal.returns-in_ok-say-in-Refused-clause-row
returns-in_ok-say-in-Refused-clause-row g c = λ core fs size are. (fs, are, rw c.in-Refused.is (refl, search rules, recut_same _ _ size, refl, refl, refl, refl))

pub returns-in_ok-say-in-Done-clause-row : goal.returns-in_ok-say-in-Done-clause-row
returns-in_ok-say-in-Done-clause-row g c = λ core fs size are. (fs, are, rw c.in-Done.is (refl, search rules, recut_same _ _ size, refl, refl, refl, refl))

pub returns-in_ok-say-in-Size-clause-row : goal.returns-in_ok-say-in-Size-clause-row
returns-in_ok-say-in-Size-clause-row g c = λ core fs size are. (fs, are, rw c.in-Size.is (refl, search rules, recut_same _ _ size, refl, refl, refl, refl))
