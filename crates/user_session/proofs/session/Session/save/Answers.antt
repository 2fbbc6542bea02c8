use Rattle.std.proofs.Common.{◌≡◌, ◌∙◌, ℕ, List, true, IfOk, sym, ap, subst}
use Rattle.ctss_types.specs.Names.{NamePair}
use Rattle.ctss_types.specs.declared.file.FileBody.{FileBody}
use Rattle.program_model.specs.Saved.{saved, saved_name}
use Rattle.user_model.specs.Commands.{is_dormant}
use Rattle.user_model.specs.User.{User}
use Rattle.user_session.specs.Changes.{DidPut}
use Rattle.user_session.specs.Stores.{stored, OfSome}
use Rattle.user_session.proofs.Enters.{ok_map, over_all}
use Rattle.user_session.proofs.session.Session.save.Goals as goal

pub returns-clause-row : goal.returns-clause-row
returns-clause-row g c =
    let core = g.M.MemoryPort.words c.args.core.now in
    let tells = g.P.FilePort.tells c.args.files.now in
    let files = g.P.FilePort.files c.args.files.now in
    let left = g.P.FilePort.files c.put_file.new.files in
    let are = g.met.P.FilePort.is_known c.args.files.now c.requires.own.usable in
    let dormant : is_dormant c.args.self.now.inner.state ≡ true = sym c.is_dormant.ensures ∙ c.if-not-is_dormant.false in
    let words : c.deref.result.now ≡ saved c.args.self.now.inner.blocks c.args.self.now.inner.regs core =
    c.deref.ensures.value ∙ c.in_ok-words.ensures ∙ ap (λ (u : User). saved u.inner.blocks u.inner.regs core) c.self.view_is in
    let named = subst (λ (name : NamePair). IfOk c.put_file.result (λ s. OfSome tells left (λ (has : List FileBody).
    DidPut c.args.line name c.deref.result.now s.ending s.clock c.args.now c.args.self.now c.put_file.new.self (stored core files) (stored core has)))) c.saved_name.ensures (c.put_file.ensures.row core files c.requires.can.size are) in
    let said = subst (λ (ws : List ℕ). IfOk c.put_file.result (λ s. OfSome tells left (λ (has : List FileBody).
    DidPut c.args.line (saved_name c.args.name) ws s.ending s.clock c.args.now c.args.self.now c.put_file.new.self (stored core files) (stored core has)))) words named in
    ok_map _ _ c.put_file.result (λ s h. over_all _ _ _ _ are (h.0, h.1, rw dormant h.2)) said
