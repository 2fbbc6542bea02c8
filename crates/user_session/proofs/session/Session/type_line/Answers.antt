use Rattle.std.proofs.Common.{rules, ◌≡◌, ◌∙◌, ℕ, nat_eq, length, false, List, Ok, Err, sym, ap, refl}
use Rattle.std.specs.declared.result.Result.{Result}
use Rattle.ctss_types.specs.declared.file.FileBody.{FileBody}
use Rattle.ctss_types.specs.declared.file.Refusal.{Refusal}
use Rattle.file_model.specs.Files.{appended}
use Rattle.file_map.specs.Known.{known_of}
use Rattle.program_model.specs.Lines.{words_of_line}
use Rattle.user_model.proofs.CoreLaws.{recut_same}
use Rattle.user_session.proofs.Files.{refused_change}
use Rattle.user_session.proofs.Enters.{over_done, over_refused}
use Rattle.user_session.proofs.session.Session.type_line.Goals as goal

pub returns-in-Ok-clause-row : goal.returns-in-Ok-clause-row
returns-in-Ok-clause-row g c = λ core size.
    let tells = g.P.FilePort.tells c.args.files.now in
    let quota = g.P.FilePort.quota c.args.files.now in
    let files = g.P.FilePort.files c.args.files.now in
    let are = g.met.P.FilePort.is_known c.args.files.now c.requires.own.usable in
    let none : nat_eq (length c.args.line) 0 ≡ false = sym c.is_empty.ensures ∙ c.if-is_empty.false in
    let told : Result (List FileBody) Refusal = appended c.args.name (words_of_line 14 c.args.line) c.args.self.now.inner.account.tracks files in
    let is : known_of tells told ≡ Ok (g.P.FilePort.files c.append.new.self) =
    ap (λ (q : ℕ). known_of tells (appended c.args.name (words_of_line 14 c.args.line) q files)) (sym c.requires.own.quota)
    ∙ ap (λ (ws : List ℕ). known_of tells (appended c.args.name ws quota files)) (sym c.line_words.ensures) ∙ c.in-Ok.ensures.left in
    over_done tells core core files _ told _ are is (λ has done. rw (none, done) (refl, search rules, recut_same _ _ size, refl, refl, refl, refl))

pub returns-in-Err-Refused-clause-row : goal.returns-in-Err-Refused-clause-row
returns-in-Err-Refused-clause-row g c = λ core size.
    let tells = g.P.FilePort.tells c.args.files.now in
    let quota = g.P.FilePort.quota c.args.files.now in
    let files = g.P.FilePort.files c.args.files.now in
    let are = g.met.P.FilePort.is_known c.args.files.now c.requires.own.usable in
    let none : nat_eq (length c.args.line) 0 ≡ false = sym c.is_empty.ensures ∙ c.if-is_empty.false in
    let change = refused_change (Unit {0}) c.in-Err-Refused.field-0 c.in-Err-Refused.refusal tells (appended c.args.name c.line_words.result quota files) files (g.P.FilePort.files c.append.new.self) c.in-Err-Refused.field-0-is c.in-Err-Refused.ensures.left in
    let refused : appended c.args.name (words_of_line 14 c.args.line) c.args.self.now.inner.account.tracks files ≡ Err c.in-Err-Refused.refusal =
    ap (λ (q : ℕ). appended c.args.name (words_of_line 14 c.args.line) q files) (sym c.requires.own.quota)
    ∙ ap (λ (ws : List ℕ). appended c.args.name ws quota files) (sym c.line_words.ensures) ∙ change.0 in
    over_refused tells core core files _ _ are change.1 (rw (none, refused) (refl, search rules, recut_same _ _ size, refl, refl, refl, refl))
