use Rattle.std.proofs.Common.{rules, ◌≡◌, ◌∙◌, ℕ, List, Ok, Err, refl, sym, ap}
use Rattle.ctss_types.specs.declared.file.FileBody.{FileBody}
use Rattle.file_model.specs.Files.{put}
use Rattle.file_map.specs.Known.{known_of}
use Rattle.user_model.proofs.CoreLaws.{recut_same}
use Rattle.user_session.proofs.Files.{known_done, known_refused, refused_change}
use Rattle.user_session.proofs.Knowing.{put_known}
use Rattle.user_session.proofs.session.Session.put_file.Goals as goal

pub returns-in-Ok-clause-row : goal.returns-in-Ok-clause-row
returns-in-Ok-clause-row g c = λ core fs size are.
    let tells = g.P.FilePort.tells c.args.files.now in
    let quota = g.P.FilePort.quota c.args.files.now in
    let told : known_of tells (put c.args.name c.args.words.now quota fs) ≡ Ok (g.P.FilePort.files c.put.new.self) =
    sym (put_known tells c.args.name c.args.words.now quota fs) ∙ ap (λ (gs : List FileBody). known_of tells (put c.args.name c.args.words.now quota gs)) are ∙ c.in-Ok.ensures.left in
    let k = known_done tells (put c.args.name c.args.words.now quota fs) (g.P.FilePort.files c.put.new.self) told in
    (k.0, k.2, rw (ap (λ (q : ℕ). put c.args.name c.args.words.now q fs) (sym c.requires.own.quota) ∙ k.1) (refl, search rules, recut_same _ _ size, refl, refl, refl, refl))

pub returns-in-Err-Refused-clause-row : goal.returns-in-Err-Refused-clause-row
returns-in-Err-Refused-clause-row g c = λ core fs size are.
    let tells = g.P.FilePort.tells c.args.files.now in
    let quota = g.P.FilePort.quota c.args.files.now in
    let files = g.P.FilePort.files c.args.files.now in
    let change = refused_change (Unit {0}) c.in-Err-Refused.field-0 c.in-Err-Refused.refusal tells (put c.args.name c.args.words.now quota files) files (g.P.FilePort.files c.put.new.self) c.in-Err-Refused.field-0-is c.in-Err-Refused.ensures.left in
    let told : known_of tells (put c.args.name c.args.words.now quota fs) ≡ Err c.in-Err-Refused.refusal =
    sym (put_known tells c.args.name c.args.words.now quota fs) ∙ ap (λ (gs : List FileBody). known_of tells (put c.args.name c.args.words.now quota gs)) are ∙ ap (known_of tells) change.0 in (
      fs,
      are ∙ sym change.1,
      rw (ap (λ (q : ℕ). put c.args.name c.args.words.now q fs) (sym c.requires.own.quota) ∙ known_refused tells (put c.args.name c.args.words.now quota fs) c.in-Err-Refused.refusal told)
          (refl, search rules, recut_same _ _ size, refl, refl, refl, refl),
    )
