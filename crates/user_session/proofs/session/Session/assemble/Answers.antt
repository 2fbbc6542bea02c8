use Rattle.std.proofs.Common.{◌≡◌, ◌∙◌, Bool, Ok, sym, ap}
use Rattle.file_model.specs.Files.{got}
use Rattle.file_map.specs.Known.{known}
use Rattle.cmd_fap.specs.declared.assembly.Assembly.TheVariants.{Deck, Module}
use Rattle.cmd_fap.specs.Assemblies.{assembly_got}
use Rattle.user_model.specs.Commands.{cards_name}
use Rattle.user_session.proofs.Assemblies.{deck_put, relocatable_put}
use Rattle.user_session.proofs.Enters.{ok_map}
use Rattle.user_session.proofs.session.Session.assemble.Goals as goal

pub returns-in-Ok-Deck-clause-row : goal.returns-in-Ok-Deck-clause-row
returns-in-Ok-Deck-clause-row g c = λ core size.
    let told = c.in_ok-words.ensures.answer in
    let reads = c.in_ok-words.ensures.reads in
    let tells = reads.uses.telling (λ e. cc) in
    let are : known (g.P.FilePort.tells c.assembly_of.new.files) told.0 ≡ g.P.FilePort.files c.assembly_of.new.files =
    ap (λ (b : Bool). known b told.0) tells ∙ told.1 ∙ sym (reads.files (λ e. cc)) in
    let made : Ok (Deck c.as_slice.result.now) ≡ assembly_got (got (cards_name c.args.name) told.0) =
    (let a = c.in-Ok-Deck.is in let b = c.in-Ok-Deck.field-0-is in let w = c.as_slice.ensures in let d = told.2 in cc) in
    ok_map _ _ c.put_file.result
    (λ s h. record {
      had = told.0;
      has = h.0;
      was = told.1;
      now = ap (λ (b : Bool). known b h.0) (sym tells) ∙ h.1;
      does = rw (deck_put c.args.name (got (cards_name c.args.name) told.0) c.as_slice.result.now made, sym c.deck_name.ensures) h.2;
    })
    (c.put_file.ensures.row core told.0 size are)

pub returns-in-Ok-Module-clause-row : goal.returns-in-Ok-Module-clause-row
returns-in-Ok-Module-clause-row g c = λ core size.
    let told = c.in_ok-words.ensures.answer in
    let reads = c.in_ok-words.ensures.reads in
    let tells = reads.uses.telling (λ e. cc) in
    let are : known (g.P.FilePort.tells c.assembly_of.new.files) told.0 ≡ g.P.FilePort.files c.assembly_of.new.files =
    ap (λ (b : Bool). known b told.0) tells ∙ told.1 ∙ sym (reads.files (λ e. cc)) in
    let made : Ok (Module c.as_slice-in-Ok-Module.result.now) ≡ assembly_got (got (cards_name c.args.name) told.0) =
    (let a = c.in-Ok-Module.is in let b = c.in-Ok-Module.field-0-is in let w = c.as_slice-in-Ok-Module.ensures in let d = told.2 in cc) in
    ok_map _ _ c.put_file-in-Ok-Module.result
    (λ s h. record {
      had = told.0;
      has = h.0;
      was = told.1;
      now = ap (λ (b : Bool). known b h.0) (sym tells) ∙ h.1;
      does = rw (relocatable_put c.args.name (got (cards_name c.args.name) told.0) c.as_slice-in-Ok-Module.result.now made, sym c.module_name.ensures) h.2;
    })
    (c.put_file-in-Ok-Module.ensures.row core told.0 size are)
