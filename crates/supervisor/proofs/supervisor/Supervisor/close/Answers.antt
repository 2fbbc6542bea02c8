use Rattle.std.proofs.Common.{◌≡◌, ℕ, List, length, sym, ap, ◌∙◌}
use Rattle.ctss_types.specs.declared.file.FileBody.{FileBody}
use Rattle.plan_model.specs.Loads.{Places}
use Rattle.user_model.specs.Inner.{Stored}
use Rattle.track_directories.specs.Directories.{lists_from}
use Rattle.system_model.specs.Run.{Run}
use Rattle.system_model.specs.Cases.{closed}
use Rattle.system_model.proofs.CaseLaws.{closes}
use Rattle.supervisor.specs.Seen.{Bare, run_seen, run_with, without_files}
use Rattle.supervisor.specs.Closes.{record_with}
use Rattle.supervisor.proofs.Closing.{files_in, closed_with}
use Rattle.supervisor.proofs.supervisor.Supervisor.close.Goals as goal

pub returns-in-Ok-clause-closes : goal.returns-in-Ok-clause-closes
returns-in-Ok-clause-closes g c =
    let own : List (List FileBody) = c.in-Ok.lists.own.items in
    let common : List FileBody = c.in-Ok.lists.common in
    let is : (places : Places) → run_seen places c.close.new.self ≡ closed (run_with places c.args.self) =
    λ places. c.in_ok-close.ensures.ok places ∙ ap (λ (b : Bare). closed (run_with places b)) c.self.view_is in
    let so : (places : Places) → c.in_ok-record_of-in-Ok.field-0 ≡ record_with own common (closed (run_with places c.args.self)) =
    λ places. c.in_ok-record_of-in-Ok.ensures ∙ ap (record_with own common) (is places) in
    record {
      said = λ places. ap without_files (so places) ∙ ap (λ (r : Run). without_files (record_with own common r)) (sym (closes (run_with places c.args.self)));
      record_is = λ told places.
          (let stores : ℕ → Stored = (g.C.Backing.state c.args.cores.now).held.stores in
          let r : Run = run_with places c.args.self in
          so places
          ∙ ap (λ (fs : List (List FileBody)). record_with fs common (closed r)) (c.in-Ok.ensures.lists told ∙ ap (λ (n : ℕ). lists_from 1 n (files_in stores)) c.requires.agrees.tied.directories)
          ∙ ap (λ (fs : List FileBody). record_with (lists_from 1 (length r.system.users) (files_in stores)) fs (closed r)) (c.in-Ok.ensures.common told)
          ∙ closed_with stores r);
    }
