use Rattle.std.proofs.Common.{◌≡◌, ◌≤◌, List, subst, sym, arith}
use Rattle.ctss_types.specs.declared.file.FileBody.{FileBody}
use Rattle.file_model.specs.Files.{tracks_of}
use Rattle.file_map.proofs.Modes.{modes_lasting}
use Rattle.file_map.proofs.Tracks.{tracks_lasting}
use Rattle.file_map.proofs.files.FilesFilePort.drop_temporary.Goals as goal

pub tracks-self-inside-requires : goal.tracks-self-inside-requires
tracks-self-inside-requires c =
    let le : tracks_of c.drop_temporary.new.self ≤ tracks_of c.self.inside.table
    = subst (λ (fs : List FileBody). tracks_of fs ≤ tracks_of c.self.inside.table) (sym c.drop_temporary.ensures) (tracks_lasting c.self.inside.table) in
    let count : c.self.inside.used ≡ tracks_of c.self.inside.table = c.self.invariant.counted.count in
    omega arith

pub invariant_of-self : goal.invariant_of-self
invariant_of-self c =
    let le : tracks_of c.drop_temporary.new.self ≤ tracks_of c.self.inside.table
    = subst (λ (fs : List FileBody). tracks_of fs ≤ tracks_of c.self.inside.table) (sym c.drop_temporary.ensures) (tracks_lasting c.self.inside.table) in
    let count : c.self.inside.used ≡ tracks_of c.self.inside.table = c.self.invariant.counted.count in
    let most : c.self.inside.used ≤ c.self.inside.quota = c.self.invariant.counted.most in
    record {
      counted = record { count = c.tracks-self-inside.ensures; most = omega arith };
      modes = modes_lasting _ _ c.self.invariant.modes c.drop_temporary.ensures;
    }
