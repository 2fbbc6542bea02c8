use Rattle.text_writer.proofs.Added.{adds_is}
use Rattle.ctss_modes.proofs.Faults.{faults_joined}
use Rattle.ctss_modes.proofs.assembly_text.FaultsTextText.add_to.Goals as goal

pub returns : goal.returns
returns g c = adds_is (faults_joined c.args.self.now.faults.now) c.add_faults.ensures
