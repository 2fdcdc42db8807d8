use Rattle.tree_proof.proofs.Checked.{findings_true}
use Rattle.tree_proof.proofs.laws.findings_are_true.Goals as goal

pub returns : goal.returns
returns c = findings_true
