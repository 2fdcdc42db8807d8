use Rattle.client_proof.proofs.Writing.{roots_written}
use Rattle.client_proof.proofs.laws.roots_are_written.Goals as goal

pub returns : goal.returns
returns c = roots_written
