use Rattle.rs_repair.proofs.Blocks.{one_repair_whole}
use Rattle.rs_repair.proofs.laws.one_repair.Goals as goal

pub returns : goal.returns
returns c = one_repair_whole
