use Rattle.rs_repair.proofs.Blocks.{near_contents_whole}
use Rattle.rs_repair.proofs.laws.near_contents_are_repaired.Goals as goal

pub returns : goal.returns
returns c = near_contents_whole
