use Rattle.rs_repair.proofs.Pairings.{monomial_is}
use Rattle.rs_repair.proofs.elimination.monomial.Goals as goal

pub returns : goal.returns
returns c = monomial_is c.args.degree c.requires
