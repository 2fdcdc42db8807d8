use Rattle.gf_65536.proofs.Determined.{the_only}
use Rattle.gf_65536.proofs.laws.only_product.Goals as goal

pub returns : goal.returns
returns c = the_only
