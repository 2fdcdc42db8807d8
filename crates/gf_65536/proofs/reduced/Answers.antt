use Rattle.std.proofs.Common.{◌∙◌}
use Rattle.std.proofs.lemmas.Nat.{and_mask}
use Rattle.gf_65536.proofs.Windows.{remainder_by_quotient}
use Rattle.gf_65536.proofs.reduced.Goals as goal

pub returns : goal.returns
returns c = and_mask _ 16 ∙ remainder_by_quotient c.args.polynomial c.requires
