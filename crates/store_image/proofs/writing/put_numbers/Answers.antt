use Rattle.std.proofs.Common.{arith}
use Rattle.store_image.proofs.Images.{all_numbers}
use Rattle.store_image.proofs.writing.put_numbers.Goals as goal

pub returns-clause-fit : goal.returns-clause-fit
returns-clause-fit c = all_numbers c.args.values.now (λ i. omega (arith, c.type_inv.values i))
