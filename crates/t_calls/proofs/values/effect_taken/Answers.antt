use Rattle.std.proofs.Common.{arith}
use Rattle.tree_values.specs.Limits.{max_files}
use Rattle.t_calls.proofs.Fits.{effect_taken_fits}
use Rattle.t_calls.proofs.values.effect_taken.Goals as goal

pub returns : goal.returns
returns c = effect_taken_fits max_files c.args.bytes.now c.take.result (λ i. omega (arith, c.type_inv.bytes i)) c.take.ensures
