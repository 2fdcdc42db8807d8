use Rattle.std.proofs.Common.{arith}
use Rattle.t_calls.proofs.Fits.{all_effects_taken_fit}
use Rattle.t_calls.proofs.values.effects_taken.Goals as goal

pub returns : goal.returns
returns c = all_effects_taken_fit c.args.bytes.now c.take.result (λ i. omega (arith, c.type_inv.bytes i)) c.take.ensures
