use Rattle.std.proofs.Common.{arith}
use Rattle.t_calls.proofs.Fits.{effect_taken_fits}
use Rattle.t_calls.proofs.values.effect_taken_within.Goals as goal

pub returns : goal.returns
returns c = effect_taken_fits c.args.room c.args.bytes.now c.take_in.result (λ i. omega (arith, c.type_inv.bytes i)) c.take_in.ensures
