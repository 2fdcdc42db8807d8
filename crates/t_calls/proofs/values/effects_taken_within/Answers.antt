use Rattle.std.proofs.Common.{arith}
use Rattle.t_calls.proofs.Fits.{effects_taken_fit}
use Rattle.t_calls.proofs.values.effects_taken_within.Goals as goal

pub returns : goal.returns
returns c = effects_taken_fit c.args.most c.args.room c.args.bytes.now c.take_within.result c.requires.most c.requires.room (λ i. omega (arith, c.type_inv.bytes i)) c.take_within.ensures
