use Rattle.std.proofs.Common.{arith}
use Rattle.t_calls.proofs.Fits.{entry_taken_fits}
use Rattle.t_calls.proofs.logs.entry_taken.Goals as goal

pub returns : goal.returns
returns c = entry_taken_fits c.args.number c.args.bytes.now c.take.result (λ i. omega (arith, c.type_inv.bytes i)) c.take.ensures
