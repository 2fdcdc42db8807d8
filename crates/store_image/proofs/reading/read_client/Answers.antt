use Rattle.std.proofs.Common.{arith}
use Rattle.store_image.proofs.Keeping.{client_kept, client_none}
use Rattle.store_image.proofs.reading.read_client.Goals as goal

pub returns-clause-kept : goal.returns-clause-kept
returns-clause-kept c = client_kept c.args.bytes.now c.client_of.result (λ i. omega (arith, c.type_inv.bytes i)) c.client_of.ensures

pub returns-clause-none : goal.returns-clause-none
returns-clause-none c = client_none c.args.bytes.now c.client_of.result c.client_of.ensures
