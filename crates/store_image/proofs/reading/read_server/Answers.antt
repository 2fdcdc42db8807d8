use Rattle.std.proofs.Common.{arith}
use Rattle.store_image.proofs.Keeping.{server_kept, server_none}
use Rattle.store_image.proofs.reading.read_server.Goals as goal

pub returns-clause-kept : goal.returns-clause-kept
returns-clause-kept c = server_kept c.args.bytes.now c.server_of.result (λ i. omega (arith, c.type_inv.bytes i)) c.server_of.ensures

pub returns-clause-none : goal.returns-clause-none
returns-clause-none c = server_none c.args.bytes.now c.server_of.result c.server_of.ensures
