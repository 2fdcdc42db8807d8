use Rattle.std.proofs.Common.{rules}
use Rattle.outside.specs.declared.errors.Failed.{Failed}
use Rattle.client_proof.proofs.Piecing.{read_added}
use Rattle.client_proof.proofs.reading.read_piece.Goals as goal

pub returns-clause-ok : goal.returns-clause-ok
returns-clause-ok g c = read_added Failed _ _ _ c.args.bytes.now.items c.add.new.bytes.items c.read.new.buf c.in-Ok.count c.add.result c.in-Ok.ensures.bytes (search rules) (search rules) c.add.ensures.ok
