use Rattle.std.proofs.Common.{arith}
use Rattle.tree_laws.proofs.Parts.{rows_in_codec}
use Rattle.store_image.proofs.reading.tree_at.Goals as goal

pub tree_of-requires : goal.tree_of-requires
tree_of-requires c = ((rows_in_codec c.args.format).found c.args.bytes.now c.args.at c.in_ok-rows.rows c.in_ok-rows.next (λ i. omega (arith, c.type_inv.bytes i)) c.requires c.in_ok-rows.ensures).1.0
