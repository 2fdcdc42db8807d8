use Rattle.std.proofs.Common.{arith}
use Rattle.store_image.specs.Reading.{numbers_at}
use Rattle.store_image.proofs.Images.{numbers_codec}
use Rattle.store_image.proofs.reading.server_body_at.Goals as goal

pub tree_at-requires : goal.tree_at-requires
unfolding numbers_at
tree_at-requires c = (numbers_codec.found c.args.bytes.now c.args.at c.in_ok-last.last c.in_ok-last.start (λ i. omega (arith, c.type_inv.bytes i)) c.requires c.in_ok-last.ensures).0.within
