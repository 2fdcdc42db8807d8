use Rattle.std.specs.Int.{w64}
use Rattle.store_image.proofs.Places.{number_within}
use Rattle.store_image.proofs.reading.log_at.Goals as goal

pub tree_at-requires : goal.tree_at-requires
tree_at-requires c = number_within w64 c.args.bytes.now c.args.at c.in_ok-acked.acked c.in_ok-acked.start c.in_ok-acked.ensures
