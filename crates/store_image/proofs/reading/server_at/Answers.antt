use Rattle.std.specs.Int.{w8}
use Rattle.store_image.proofs.Places.{number_within}
use Rattle.store_image.proofs.reading.server_at.Goals as goal

pub server_body_at-requires : goal.server_body_at-requires
server_body_at-requires c = number_within w8 c.args.bytes.now c.in_ok-mark.start c.in_ok-version.version c.in_ok-version.body c.in_ok-version.ensures
