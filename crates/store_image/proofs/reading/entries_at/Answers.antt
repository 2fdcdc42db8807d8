use Rattle.std.proofs.Common.{◌+◌, length, arith, ap, length-take}
use Rattle.std.specs.Int.{w32}
use Rattle.store_image.proofs.Places.{number_within}
use Rattle.store_image.proofs.reading.entries_at.Goals as goal

pub entries_from-requires-clause-within : goal.entries_from-requires-clause-within
entries_from-requires-clause-within c =
    let within = number_within w32 c.args.bytes.now c.args.at c.in_ok-count.count c.in_ok-count.start c.in_ok-count.ensures in
    omega (arith, within, ap length c.front-bytes.ensures, length-take (c.in_ok-count.start + 67108864) c.args.bytes.now)
