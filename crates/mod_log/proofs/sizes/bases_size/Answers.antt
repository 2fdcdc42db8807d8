use Rattle.std.proofs.Common.{length, arith}
use Rattle.tree_values.specs.Spelling.{base}
use Rattle.mod_log.proofs.Sums.{sum_by-next}
use Rattle.mod_log.proofs.sizes.bases_size.Goals as goal

pub loop-base-preserved : goal.loop-base-preserved
loop-base-preserved c =
    let more = sum_by-next (λ b. length (base b)) c.args.bases.now c.loop-base.base-index c.base-item.result (omega arith) c.base-item.is in
    omega (arith, more)
