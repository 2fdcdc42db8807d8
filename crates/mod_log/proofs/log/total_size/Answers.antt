use Rattle.std.proofs.Common.{arith}
use Rattle.mod_log.specs.declared.log.Pending.{Pending}
use Rattle.mod_log.proofs.Sums.{sum_by-next}
use Rattle.mod_log.proofs.log.total_size.Goals as goal

pub loop-kept-preserved : goal.loop-kept-preserved
loop-kept-preserved c =
    let more = sum_by-next (λ (k : Pending). k.size) c.args.pending.now c.loop-kept.kept-index c.kept-item.result (omega arith) c.kept-item.is in
    omega (arith, more)
