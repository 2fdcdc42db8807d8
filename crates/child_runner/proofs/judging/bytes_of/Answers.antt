use Rattle.std.proofs.Common.{arith}
use Rattle.child_runner.proofs.Files.{files_next}
use Rattle.child_runner.proofs.judging.bytes_of.Goals as goal

pub loop-row-preserved : goal.loop-row-preserved
loop-row-preserved c =
    let more = files_next c.args.rows.now c.loop-row.row-index c.row-item.result (omega arith) c.row-item.is in
    omega (arith, more)
