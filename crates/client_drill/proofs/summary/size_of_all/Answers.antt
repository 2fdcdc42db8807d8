use Rattle.std.proofs.Common.{arith}
use Rattle.tree_values.specs.Tree.{node_size}
use Rattle.tree_values.specs.declared.node.Row.{Row}
use Rattle.mod_log.proofs.Sums.{sum_by-next}
use Rattle.client_drill.proofs.summary.size_of_all.Goals as goal

pub loop-row-preserved : goal.loop-row-preserved
loop-row-preserved c =
    let more = sum_by-next (λ (row : Row). node_size row.node) c.args.rows.now c.loop-row.row-index c.row-item.result (omega arith) c.row-item.is in
    omega (arith, more)
