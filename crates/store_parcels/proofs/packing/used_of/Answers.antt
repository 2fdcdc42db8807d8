use Rattle.std.proofs.Common.{arith}
use Rattle.store_parcels.proofs.Used.{kept_on}
use Rattle.store_parcels.proofs.packing.used_of.Goals as goal

pub loop-source-preserved : goal.loop-source-preserved
loop-source-preserved c = record {
  within = omega arith;
  kept =
      rw c.in_ok-push_if.ensures
      (kept_on c.args.tree.now c.args.sources.now c.loop-source.used.items c.loop-source.source-index c.source-item.result c.is_marked-is_used.result
      c.loop-source-test.true c.source-item.is c.loop-source.invariant.kept);
}
