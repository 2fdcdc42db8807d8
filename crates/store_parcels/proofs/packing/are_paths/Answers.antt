use Rattle.store_parcels.proofs.Used.{paths_more}
use Rattle.store_parcels.proofs.packing.are_paths.Goals as goal

pub loop-path-preserved : goal.loop-path-preserved
loop-path-preserved c =
    paths_more c.args.paths.now c.loop-path.path-index c.path-item.result c.loop-path-test.true c.path-item.is c.loop-path.invariant c.names.ensures.path
