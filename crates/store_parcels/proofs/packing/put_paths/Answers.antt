use Rattle.store_parcels.proofs.Used.{put_on, put_end}
use Rattle.store_parcels.proofs.packing.put_paths.Goals as goal

pub loop-path-preserved : goal.loop-path-preserved
loop-path-preserved c =
    put_on _ c.loop-path.out.items c.spell.new.out.items c.args.paths.now c.loop-path.path-index c.path-item.result c.loop-path-test.true c.path-item.is
    c.in_ok-spell.ensures.ok c.loop-path.invariant

pub returns : goal.returns
returns c = put_end _ c.loop-path.out.items c.args.paths.now c.loop-path.path-index c.loop-path-test.false c.loop-path.invariant
