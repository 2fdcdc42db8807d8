use Rattle.std.proofs.Common.{◌∙◌, take, vec_capacity, Some, None}
use Rattle.tree_slots.proofs.Grown.{one_step}
use Rattle.tree_slots.proofs.Pool.{padded}
use Rattle.tree_slots.proofs.Used.{used_any, used_pads, used_padded}
use Rattle.tree_slots.proofs.arena.reach.Goals as goal

pub loop-depth-init : goal.loop-depth-init
loop-depth-init c = record {
  entered = c.in_ok-add_root.ensures.ok;
  pool = c.in_ok-add_root.ensures.pool c.args.free.now.items (vec_capacity c.args.free.now) c.requires.pool;
  used = used_any c.add_root.new.slots.items (Some 0) (used_pads c.args.slots.now.items c.add_root.new.slots.items None c.in_ok-add_root.ensures.pads c.requires.used);
}

pub loop-depth-preserved : goal.loop-depth-preserved
loop-depth-preserved c = record {
  entered = one_step c.args.slots.now.items c.loop-depth.slots.items c.enter.new.slots.items c.args.path.now c.loop-depth.depth c.loop-depth.at c.in-Ok.next c.index-path-depth.result c.requires.path c.loop-depth-test.true c.index-path-depth.is c.loop-depth.invariant.entered c.in-Ok.ensures.ok;
  pool = c.in-Ok.ensures.pool;
  used = c.in-Ok.ensures.used c.loop-depth.invariant.used;
}

pub prune-requires-clause-arena : goal.prune-requires-clause-arena
prune-requires-clause-arena c =
    (padded c.args.slots.now.items c.loop-depth.slots.items c.enter.new.slots.items (take c.loop-depth.depth c.args.path.now) c.loop-depth.at c.loop-depth.invariant.entered c.in-Err.ensures.err).0

pub prune-requires-clause-used : goal.prune-requires-clause-used
prune-requires-clause-used c =
    used_padded c.args.slots.now.items c.loop-depth.slots.items c.enter.new.slots.items (take c.loop-depth.depth c.args.path.now) c.loop-depth.at c.loop-depth.invariant.entered c.in-Err.ensures.err c.loop-depth.invariant.used

pub returns-in-Err-clause-rows : goal.returns-in-Err-clause-rows
returns-in-Err-clause-rows c =
    c.prune.ensures.rows ∙ (padded c.args.slots.now.items c.loop-depth.slots.items c.enter.new.slots.items (take c.loop-depth.depth c.args.path.now) c.loop-depth.at c.loop-depth.invariant.entered c.in-Err.ensures.err).1
