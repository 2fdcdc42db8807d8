use Rattle.std.proofs.Common.{refl, arith, vec_capacity}
use Rattle.tree_slots.proofs.Used.{used_front, used_whole, used_end}
use Rattle.tree_slots.proofs.arena.prune.Goals as goal

pub loop-depth-init : goal.loop-depth-init
loop-depth-init c = record {
  arena = c.requires.arena;
  pool = c.requires.pool;
  used = used_whole c.args.slots.now.items c.args.path.now c.requires.used;
  rows = refl;
  within = omega arith;
}

pub drop_idle-requires-clause-used : goal.drop_idle-requires-clause-used
drop_idle-requires-clause-used c =
    used_front c.loop-depth.slots.items c.args.path.now c.loop-depth.depth c.index-path-depth.result (omega arith) (omega arith) c.index-path-depth.is c.loop-depth.invariant.used

pub returns-clause-used : goal.returns-clause-used
returns-clause-used c =
    used_end c.loop-depth.slots.items c.loop-depth.free.items (vec_capacity c.loop-depth.free) c.args.path.now c.loop-depth.depth (omega arith) c.loop-depth.invariant.pool c.loop-depth.invariant.used
