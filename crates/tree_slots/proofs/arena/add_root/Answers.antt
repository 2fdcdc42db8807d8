use Rattle.std.proofs.Common.{◌≡◌, length, arith}
use Rattle.tree_slots.proofs.Grown.{rooted}
use Rattle.tree_slots.proofs.Pool.{rooted_pool, pads_pushed}
use Rattle.tree_slots.proofs.arena.add_root.Goals as goal

pub returns-in_ok-push-clause-ok : goal.returns-in_ok-push-clause-ok
returns-in_ok-push-clause-ok c =
    let empty : length c.args.slots.now.items ≡ 0 = grind arith in
    rw (c.in_ok-push.ensures.items, c.blank.ensures) (rooted c.args.slots.now.items c.requires empty)

pub returns-in_ok-push-clause-pool : goal.returns-in_ok-push-clause-pool
returns-in_ok-push-clause-pool c =
    let empty : length c.args.slots.now.items ≡ 0 = grind arith in
    rw (c.in_ok-push.ensures.items, c.blank.ensures) (rooted_pool c.args.slots.now.items empty)

pub returns-in_ok-push-clause-pads : goal.returns-in_ok-push-clause-pads
returns-in_ok-push-clause-pads c = rw (c.in_ok-push.ensures.items, c.blank.ensures) (pads_pushed c.args.slots.now.items)
