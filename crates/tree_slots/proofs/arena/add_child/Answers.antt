use Rattle.std.proofs.Common.{◌≡◌, insert, rules, vec_capacity}
use Rattle.tree_slots.proofs.Pool.{added}
use Rattle.tree_slots.proofs.arena.add_child.Goals as goal

pub returns-clause-ok : goal.returns-clause-ok
returns-clause-ok c =
    let is : c.link.new.self ≡ record { name = c.index_mut.result.now.name; version = c.index_mut.result.now.version; node = c.index_mut.result.now.node; children = insert c.index_mut.result.now.children c.args.k c.in_ok-j.j } = search rules in
    let blank = rw c.in_ok-name.ensures at c.begin.ensures in
    (added c.args.slots.now.items c.take_slot.new.slots.items c.take_slot.new.free.items c.in_ok-j.j (vec_capacity c.take_slot.new.free) c.args.parent c.args.k c.args.name.now c.link.new.self c.index_mut.result.now c.begin.new.self
    c.in_ok-j.ensures.pads c.in_ok-j.ensures.ok c.requires.reached.0 c.requires.reached.1 c.requires.parent c.requires.place c.index_mut.ensures.value is blank).0

pub returns-clause-pool : goal.returns-clause-pool
returns-clause-pool c =
    let is : c.link.new.self ≡ record { name = c.index_mut.result.now.name; version = c.index_mut.result.now.version; node = c.index_mut.result.now.node; children = insert c.index_mut.result.now.children c.args.k c.in_ok-j.j } = search rules in
    let blank = rw c.in_ok-name.ensures at c.begin.ensures in
    (added c.args.slots.now.items c.take_slot.new.slots.items c.take_slot.new.free.items c.in_ok-j.j (vec_capacity c.take_slot.new.free) c.args.parent c.args.k c.args.name.now c.link.new.self c.index_mut.result.now c.begin.new.self
    c.in_ok-j.ensures.pads c.in_ok-j.ensures.ok c.requires.reached.0 c.requires.reached.1 c.requires.parent c.requires.place c.index_mut.ensures.value is blank).1
