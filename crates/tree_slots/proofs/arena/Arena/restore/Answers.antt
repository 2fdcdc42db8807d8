use Rattle.std.proofs.Common.{◌∙◌, refl, ap, vec_capacity}
use Rattle.tree_values.specs.Tree.{restored}
use Rattle.tree_slots.proofs.Arenas.{restored_rows, row_within}
use Rattle.tree_slots.proofs.Used.{restored_kept}
use Rattle.tree_slots.proofs.arena.Arena.restore.Goals as goal

pub prune-requires-clause-arena : goal.prune-requires-clause-arena
prune-requires-clause-arena c =
    let there = rw (← c.self.view_is) at c.requires in
    let at = rw (c.deref.ensures.value, c.names.ensures.names) at c.slot_of_row-i.ensures.slot in
    (restored_rows c.self.inside.slots.items c.args.kept.path c.self.invariant.arena there c.slot_of_row-i.result at c.write_over.new.slots.items c.args.kept refl c.write_over.ensures.some c.write_over.ensures.none).0

pub returns : goal.returns
returns c =
    let there = rw (← c.self.view_is) at c.requires in
    let at = rw (c.deref.ensures.value, c.names.ensures.names) at c.slot_of_row-i.ensures.slot in
    c.prune.ensures.rows
    ∙ (restored_rows c.self.inside.slots.items c.args.kept.path c.self.invariant.arena there c.slot_of_row-i.result at c.write_over.new.slots.items c.args.kept refl c.write_over.ensures.some c.write_over.ensures.none).1
    ∙ ap (λ rows. restored rows c.args.kept) c.self.view_is

pub prune-requires-clause-pool : goal.prune-requires-clause-pool
prune-requires-clause-pool c =
    let there = rw (← c.self.view_is) at c.requires in
    let at = rw (c.deref.ensures.value, c.names.ensures.names) at c.slot_of_row-i.ensures.slot in
    (restored_kept c.self.inside.slots.items c.write_over.new.slots.items c.self.inside.free.items (vec_capacity c.self.inside.free) c.slot_of_row-i.result c.args.kept.version c.args.kept.node c.args.kept.path at (row_within c.self.inside.slots.items c.args.kept.path c.self.invariant.arena there c.slot_of_row-i.result at) c.write_over.ensures.some c.write_over.ensures.none c.self.invariant.pool c.self.invariant.used).0

pub prune-requires-clause-used : goal.prune-requires-clause-used
prune-requires-clause-used c =
    let there = rw (← c.self.view_is) at c.requires in
    let at = rw (c.deref.ensures.value, c.names.ensures.names) at c.slot_of_row-i.ensures.slot in
    rw c.names-2.ensures.names (restored_kept c.self.inside.slots.items c.write_over.new.slots.items c.self.inside.free.items (vec_capacity c.self.inside.free) c.slot_of_row-i.result c.args.kept.version c.args.kept.node c.args.kept.path at (row_within c.self.inside.slots.items c.args.kept.path c.self.invariant.arena there c.slot_of_row-i.result at) c.write_over.ensures.some c.write_over.ensures.none c.self.invariant.pool c.self.invariant.used).1
