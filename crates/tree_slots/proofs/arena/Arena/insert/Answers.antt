use Rattle.std.proofs.Common.{◌∙◌, ap, vec_capacity}
use Rattle.tree_values.specs.Tree.{with_row}
use Rattle.tree_slots.proofs.Arenas.{inserted_rows}
use Rattle.tree_slots.proofs.Used.{inserted_kept}
use Rattle.tree_slots.proofs.arena.Arena.insert.Goals as goal

pub invariant_of-self-2 : goal.invariant_of-self-2
invariant_of-self-2 c =
    let entered = rw c.names.ensures.names at c.in_ok-i.ensures.ok in
    let arena = (inserted_rows c.self.inside.slots.items c.reach.new.slots.items c.write_over.new.slots.items c.args.row c.in_ok-i.i entered c.requires.below_root c.requires.touched c.write_over.ensures.some).0 in
    inserted_kept c.reach.new.slots.items c.write_over.new.slots.items c.reach.new.free.items (vec_capacity c.reach.new.free) c.in_ok-i.i c.args.row.version c.args.row.node arena entered.within c.requires.touched c.write_over.ensures.some c.in_ok-i.ensures.pool c.in_ok-i.ensures.used

pub returns-clause-ok : goal.returns-clause-ok
returns-clause-ok c =
    let entered = rw c.names.ensures.names at c.in_ok-i.ensures.ok in
    (inserted_rows c.self.inside.slots.items c.reach.new.slots.items c.write_over.new.slots.items c.args.row c.in_ok-i.i entered c.requires.below_root c.requires.touched c.write_over.ensures.some).1
    ∙ ap (λ rows. with_row rows c.args.row) c.self.view_is
