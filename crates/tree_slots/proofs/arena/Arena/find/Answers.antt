use Rattle.std.proofs.Common.{refl, sym, ap, ◌∙◌}
use Rattle.tree_values.specs.Tree.{node_at}
use Rattle.tree_slots.proofs.Walk.{none_found, node_found}
use Rattle.tree_slots.proofs.arena.Arena.find.Goals as goal

pub returns-in-Some-clause-node : goal.returns-in-Some-clause-node
returns-in-Some-clause-node c =
    let at = rw c.deref.ensures.value at (sym c.descend-found.ensures.slot ∙ c.in-Some.is) in
    let read = rw c.deref-in-Some.ensures.value at c.node_of.ensures in
    read ∙ sym (node_found c.self.inside.slots.items c.args.path.now c.self.invariant.arena c.in-Some.i at) ∙ ap (λ rows. node_at rows c.args.path.now) c.self.view_is

pub returns-in-None-clause-node : goal.returns-in-None-clause-node
returns-in-None-clause-node c =
    let at = rw c.deref.ensures.value at (sym c.descend-found.ensures.slot ∙ c.in-None.is) in
    let none = none_found c.self.inside.slots.items c.args.path.now c.self.invariant.arena at in
    rw (← c.self.view_is, none) refl
