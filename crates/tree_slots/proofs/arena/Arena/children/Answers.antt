use Rattle.std.proofs.Common.{◌∙◌, sym, ap}
use Rattle.tree_values.specs.Tree.{children}
use Rattle.tree_slots.proofs.Folders.{children_found, no_folder}
use Rattle.tree_slots.proofs.arena.Arena.children.Goals as goal

pub returns-in-Some : goal.returns-in-Some
returns-in-Some c =
    let at = rw c.deref.ensures.value at (sym c.descend.ensures.slot ∙ c.in-Some.is) in
    let names = rw c.deref-in-Some.ensures.value at c.standing.ensures in
    rw (← c.self.view_is, children_found c.self.inside.slots.items c.args.path.now c.self.invariant.arena c.in-Some.i at) names

pub returns-in-None : goal.returns-in-None
returns-in-None c =
    let at = rw c.deref.ensures.value at (sym c.descend.ensures.slot ∙ c.in-None.is) in
    c.new.ensures ∙ sym (no_folder c.self.inside.slots.items c.args.path.now c.self.invariant.arena at) ∙ ap (λ rows. children rows c.args.path.now) c.self.view_is
