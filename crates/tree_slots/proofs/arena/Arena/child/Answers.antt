use Rattle.std.proofs.Common.{◌∙◌, sym, ap}
use Rattle.std.specs.List.{slice_get}
use Rattle.tree_values.specs.Tree.{children}
use Rattle.tree_slots.proofs.Folders.{children_found, no_folder}
use Rattle.tree_slots.proofs.arena.Arena.child.Goals as goal

pub returns-in-Some : goal.returns-in-Some
returns-in-Some c =
    let at = rw c.deref.ensures.value at (sym c.descend.ensures.slot ∙ c.in-Some.is) in
    let nth = rw c.deref-in-Some.ensures.value at c.nth_standing.ensures in
    nth ∙ ap (λ names. slice_get names c.args.i) (sym (children_found c.self.inside.slots.items c.args.path.now c.self.invariant.arena c.in-Some.at at) ∙ ap (λ rows. children rows c.args.path.now) c.self.view_is)

pub returns-in-None : goal.returns-in-None
returns-in-None c =
    let at = rw c.deref.ensures.value at (sym c.descend.ensures.slot ∙ c.in-None.is) in
    ap (λ names. slice_get names c.args.i) (sym (no_folder c.self.inside.slots.items c.args.path.now c.self.invariant.arena at) ∙ ap (λ rows. children rows c.args.path.now) c.self.view_is)
