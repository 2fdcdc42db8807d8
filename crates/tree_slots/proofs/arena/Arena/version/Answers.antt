use Rattle.std.proofs.Common.{refl, sym, ap, ◌∙◌}
use Rattle.tree_values.specs.Tree.{version_at}
use Rattle.tree_slots.proofs.Walk.{none_found, version_found}
use Rattle.tree_slots.proofs.arena.Arena.version.Goals as goal

pub returns-in-Some : goal.returns-in-Some
returns-in-Some c =
    let at = rw c.deref.ensures.value at (sym c.descend.ensures.slot ∙ c.in-Some.is) in
    let read = rw c.deref-in-Some.ensures.value at c.version_of.ensures in
    read ∙ sym (version_found c.self.inside.slots.items c.args.path.now c.self.invariant.arena c.in-Some.i at) ∙ ap (λ rows. version_at rows c.args.path.now) c.self.view_is

pub returns-in-None : goal.returns-in-None
returns-in-None c =
    let at = rw c.deref.ensures.value at (sym c.descend.ensures.slot ∙ c.in-None.is) in
    let none = none_found c.self.inside.slots.items c.args.path.now c.self.invariant.arena at in
    rw (← c.self.view_is, none) refl
