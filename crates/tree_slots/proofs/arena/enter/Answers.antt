use Rattle.tree_slots.proofs.Grown.{entered_found, entered_new}
use Rattle.tree_slots.proofs.Used.{used_found, entered_used}
use Rattle.tree_slots.proofs.arena.enter.Goals as goal

pub returns-in-Ok-clause-ok : goal.returns-in-Ok-clause-ok
returns-in-Ok-clause-ok c =
    let found = rw (c.in-Ok.is, c.deref.ensures.value) at c.search.ensures.found in
    rw (c.child_of.ensures.child, c.deref-in-Ok.ensures.value) (entered_found c.args.slots.now.items c.args.at c.in-Ok.k c.args.name.now c.requires.arena found)

pub returns-in-Err-clause-ok : goal.returns-in-Err-clause-ok
returns-in-Err-clause-ok c =
    let missing = rw (c.in-Err.is, c.deref.ensures.value) at c.search.ensures.missing in
    entered_new c.args.slots.now.items c.add_child.new.slots.items c.args.at c.in-Err.k c.args.name.now c.add_child.result c.requires.arena missing c.add_child.ensures.ok c.add_child.ensures.room

pub returns-in-Ok-clause-used : goal.returns-in-Ok-clause-used
returns-in-Ok-clause-used c =
    let found = rw (c.in-Ok.is, c.deref.ensures.value) at c.search.ensures.found in
    used_found c.args.slots.now.items c.args.at c.in-Ok.k _ found.within

pub returns-in-Err-clause-used : goal.returns-in-Err-clause-used
returns-in-Err-clause-used c =
    let missing = rw (c.in-Err.is, c.deref.ensures.value) at c.search.ensures.missing in
    entered_used c.args.slots.now.items c.add_child.new.slots.items c.args.at c.in-Err.k c.args.name.now c.add_child.result missing c.add_child.ensures.ok
