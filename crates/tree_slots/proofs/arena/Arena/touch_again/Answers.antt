use Rattle.std.proofs.Common.{◌≡◌, ◌∙◌, ◌+◌, refl, sym, ap, arith, vec_capacity, Some}
use Rattle.tree_values.specs.Tree.{touched}
use Rattle.tree_slots.proofs.Arenas.{may_rise, version_before, node_before, touched_arena, touched_rows, row_entered, row_is_below}
use Rattle.tree_slots.specs.Arena.{place}
use Rattle.tree_slots.proofs.Used.{written_kept, used_any}
use Rattle.tree_slots.proofs.arena.Arena.touch_again.Goals as goal

pub overflow_add-version : goal.overflow_add-version
overflow_add-version c =
    let there = rw (← c.self.view_is) at c.requires.there in
    let at = rw (c.deref.ensures.value, c.names.ensures.names) at c.slot_of_row-i.ensures.slot in
    let entered = row_entered c.self.inside.slots.items c.args.path c.self.invariant.arena there c.slot_of_row-i.result at in
    let read = rw c.deref-2.ensures.value at c.version_of-version.ensures in
    let below = rw (← c.self.view_is) at c.requires.below_top in
    let rise = may_rise c.self.inside.slots.items c.self.inside.slots.items c.args.path c.slot_of_row-i.result c.args.node entered below in
    let other : c.version_of-version.result ≡ 18446744073709551615 → ⊥ = λ same. rise (sym read ∙ same) in
    omega (arith, c.version_of-version.type_inv, other)

pub invariant_of-self : goal.invariant_of-self
invariant_of-self c =
    let there = rw (← c.self.view_is) at c.requires.there in
    let at = rw (c.deref.ensures.value, c.names.ensures.names) at c.slot_of_row-i.ensures.slot in
    let entered = row_entered c.self.inside.slots.items c.args.path c.self.invariant.arena there c.slot_of_row-i.result at in
    let read = rw c.deref-2.ensures.value at c.version_of-version.ensures in
    let other = row_is_below c.self.inside.slots.items c.args.path c.self.invariant.arena there in
    let arena = touched_arena c.self.inside.slots.items c.self.inside.slots.items c.args.path c.slot_of_row-i.result c.args.node entered other in
    rw (c.write-old.ensures.new, read) (written_kept c.self.inside.slots.items c.self.inside.free.items (vec_capacity c.self.inside.free) c.slot_of_row-i.result ((place c.self.inside.slots.items c.slot_of_row-i.result).version + 1) c.args.node arena entered.within (λ z. absurd (omega arith)) c.self.invariant.pool (used_any c.self.inside.slots.items (Some c.slot_of_row-i.result) c.self.invariant.used))

pub returns-clause-touched : goal.returns-clause-touched
returns-clause-touched c =
    let there = rw (← c.self.view_is) at c.requires.there in
    let at = rw (c.deref.ensures.value, c.names.ensures.names) at c.slot_of_row-i.ensures.slot in
    let entered = row_entered c.self.inside.slots.items c.args.path c.self.invariant.arena there c.slot_of_row-i.result at in
    let read = rw c.deref-2.ensures.value at c.version_of-version.ensures in
    let other = row_is_below c.self.inside.slots.items c.args.path c.self.invariant.arena there in
    rw (c.write-old.ensures.new, read) (touched_rows c.self.inside.slots.items c.self.inside.slots.items c.args.path c.slot_of_row-i.result c.args.node entered other ∙ ap (λ rows. touched rows c.args.path c.args.node) c.self.view_is)

pub returns-clause-kept : goal.returns-clause-kept
returns-clause-kept c =
    let there = rw (← c.self.view_is) at c.requires.there in
    let at = rw (c.deref.ensures.value, c.names.ensures.names) at c.slot_of_row-i.ensures.slot in
    let entered = row_entered c.self.inside.slots.items c.args.path c.self.invariant.arena there c.slot_of_row-i.result at in
    let read = rw c.deref-2.ensures.value at c.version_of-version.ensures in
    let version = read ∙ version_before c.self.inside.slots.items c.self.inside.slots.items c.args.path c.slot_of_row-i.result c.args.node entered in
    let node = c.write-old.ensures.kept ∙ node_before c.self.inside.slots.items c.self.inside.slots.items c.args.path c.slot_of_row-i.result c.args.node entered in
    rw (version, node, c.self.view_is) refl
