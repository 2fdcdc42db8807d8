use Rattle.std.proofs.Common.{◌≡◌, ◌∙◌, ◌+◌, refl, sym, ap, arith, vec_capacity}
use Rattle.tree_values.specs.Tree.{touched}
use Rattle.tree_slots.proofs.Arenas.{may_rise, version_before, node_before, touched_arena, touched_rows}
use Rattle.tree_slots.specs.Arena.{place}
use Rattle.tree_slots.proofs.Used.{written_kept}
use Rattle.tree_slots.proofs.arena.Arena.touch.Goals as goal

pub overflow_add-version : goal.overflow_add-version
overflow_add-version c =
    let entered = rw c.names.ensures.names at c.in_ok-i.ensures.ok in
    let read = rw c.deref.ensures.value at c.version_of-version.ensures in
    let below = rw (← c.self.view_is) at c.requires.below_top in
    let rise = may_rise c.self.inside.slots.items c.reach.new.slots.items c.args.path c.in_ok-i.i c.args.node entered below in
    let other : c.version_of-version.result ≡ 18446744073709551615 → ⊥ = λ same. rise (sym read ∙ same) in
    omega (arith, c.version_of-version.type_inv, other)

pub invariant_of-self-2 : goal.invariant_of-self-2
invariant_of-self-2 c =
    let entered = rw c.names.ensures.names at c.in_ok-i.ensures.ok in
    let read = rw c.deref.ensures.value at c.version_of-version.ensures in
    let arena = touched_arena c.self.inside.slots.items c.reach.new.slots.items c.args.path c.in_ok-i.i c.args.node entered c.requires.below_root in
    rw (c.write-old.ensures.new, read) (written_kept c.reach.new.slots.items c.reach.new.free.items (vec_capacity c.reach.new.free) c.in_ok-i.i ((place c.reach.new.slots.items c.in_ok-i.i).version + 1) c.args.node arena entered.within (λ z. absurd (omega arith)) c.in_ok-i.ensures.pool c.in_ok-i.ensures.used)

pub returns-clause-ok : goal.returns-clause-ok
returns-clause-ok c =
    let entered = rw c.names.ensures.names at c.in_ok-i.ensures.ok in
    let read = rw c.deref.ensures.value at c.version_of-version.ensures in
    rw (c.write-old.ensures.new, read) (touched_rows c.self.inside.slots.items c.reach.new.slots.items c.args.path c.in_ok-i.i c.args.node entered c.requires.below_root ∙ ap (λ rows. touched rows c.args.path c.args.node) c.self.view_is)

pub returns-clause-kept : goal.returns-clause-kept
returns-clause-kept c =
    let entered = rw c.names.ensures.names at c.in_ok-i.ensures.ok in
    let read = rw c.deref.ensures.value at c.version_of-version.ensures in
    let version = read ∙ version_before c.self.inside.slots.items c.reach.new.slots.items c.args.path c.in_ok-i.i c.args.node entered in
    let node = c.write-old.ensures.kept ∙ node_before c.self.inside.slots.items c.reach.new.slots.items c.args.path c.in_ok-i.i c.args.node entered in
    rw (version, node, c.self.view_is) refl
