use Rattle.std.proofs.Common.{◌≡◌, ◌∙◌, sym, ap, ◌<◌, length, true, is_some, arith, Some}
use Rattle.tree_slots.specs.Arena.{place}
use Rattle.tree_slots.proofs.Slots.{read_place}
use Rattle.tree_slots.proofs.Folders.{nth_here, nth_past}
use Rattle.tree_slots.proofs.arena.nth_standing.Goals as goal

pub returns-then-left-eq0 : goal.returns-then-left-eq0
returns-then-left-eq0 c =
    let within : c.loop-k.k < length (place c.args.slots.now c.args.at).children = omega (arith, c.child_count-k-end.ensures) in
    let is = read_place c.args.slots.now c.child_of-c.result c.index-slots-c.result c.child_of-c.ensures.within c.index-slots-c.is in
    let at = rw c.child_of-c.ensures.child at is in
    let some : is_some c.index-slots-c.result.node ≡ true = cc in
    ap Some c.name.ensures ∙ sym (nth_here c.args.slots.now (place c.args.slots.now c.args.at).children c.loop-k.k c.args.i c.index-slots-c.result within (sym at) some (omega (arith, c.loop-k.invariant)))

pub returns : goal.returns
returns c = sym (nth_past c.args.slots.now (place c.args.slots.now c.args.at).children c.loop-k.k c.loop-k.left c.args.i (omega (arith, c.child_count-k-end.ensures)) c.loop-k.invariant)
