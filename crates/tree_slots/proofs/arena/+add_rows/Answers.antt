use Rattle.std.proofs.Common.{◌<◌, ◌∙◌, sym, ap, arith, length}
use Rattle.tree_slots.specs.Arena.{Place, place}
use Rattle.tree_slots.proofs.Slots.{read_place}
use Rattle.tree_slots.proofs.Listing.{child_path, child_paths, walked}
use Rattle.tree_slots.proofs.arena.+add_rows.Goals as goal

pub child-requires : goal.child-requires
child-requires t c =
    let within : c.loop-k.k < length (place c.args.slots.now c.args.i).children = omega (arith, c.child_count-k-end.ensures) in
    let seen = c.name.ensures ∙ sym (ap (λ (x : Place). x.name) (read_place c.args.slots.now c.child_of-c.result c.index-slots-c.result c.child_of-c.ensures.within c.index-slots-c.is)) in
    rw (seen, c.child_of-c.ensures.child) (child_path c.args.slots.now c.requires.linked c.args.i c.loop-k.k within c.args.path.now c.requires.paths)

pub add_rows-requires : goal.add_rows-requires
add_rows-requires t c =
    let within : c.loop-k.k < length (place c.args.slots.now c.args.i).children = omega (arith, c.child_count-k-end.ensures) in
    let seen = c.name.ensures ∙ sym (ap (λ (x : Place). x.name) (read_place c.args.slots.now c.child_of-c.result c.index-slots-c.result c.child_of-c.ensures.within c.index-slots-c.is)) in (
      omega arith,
      (
        c.requires.linked,
        rw (c.in_ok-child.ensures, seen, c.child_of-c.ensures.child) (child_paths c.args.slots.now c.requires.linked c.args.i c.loop-k.k within c.args.path.now c.requires.paths),
      ),
    )

pub returns : goal.returns
returns t c =
    walked c.args.levels c.args.slots.now c.args.path.now c.args.i c.loop-k.k c.args.rows.now c.loop-k.rows c.if-levels-eq0.false (omega (arith, c.child_count-k-end.ensures)) c.loop-k.invariant
