use Rattle.std.proofs.Common.{◌<◌, ◌∙◌, ◌++◌, sym, ap, arith, length}
use Rattle.std.specs.List.{flat_map}
use Rattle.tree_values.specs.Spelling.{row as spelled_row}
use Rattle.tree_slots.specs.Arena.{Place, place}
use Rattle.tree_slots.proofs.Slots.{read_place}
use Rattle.tree_slots.proofs.Listing.{child_path, child_paths}
use Rattle.tree_slots.proofs.Spelled.{own_holds, child_holds, spelled_more, spelled_all, own_cut, rows_cut, child_cut}
use Rattle.byte_fields.proofs.Fronts.{on_error}
use Rattle.tree_slots.proofs.arena.+spell_rows.Goals as goal

pub spell_own_row-requires : goal.spell_own_row-requires
spell_own_row-requires t c = own_holds _ c.args.levels c.args.slots.now c.args.path.now c.args.i c.if-levels-eq0.false c.requires.small

pub child-requires : goal.child-requires
child-requires t c =
    let within : c.loop-k.k < length (place c.args.slots.now c.args.i).children = omega (arith, c.child_count-k-end.ensures) in
    let seen = c.name.ensures ∙ sym (ap (λ (x : Place). x.name) (read_place c.args.slots.now c.child_of-c.result c.index-slots-c.result c.child_of-c.ensures.within c.index-slots-c.is)) in
    rw (seen, c.child_of-c.ensures.child) (child_path c.args.slots.now c.requires.linked c.args.i c.loop-k.k within c.args.path.now c.requires.paths)

pub spell_rows-requires : goal.spell_rows-requires
spell_rows-requires t c =
    let within : c.loop-k.k < length (place c.args.slots.now c.args.i).children = omega (arith, c.child_count-k-end.ensures) in
    let seen = c.name.ensures ∙ sym (ap (λ (x : Place). x.name) (read_place c.args.slots.now c.child_of-c.result c.index-slots-c.result c.child_of-c.ensures.within c.index-slots-c.is)) in (
      omega arith,
      (
        c.requires.linked,
        (
          rw (c.in_ok-child.ensures, seen, c.child_of-c.ensures.child) (child_paths c.args.slots.now c.requires.linked c.args.i c.loop-k.k within c.args.path.now c.requires.paths),
          rw (c.in_ok-child.ensures, seen, c.child_of-c.ensures.child) (child_holds _ c.args.levels c.args.slots.now c.args.path.now c.args.i c.loop-k.k c.if-levels-eq0.false within c.requires.small),
        ),
      ),
    )

pub loop-k-preserved : goal.loop-k-preserved
loop-k-preserved t c =
    let within : c.loop-k.k < length (place c.args.slots.now c.args.i).children = omega (arith, c.child_count-k-end.ensures) in
    let seen = c.name.ensures ∙ sym (ap (λ (x : Place). x.name) (read_place c.args.slots.now c.child_of-c.result c.index-slots-c.result c.child_of-c.ensures.within c.index-slots-c.is)) in
    let one = rw (c.in_ok-child.ensures, seen, c.child_of-c.ensures.child, c.loop-k.invariant) at c.in_ok-spell_rows.ensures.ok in
    one ∙ spelled_more c.args.levels c.args.slots.now c.args.path.now c.args.i c.loop-k.k c.args.out.now.items within

pub returns-clause-ok : goal.returns-clause-ok
returns-clause-ok t c =
    c.loop-k.invariant ∙ ap (λ rows. c.args.out.now.items ++ flat_map spelled_row rows) (spelled_all c.args.levels c.args.slots.now c.args.path.now c.args.i c.loop-k.k c.if-levels-eq0.false (omega (arith, c.child_count-k-end.ensures)))

pub returns-in_err-spell_own_row-clause-err : goal.returns-in_err-spell_own_row-clause-err
returns-in_err-spell_own_row-clause-err t c =
    on_error c.from_residual.result
    (own_cut c.args.levels c.args.slots.now c.args.path.now c.args.i c.args.out.now.items c.spell_own_row.new.out.items c.if-levels-eq0.false c.in_err-spell_own_row.ensures.err)

pub returns-in_err-child-clause-err : goal.returns-in_err-child-clause-err
returns-in_err-child-clause-err t c =
    on_error c.from_residual-in_err-child.result
    (rows_cut c.args.levels c.args.slots.now c.args.path.now c.args.i c.args.out.now.items c.loop-k.out.items c.loop-k.k c.if-levels-eq0.false c.loop-k.invariant)

pub returns-in_err-spell_rows-clause-err : goal.returns-in_err-spell_rows-clause-err
returns-in_err-spell_rows-clause-err t c =
    let within : c.loop-k.k < length (place c.args.slots.now c.args.i).children = omega (arith, c.child_count-k-end.ensures) in
    let seen = c.name.ensures ∙ sym (ap (λ (x : Place). x.name) (read_place c.args.slots.now c.child_of-c.result c.index-slots-c.result c.child_of-c.ensures.within c.index-slots-c.is)) in
    let cut = rw (c.in_ok-child.ensures, seen, c.child_of-c.ensures.child) at c.in_err-spell_rows.ensures.err in
    on_error c.from_residual-in_err-spell_rows.result
    (child_cut c.args.levels c.args.slots.now c.args.path.now c.args.i c.args.out.now.items c.loop-k.out.items c.spell_rows.new.out.items c.loop-k.k c.if-levels-eq0.false within c.loop-k.invariant cut)
