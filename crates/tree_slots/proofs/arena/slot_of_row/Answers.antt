use Rattle.std.proofs.Common.{◌∙◌, sym}
use Rattle.tree_slots.proofs.Arenas.{has_slot, row_within}
use Rattle.tree_slots.proofs.arena.slot_of_row.Goals as goal

pub unreachable-requires : goal.unreachable-requires
unreachable-requires c =
    has_slot c.args.slots.now c.args.path.now c.requires.arena c.requires.there (sym c.descend.ensures.slot ∙ c.in-None.is)

pub returns-clause-within : goal.returns-clause-within
returns-clause-within c =
    row_within c.args.slots.now c.args.path.now c.requires.arena c.requires.there c.in-Some.i (sym c.descend.ensures.slot ∙ c.in-Some.is)
