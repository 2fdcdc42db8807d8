use Rattle.std.proofs.Common.{◌≡◌, ◌++◌}
use Rattle.std.specs.List.{flat_map}
use Rattle.tree_values.specs.Spelling.{row as spelled_row}
use Rattle.tree_slots.proofs.Spelled.{rows_up_to}
use Rattle.tree_slots.proofs.arena.+spell_rows.Given as goal

abbrev pub decreases-spell_rows : goal.decreases-spell_rows
decreases-spell_rows l = l.levels

abbrev pub invariant-loop-k : goal.invariant-loop-k
invariant-loop-k l = l.out.items ≡ l.fn.out.items ++ flat_map spelled_row (rows_up_to l.levels l.slots l.path l.i l.k)
