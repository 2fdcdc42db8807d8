use Rattle.std.specs.Prelude.{◌≡◌, take}
use Rattle.byte_fields.specs.Numbers.{as_u64}
use Rattle.tree_values.specs.Tree.{total_size}
use Rattle.client_drill.proofs.summary.size_of_all.Given as goal

abbrev pub invariant-loop-row : goal.invariant-loop-row
invariant-loop-row l = l.size ≡ as_u64 (total_size (take l.row-index l.rows))
