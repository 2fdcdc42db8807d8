use Rattle.std.proofs.Common.{◌≡◌, ◌≤◌, ◌+◌, ◌++◌, ◌∷◌, [], length}
use Rattle.std.specs.List.{concat}
use Rattle.parted_list.specs.Parts.{AreParted}
use Rattle.parted_list.proofs.Moves.{between_parts}
use Rattle.parted_list.proofs.list.pull_through.Given as goal

abbrev pub invariant-loop-i : goal.invariant-loop-i
invariant-loop-i l = record {
  parted : AreParted l.parts.items;
  within : l.i ≤ length l.parts.items;
  behind : l.first + 1 ≤ l.i;
  same : length l.parts.items ≡ length l.fn.parts.items;
  carried : between_parts l.parts.items l.i l.carried ≡ concat l.fn.parts.items ++ 0 ∷ [];
}

abbrev pub decreases-loop-i : goal.decreases-loop-i
decreases-loop-i l = l.i
