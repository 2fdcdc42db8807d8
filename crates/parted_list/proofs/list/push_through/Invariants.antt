use Rattle.std.proofs.Common.{◌≡◌, length}
use Rattle.std.specs.List.{concat, insert}
use Rattle.parted_list.specs.Parts.{AreParted}
use Rattle.parted_list.proofs.Moves.{between_parts}
use Rattle.parted_list.proofs.list.push_through.Given as goal

abbrev pub invariant-loop-i : goal.invariant-loop-i
invariant-loop-i l = record {
  parted : AreParted l.parts.items;
  same : length l.parts.items ≡ length l.fn.parts.items;
  carried : between_parts l.parts.items l.i l.carried ≡ insert (concat l.fn.parts.items) l.k l.number;
}
