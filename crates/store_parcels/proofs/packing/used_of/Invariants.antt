use Rattle.std.proofs.Common.{◌≤◌, length}
use Rattle.store_parcels.proofs.Used.{IsKept}
use Rattle.store_parcels.proofs.packing.used_of.Given as goal

abbrev pub invariant-loop-source : goal.invariant-loop-source
invariant-loop-source l = record {
  within : l.start ≤ length l.marks.items;
  kept : IsKept l.tree l.sources l.used.items;
}
