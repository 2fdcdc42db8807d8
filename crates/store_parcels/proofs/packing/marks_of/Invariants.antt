use Rattle.std.proofs.Common.{◌≡◌, length}
use Rattle.store_parcels.proofs.packing.marks_of.Given as goal

abbrev pub invariant-loop-step : goal.invariant-loop-step
invariant-loop-step l = length l.marks.items ≡ l.known
