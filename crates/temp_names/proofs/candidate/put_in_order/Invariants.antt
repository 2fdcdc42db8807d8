use Rattle.std.proofs.Common.{◌≡◌, ◌≤◌, drop, length}
use Rattle.temp_names.specs.Candidates.{in_path_order}
use Rattle.temp_names.proofs.candidate.put_in_order.Given as goal

abbrev pub invariant-loop-i : goal.invariant-loop-i
invariant-loop-i l = record {
  within : l.i ≤ length l.candidates;
  found : l.all.items ≡ in_path_order (drop l.i l.candidates);
}

abbrev pub decreases-loop-i : goal.decreases-loop-i
decreases-loop-i l = l.i
