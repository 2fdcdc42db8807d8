use Rattle.std.proofs.Common.{◌≤◌, drop, length}
use Rattle.tree_values.specs.Limits.{max_files}
use Rattle.store_parcels.specs.Opening.{known_in}
use Rattle.store_parcels.proofs.Joined.{IsJoined}
use Rattle.store_parcels.proofs.known.known_in.Given as goal

abbrev pub invariant-loop-source : goal.invariant-loop-source
invariant-loop-source l = record {
  few : length l.known.items ≤ max_files;
  so_far : IsJoined (known_in l.tree l.sources) l.tree l.known.items (drop l.source-index l.sources);
}
