use Rattle.std.proofs.Common.{◌≡◌, ◌-◌, length}
use Rattle.mod_log.specs.Log.{tree_of}
use Rattle.store_image.specs.Records.{client_records_at}
use Rattle.store_image.proofs.Records.{SoFar}
use Rattle.store_image.proofs.journal.take_records.Given as goal

abbrev pub invariant-loop-format : goal.invariant-loop-format
invariant-loop-format l = record {
  so_far : SoFar l.format l.bytes (client_records_at l.format l.fn.log l.bytes l.start) l.fn.log (length l.bytes) l.log l.at;
  ahead : l.ahead ≡ tree_of l.log;
}

abbrev pub decreases-loop-format : goal.decreases-loop-format
decreases-loop-format l = length l.bytes - l.at
