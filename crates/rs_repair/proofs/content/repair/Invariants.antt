use Rattle.std.proofs.Common.{◌≡◌, ℕ, ◌*◌, ◌<◌, [], min, length, get_or}
use Rattle.rs_parity.specs.Blocks.{block_of}
use Rattle.rs_repair.specs.Inside.{IsRepair}
use Rattle.rs_repair.proofs.content.repair.Given as goal

abbrev pub invariant-loop-i : goal.invariant-loop-i
invariant-loop-i l = record {
  size : length l.bytes.items ≡ min (l.i * 131006) (length l.content);
  each : (k : ℕ) → k < l.i → IsRepair (block_of l.content k) (get_or l.sketch.parities k []) (block_of l.bytes.items k);
}
