use Rattle.std.proofs.Common.{◌≡◌, ℕ, ◌+◌, ◌<◌, length, get_or, bit_xor}
use Rattle.rs_parity.proofs.encoder.moved_plus.Given as goal

abbrev pub invariant-loop-k : goal.invariant-loop-k
invariant-loop-k l = record {
  size : length l.next ≡ 32;
  each : (k : ℕ) → k < l.k → get_or l.next k 0 ≡ bit_xor (bit_xor (get_or l.remainder (k + 1) 0) (get_or l.high k 0)) (get_or l.low k 0);
}
