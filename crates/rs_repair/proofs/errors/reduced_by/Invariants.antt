use Rattle.std.proofs.Common.{◌≡◌, ℕ, ◌+◌, ◌<◌, length, get_or, bit_xor}
use Rattle.gf_65536.specs.Field.{gf_mul}
use Rattle.rs_repair.proofs.errors.reduced_by.Given as goal

abbrev pub invariant-loop-k : goal.invariant-loop-k
invariant-loop-k l = record {
  size : length l.new ≡ 32;
  each : (k : ℕ) → k < l.k → get_or l.new k 0 ≡ bit_xor (get_or l.sums (k + 1) 0) (gf_mul l.power (get_or l.sums k 0));
}
