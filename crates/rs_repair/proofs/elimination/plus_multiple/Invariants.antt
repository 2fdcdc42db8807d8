use Rattle.std.proofs.Common.{◌≡◌, ℕ, ◌<◌, length, get_or, bit_xor}
use Rattle.gf_65536.specs.Field.{gf_mul}
use Rattle.rs_repair.proofs.elimination.plus_multiple.Given as goal

abbrev pub invariant-loop-k : goal.invariant-loop-k
invariant-loop-k l = record {
  size : length l.new ≡ 17;
  each : (k : ℕ) → k < l.k → get_or l.new k 0 ≡ bit_xor (get_or l.row k 0) (gf_mul l.factor (get_or l.other k 0));
}
