use Rattle.std.proofs.Common.{◌≡◌, ℕ, ◌<◌, length, get_or, bit_xor}
use Rattle.rs_repair.proofs.errors.difference.Given as goal

abbrev pub invariant-loop-k : goal.invariant-loop-k
invariant-loop-k l = record { size : length l.new ≡ 32; each : (k : ℕ) → k < l.k → get_or l.new k 0 ≡ bit_xor (get_or l.a k 0) (get_or l.b k 0) }
