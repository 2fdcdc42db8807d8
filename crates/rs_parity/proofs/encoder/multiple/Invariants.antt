use Rattle.std.proofs.Common.{◌≡◌, ℕ, ◌<◌, length, get_or}
use Rattle.gf_65536.specs.Field.{gf_mul}
use Rattle.rs_parity.specs.Inside.{generator}
use Rattle.rs_parity.proofs.encoder.multiple.Given as goal

abbrev pub invariant-loop-k : goal.invariant-loop-k
invariant-loop-k l = record { size : length l.row ≡ 32; each : (k : ℕ) → k < l.k → get_or l.row k 0 ≡ gf_mul l.factor (get_or generator k 0) }
