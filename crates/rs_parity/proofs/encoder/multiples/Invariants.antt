use Rattle.std.proofs.Common.{◌≡◌, ℕ, ◌*◌, ◌<◌, [], length, get_or}
use Rattle.rs_parity.specs.Inside.{IsMultiple}
use Rattle.rs_parity.proofs.encoder.multiples.Given as goal

abbrev pub invariant-loop-b : goal.invariant-loop-b
invariant-loop-b l = record { size : length l.rows ≡ 256; each : (b : ℕ) → b < l.b → IsMultiple (b * l.scale) (get_or l.rows b []) }
