use Rattle.std.proofs.Common.{◌≡◌, ℕ, suc, ◌<◌, length, get_or}
use Rattle.rs_parity.specs.CodeWord.{sum_at}
use Rattle.rs_repair.proofs.errors.sums_of.Given as goal

abbrev pub invariant-loop-i : goal.invariant-loop-i
invariant-loop-i l = record { size : length l.sums ≡ 32; each : (i : ℕ) → i < l.i → get_or l.sums i 0 ≡ sum_at (suc i) l.word }
