use Rattle.std.proofs.Common.{◌≡◌, ℕ, ◌-◌, ◌<◌, get_or}
use Rattle.rs_repair.proofs.elimination.first_unmarked.Given as goal

abbrev pub invariant-loop-i : goal.invariant-loop-i
invariant-loop-i l = record { within : l.i < 17; marked : (k : ℕ) → k < l.i → get_or l.marks k 0 ≡ 0 → ⊥ }

abbrev pub decreases-loop-i : goal.decreases-loop-i
decreases-loop-i l = 17 - l.i
