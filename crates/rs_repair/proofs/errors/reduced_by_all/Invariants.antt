use Rattle.std.proofs.Common.{◌≡◌, ℕ, get_or, drop}
use Rattle.rs_repair.specs.Inside.{reduced}
use Rattle.rs_repair.proofs.errors.reduced_by_all.Given as goal

abbrev pub invariant-loop-i : goal.invariant-loop-i
invariant-loop-i l = (j : ℕ) → reduced (drop l.i l.powers) (λ k. get_or l.left k 0) j ≡ reduced l.powers (λ k. get_or l.sums k 0) j
