use Rattle.std.proofs.Common.{◌≡◌, ℕ, ◌<◌, ◌≤◌, [], length, get_or, drop}
use Rattle.rs_repair.specs.Inside.{pairing, IsPlusMultiple}
use Rattle.rs_repair.proofs.elimination.clear_above.Given as goal

abbrev pub invariant-loop-i : goal.invariant-loop-i
invariant-loop-i l = record {
  size : length l.basis ≡ 17;
  above : (i : ℕ) → l.i ≤ i → get_or l.basis i [] ≡ get_or l.fn.basis i [];
  kept : (i : ℕ) → i ≤ l.pivot → get_or l.basis i [] ≡ get_or l.fn.basis i [];
  cleared : (i : ℕ) → l.pivot < i → i < l.i
      → (factor : ℕ) × IsPlusMultiple (get_or l.fn.basis i []) l.row factor (get_or l.basis i []) × (pairing (get_or l.basis i []) (drop l.place l.sums) ≡ 0);
}
