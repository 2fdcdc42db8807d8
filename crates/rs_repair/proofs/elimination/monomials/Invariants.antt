use Rattle.std.proofs.Common.{◌≡◌, ℕ, ◌<◌, [], length, get_or}
use Rattle.rs_repair.specs.Inside.{IsMonicRow}
use Rattle.rs_repair.proofs.elimination.monomials.Given as goal

abbrev pub invariant-loop-i : goal.invariant-loop-i
invariant-loop-i l = record { size : length l.rows ≡ 17; rows : (i : ℕ) → i < l.i → IsMonicRow i (get_or l.rows i []) }
