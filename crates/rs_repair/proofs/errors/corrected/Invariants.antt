use Rattle.std.proofs.Common.{◌≡◌, ℕ, ◌*◌, ◌<◌, List, length, get_or, take}
use Rattle.rs_repair.specs.Inside.{CorrectsTo}
use Rattle.rs_repair.proofs.errors.corrected.Given as goal

abbrev pub invariant-loop-s : goal.invariant-loop-s
invariant-loop-s l =
    (x : List ℕ) → ((k : ℕ) → get_or x k 0 < 256) → length x ≡ length l.block → CorrectsTo l.block l.sums l.exponents l.powers x → l.bytes.items ≡ take (2 * l.s) x
