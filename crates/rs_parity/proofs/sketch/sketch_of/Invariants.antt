use Rattle.std.proofs.Common.{◌≡◌, ℕ, ◌<◌, [], length, get_or}
use Rattle.rs_parity.specs.Blocks.{block_of, IsParity}
use Rattle.rs_parity.proofs.sketch.sketch_of.Given as goal

abbrev pub invariant-loop-i : goal.invariant-loop-i
invariant-loop-i l = record {
  size : length l.parities ≡ l.i;
  each : (i : ℕ) → i < l.i → IsParity (block_of l.content i) (get_or l.parities i []);
}
