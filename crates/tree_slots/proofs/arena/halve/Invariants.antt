use Rattle.std.proofs.Common.{◌-◌, ◌^◌, ◌≡◌, ℕ, ◌<◌, ◌≤◌, length}
use Rattle.std.specs.declared.cmp.Ordering.TheVariants.{Less, Greater}
use Rattle.tree_slots.specs.Arena.{name_cmp}
use Rattle.tree_slots.proofs.Slots.{name_at}
use Rattle.tree_slots.proofs.arena.halve.Given as goal

abbrev pub invariant-loop-low : goal.invariant-loop-low
invariant-loop-low l = record {
  ordered : l.low ≤ l.high;
  within : l.high ≤ length l.children;
  few : l.left ≤ 16;
  narrow : l.high - l.low < 2 ^ l.left;
  below : (j : ℕ) → j < l.low → name_cmp (name_at l.slots l.children j) l.name ≡ Less;
  above : (j : ℕ) → l.high ≤ j → j < length l.children → name_cmp (name_at l.slots l.children j) l.name ≡ Greater;
}

abbrev pub decreases-loop-low : goal.decreases-loop-low
decreases-loop-low l = l.high - l.low
