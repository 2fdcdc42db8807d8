use Rattle.std.specs.Prelude.{◌≡◌, ℕ, ◌<◌, false, slice_index_or}
use Rattle.paced_talks.proofs.gathering.Gathering.take_whole.Given as goal

abbrev pub invariant-loop-place : goal.invariant-loop-place
invariant-loop-place g l = record {
  same : l.self ≡ l.fn.self;
  none : (k : ℕ) (none : _) → k < l.place → (slice_index_or l.self.talks.items k none).is_whole ≡ false;
}
