use Rattle.std.specs.Prelude.{◌≡◌, length}
use Rattle.paced_talks.proofs.gathering.Gathering.delay.Given as goal

abbrev pub invariant-loop-place : goal.invariant-loop-place
invariant-loop-place g l = record {
  talks : length l.self.talks.items ≡ length l.fn.self.talks.items;
  lost : l.self.lost ≡ l.fn.self.lost;
}
