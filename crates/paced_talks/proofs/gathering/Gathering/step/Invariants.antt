use Rattle.std.specs.Prelude.{◌-◌, length}
use Rattle.paced_talks.specs.Talks.{Loses}
use Rattle.paced_talks.specs.Coming.{KeepsWhole}
use Rattle.paced_talks.proofs.gathering.Gathering.step.Given as goal

abbrev pub invariant-loop-place : goal.invariant-loop-place
invariant-loop-place g l = record {
  counted : Loses (length l.fn.self.talks.items) (length l.self.talks.items) l.fn.self.lost l.self.lost;
  whole : KeepsWhole l.fn.self.talks.items l.self.talks.items;
}

abbrev pub decreases-loop-place : goal.decreases-loop-place
decreases-loop-place g l = length l.self.talks.items - l.place
