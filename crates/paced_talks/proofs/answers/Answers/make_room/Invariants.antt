use Rattle.std.specs.Prelude.{◌≡◌, length}
use Rattle.paced_talks.specs.Going.{HasRoom}
use Rattle.paced_talks.proofs.answers.Answers.make_room.Given as goal

abbrev pub invariant-loop-self : goal.invariant-loop-self
invariant-loop-self g l = HasRoom l.bytes l.fn.self.talks.items → l.self.talks.items ≡ l.fn.self.talks.items

abbrev pub decreases-loop-self : goal.decreases-loop-self
decreases-loop-self g l = length l.self.talks.items
