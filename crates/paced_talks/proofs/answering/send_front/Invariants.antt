use Rattle.std.specs.Prelude.{◌-◌, ◌≤◌, length, take}
use Rattle.std.specs.Io.KnownBytes.{Appends}
use Rattle.paced_talks.proofs.answering.send_front.Given as goal

abbrev pub invariant-loop-sent : goal.invariant-loop-sent
invariant-loop-sent g l = record {
  within : l.sent ≤ length l.answer;
  bytes : Appends (g.S.Write.contents l.fn.stream) (g.S.Write.contents l.stream) (take l.sent l.answer);
}

abbrev pub decreases-loop-sent : goal.decreases-loop-sent
decreases-loop-sent g l = length l.answer - l.sent
