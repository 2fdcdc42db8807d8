use Rattle.surrogate_prog.proofs.Totals.{falls_are_bounded, frames_are_counted}
use Rattle.surrogate_prog.proofs.laws.connections_are_counted.Goals as goal

pub returns-clause-falls : goal.returns-clause-falls
returns-clause-falls c = falls_are_bounded

pub returns-clause-frames : goal.returns-clause-frames
returns-clause-frames c = frames_are_counted
