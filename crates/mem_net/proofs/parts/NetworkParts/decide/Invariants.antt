use Rattle.std.proofs.Common.{◌≡◌, length}
use Rattle.surrogate_core.specs.Handling.{Idle}
use Rattle.mem_net.specs.Scenes.{scene_of}
use Rattle.mem_net.proofs.Reaching.{Nears}
use Rattle.mem_net.proofs.parts.NetworkParts.decide.Given as goal

abbrev pub invariant-loop-fate : goal.invariant-loop-fate
invariant-loop-fate g l = record {
  nears : Nears (scene_of g.R.Runner.runs g.R.Runner.faults l.initial.self) (scene_of g.R.Runner.runs g.R.Runner.faults l.self) l.initial.self.wires l.self.wires;
  idle : l.self.surrogate.phase ≡ Idle;
}

abbrev pub decreases-loop-fate : goal.decreases-loop-fate
decreases-loop-fate g l = length l.self.wires.fates
