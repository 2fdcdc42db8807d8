use Rattle.std.proofs.Common.{◌≡◌, take}
use Rattle.world_rules.specs.InStep.{parts_of}
use Rattle.client_core.proofs.window.front_of.Given as goal

abbrev pub invariant-loop-i : goal.invariant-loop-i
invariant-loop-i l = l.parts ≡ parts_of (take l.i l.log.pending)
