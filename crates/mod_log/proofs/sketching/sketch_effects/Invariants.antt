use Rattle.std.proofs.Common.{take}
use Rattle.mod_log.specs.Sketched.{AreSketchedAs}
use Rattle.mod_log.proofs.sketching.sketch_effects.Given as goal

abbrev pub invariant-loop-effect : goal.invariant-loop-effect
invariant-loop-effect l = AreSketchedAs (take l.effect-index l.effects) l.sketched
