use Rattle.std.proofs.Common.{take}
use Rattle.std.specs.List.{AllByRecursion}
use Rattle.file_paths.specs.Path.{IsPath}
use Rattle.mod_log.specs.Sketched.{sketches_touch}
use Rattle.replay_judge.proofs.judging.have_paths.Given as goal

abbrev pub invariant-loop-effect : goal.invariant-loop-effect
invariant-loop-effect l = AllByRecursion IsPath (sketches_touch (take l.effect-index l.effects))
