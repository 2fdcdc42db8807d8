use Rattle.std.proofs.Common.{◌≡◌, map, take}
use Rattle.std.specs.List.{flat_map}
use Rattle.mod_log.specs.Sketched.{sketch_paths}
use Rattle.mod_log.proofs.sketched.SketchEffects.touched.Given as goal

abbrev pub invariant-loop-effect : goal.invariant-loop-effect
invariant-loop-effect l = map (λ path. path.now) l.touched.items ≡ flat_map sketch_paths (take l.effect-index l.self)
