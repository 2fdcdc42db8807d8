use Rattle.std.proofs.Common.{◌≡◌, ◌++◌, take, drop}
use Rattle.frame_parts.specs.Fronts.{front_of, without}
use Rattle.frame_parts.proofs.fronts.place_of.Given as goal

abbrev pub invariant-loop-i : goal.invariant-loop-i
invariant-loop-i l = (front_of l.client (drop l.i l.fronts) ≡ front_of l.client l.fronts)
    × (take l.i l.fronts ++ without l.client (drop l.i l.fronts) ≡ without l.client l.fronts)
