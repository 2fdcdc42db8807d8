use Rattle.std.proofs.Common.{◌≡◌, ◌++◌, length, ◌==◌}
use Rattle.std.specs.List.{slice_split}
use Rattle.file_paths.proofs.path.split_at_slashes.Given as goal

-- the pieces so far, and those of the rest
abbrev pub invariant-loop-end : goal.invariant-loop-end
invariant-loop-end l = l.pieces ++ slice_split (λ b. b == 47) l.rest ≡ slice_split (λ b. b == 47) l.text

abbrev pub decreases-loop-end : goal.decreases-loop-end
decreases-loop-end l = length l.rest
