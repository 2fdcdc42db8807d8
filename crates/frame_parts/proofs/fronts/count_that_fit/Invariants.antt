use Rattle.std.proofs.Common.{◌≡◌, ◌≤◌, ◌<◌, ◌+◌, take}
use Rattle.frame_parts.specs.Fronts.{bytes_in}
use Rattle.frame_parts.specs.Limits.{most_bytes}
use Rattle.frame_parts.proofs.fronts.count_that_fit.Given as goal

abbrev pub invariant-loop-i : goal.invariant-loop-i
invariant-loop-i l = (l.bytes ≡ l.first + bytes_in (take l.i l.fronts)) × (l.bytes ≤ most_bytes) × (l.i < l.most)
