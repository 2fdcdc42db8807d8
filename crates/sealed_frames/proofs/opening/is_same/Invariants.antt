use Rattle.std.proofs.Common.{◌≡◌, ◌↔◌, take}
use Rattle.sealed_frames.proofs.opening.is_same.Given as goal

abbrev pub invariant-loop-i : goal.invariant-loop-i
invariant-loop-i l = (l.differing ≡ 0) ↔ (take l.i l.one ≡ take l.i l.other)
