use Rattle.std.proofs.Common.{◌≡◌, take}
use Rattle.client_core.proofs.pulling.are_same.Given as goal

abbrev pub invariant-loop-i : goal.invariant-loop-i
invariant-loop-i l = take l.i l.rows ≡ take l.i l.others
