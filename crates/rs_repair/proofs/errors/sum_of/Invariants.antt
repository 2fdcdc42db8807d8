use Rattle.std.proofs.Common.{◌≡◌, take}
use Rattle.rs_parity.specs.CodeWord.{sum_at}
use Rattle.rs_repair.proofs.errors.sum_of.Given as goal

abbrev pub invariant-loop-s : goal.invariant-loop-s
invariant-loop-s l = l.total ≡ sum_at l.j (take l.s l.word)
