use Rattle.std.proofs.Common.{◌≡◌, ◌+◌, ◌≤◌, drop}
use Rattle.rs_parity.specs.CodeWord.{symbols}
use Rattle.rs_parity.specs.Weight.{differing}
use Rattle.rs_repair.proofs.block.differing_symbols.Given as goal

abbrev pub invariant-loop-s : goal.invariant-loop-s
invariant-loop-s l = record { most : l.count ≤ l.s; same : l.count + differing (drop l.s (symbols l.a)) (drop l.s (symbols l.b)) ≡ differing (symbols l.a) (symbols l.b) }
