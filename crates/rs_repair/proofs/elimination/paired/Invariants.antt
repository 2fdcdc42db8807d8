use Rattle.std.proofs.Common.{◌≡◌, ◌+◌, drop, bit_xor}
use Rattle.rs_repair.specs.Inside.{pairing}
use Rattle.rs_repair.proofs.elimination.paired.Given as goal

abbrev pub invariant-loop-i : goal.invariant-loop-i
invariant-loop-i l = bit_xor l.total (pairing (drop l.i l.row) (drop (l.place + l.i) l.sums)) ≡ pairing l.row (drop l.place l.sums)
