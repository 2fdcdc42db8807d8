use Rattle.std.proofs.Common.{◌≡◌, ◌<◌, ◌^◌, drop}
use Rattle.gf_65536.specs.Field.{gf_mul}
use Rattle.rs_repair.specs.Inside.{gap}
use Rattle.rs_repair.proofs.errors.gap_of.Given as goal

abbrev pub invariant-loop-i : goal.invariant-loop-i
invariant-loop-i l = record { same : gf_mul l.product (gap l.x (drop l.i l.powers)) ≡ gap l.x l.powers; fits : l.product < 2 ^ 16 }
