use Rattle.std.proofs.Common.{◌≡◌}
use Rattle.gf_65536.specs.Field.{gf_pow}
use Rattle.rs_repair.specs.Inside.{AreRoots}
use Rattle.rs_repair.proofs.errors.roots_of.Given as goal

abbrev pub invariant-loop-exponent : goal.invariant-loop-exponent
invariant-loop-exponent l = record { power : l.x ≡ gf_pow 2 l.exponent; roots : AreRoots l.row l.exponent l.roots.items }
