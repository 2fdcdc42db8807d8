use Rattle.std.proofs.Common.{◌≡◌, ◌++◌, take}
use Rattle.std.specs.List.{flat_map}
use Rattle.rs_parity.specs.Spelling.{parity_spelling}
use Rattle.rs_parity.proofs.spelling.put_parities.Given as goal

abbrev pub invariant-loop-parity : goal.invariant-loop-parity
invariant-loop-parity l = l.out.items ≡ l.fn.out.items ++ flat_map parity_spelling (take l.parity-index l.parities)
