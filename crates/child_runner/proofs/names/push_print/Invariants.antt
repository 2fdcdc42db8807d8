use Rattle.std.specs.Prelude.{◌≡◌, ◌++◌, take}
use Rattle.std.specs.List.{flat_map}
use Rattle.child_runner.specs.Names.{hex}
use Rattle.child_runner.proofs.names.push_print.Given as goal

abbrev pub invariant-loop-byte : goal.invariant-loop-byte
invariant-loop-byte l = l.name.items ≡ l.fn.name.items ++ flat_map hex (take l.byte-index l.bytes)
