use Rattle.std.proofs.Common.{◌≡◌, ◌++◌, take, map}
use Rattle.conflict_shelf.specs.Shelf.{puts_from}
use Rattle.conflict_shelf.proofs.shelf.push_names.Given as goal

abbrev pub invariant-loop-index : goal.invariant-loop-index
invariant-loop-index l = l.names ≡ l.fn.names ++ map (λ put. put.name) (puts_from l.seq 0 (take l.index l.effects))
