use Rattle.std.proofs.Common.{◌≡◌, take, map, Ok}
use Rattle.conflict_shelf.specs.Shelf.{all_or_fault, set_aside, puts_from}
use Rattle.conflict_shelf.proofs.shelf.effects_of.Given as goal

abbrev pub invariant-loop-index : goal.invariant-loop-index
invariant-loop-index l = all_or_fault (map (set_aside l.folder) (puts_from l.seq 0 (take l.index l.effects))) ≡ Ok l.shelved
