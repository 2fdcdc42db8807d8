use Rattle.std.proofs.Common.{take}
use Rattle.conflict_shelf.specs.Shelf.{IsShelfOf}
use Rattle.conflict_shelf.proofs.shelf.shelf_of.Given as goal

abbrev pub invariant-loop-i : goal.invariant-loop-i
invariant-loop-i l = IsShelfOf l.folder (take l.i l.log.pending) l.shelf
