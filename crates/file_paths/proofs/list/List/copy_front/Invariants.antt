use Rattle.std.proofs.Common.{◌≡◌, take}
use Rattle.file_paths.proofs.list.List.copy_front.Given as goal

abbrev pub invariant-loop-item : goal.invariant-loop-item
invariant-loop-item g l = l.items.items ≡ take l.item-index l.item-items
