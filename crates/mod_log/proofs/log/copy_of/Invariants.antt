use Rattle.std.proofs.Common.{◌≡◌, take}
use Rattle.mod_log.proofs.log.copy_of.Given as goal

abbrev pub invariant-loop-undo : goal.invariant-loop-undo
invariant-loop-undo l = l.copied.items ≡ take l.undo-index l.undos
