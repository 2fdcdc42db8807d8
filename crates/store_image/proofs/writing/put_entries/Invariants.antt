use Rattle.std.proofs.Common.{◌≡◌, ◌++◌, take, length}
use Rattle.std.specs.Int.{w32}
use Rattle.std.specs.List.{flat_map}
use Rattle.byte_fields.specs.Field.{digits}
use Rattle.mod_log.specs.Log.{entry}
use Rattle.store_image.proofs.writing.put_entries.Given as goal

abbrev pub invariant-loop-i : goal.invariant-loop-i
invariant-loop-i l = l.out.items ≡ l.fn.out.items ++ (digits w32 (length l.value.pending) ++ flat_map entry (take l.i l.value.pending))
