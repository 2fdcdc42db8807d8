use Rattle.std.proofs.Common.{◌≡◌, ◌++◌, take, drop, map}
use Rattle.store_image.specs.declared.record.ClientRecord.TheVariants.{Logged}
use Rattle.store_image.specs.Records.{client_records}
use Rattle.client_core.proofs.keeping.put_entries.Given as goal

abbrev pub invariant-loop-i : goal.invariant-loop-i
invariant-loop-i l = l.out.items ≡ l.fn.out.items ++ client_records (map Logged (drop l.before (take l.i l.log.pending)))
