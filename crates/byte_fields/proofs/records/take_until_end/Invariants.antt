use Rattle.std.proofs.Common.{◌-◌, length}
use Rattle.byte_fields.specs.Records.{until_end}
use Rattle.byte_fields.proofs.Loop.{RecordsSoFar}
use Rattle.byte_fields.proofs.records.take_until_end.Given as goal

abbrev pub invariant-loop-alloc : goal.invariant-loop-alloc
invariant-loop-alloc g l = RecordsSoFar g.S.Taken.item_at g.S.Taken.after l.bytes (until_end g.S.Taken.item_at g.S.Taken.after l.fn.state l.bytes l.start) l.fn.state (length l.bytes) l.state l.at

abbrev pub decreases-loop-alloc : goal.decreases-loop-alloc
decreases-loop-alloc g l = length l.bytes - l.at
