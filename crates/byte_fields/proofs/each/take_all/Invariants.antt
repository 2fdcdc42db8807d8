use Rattle.std.proofs.Common.{◌-◌}
use Rattle.byte_fields.specs.Field.{each_at}
use Rattle.byte_fields.proofs.Loop.{Gathered}
use Rattle.byte_fields.proofs.each.take_all.Given as goal

abbrev pub invariant-loop : goal.invariant-loop
invariant-loop g l = Gathered g.S.Taken.item_at g.S.Taken.after l.bytes (each_at g.S.Taken.item_at g.S.Taken.after l.count l.fn.state l.bytes l.start) l.fn.state (l.count - l.counter) l.state l.at
