use Rattle.std.proofs.Common.{ℕ, ◌-◌, List, take, ap, ◌∙◌}
use Rattle.std.specs.List.{sum_by}
use Rattle.byte_fields.specs.Numbers.{as_u64}
use Rattle.mod_log.specs.declared.log.Pending.{Pending}
use Rattle.mod_log.proofs.Kept.{IsShorter, shorter}
use Rattle.mod_log.proofs.log.Log.acknowledge.Goals as goal

abbrev size_of_first : ℕ → List Pending → ℕ
size_of_first count pending = as_u64 (sum_by (λ kept. kept.size) (take count pending))

pub overflow_sub-self : goal.overflow_sub-self
overflow_sub-self c =
    let sum = c.total_size-size.ensures ∙ ap (size_of_first (c.args.seq - c.self.inside.acked)) c.deref.ensures.value in
    (shorter c.args.self.now c.self.inside.acked c.self.inside.tree c.self.inside.pending.items c.drop-drain.new.self.0.items c.self.inside.size c.args.seq c.total_size-size.result c.self.view_is c.self.invariant c.requires.next c.requires.pending
    (c.drop-drain.ensures.items ∙ c.drain.ensures.kept) sum).small

rest : (c : goal.After-self-2-1) → IsShorter c.args.self.now c.self.inside.tree c.drop-drain.new.self.0.items c.self.inside.size c.args.seq c.total_size-size.result
rest c =
    let sum = c.total_size-size.ensures ∙ ap (size_of_first (c.args.seq - c.self.inside.acked)) c.deref.ensures.value in
    shorter c.args.self.now c.self.inside.acked c.self.inside.tree c.self.inside.pending.items c.drop-drain.new.self.0.items c.self.inside.size c.args.seq c.total_size-size.result c.self.view_is c.self.invariant c.requires.next c.requires.pending
    (c.drop-drain.ensures.items ∙ c.drain.ensures.kept) sum

pub invariant_of-self : goal.invariant_of-self
invariant_of-self c = (rest c).fields

pub returns-clause-acknowledged : goal.returns-clause-acknowledged
returns-clause-acknowledged c = (rest c).view

pub returns-clause-log : goal.returns-clause-log
returns-clause-log c = (rest c).fields.log
