use Rattle.std.proofs.Common.{◌+◌, subst, sym, ap, ◌∙◌}
use Rattle.std.specs.Prelude.{IfSome, slice_get}
use Rattle.mod_log.specs.Log.{IsEntryOf, IsLog, tree_after}
use Rattle.mod_log.specs.Inside.{entries_of}
use Rattle.mod_log.proofs.Entries.{log_entry_at}
use Rattle.mod_log.proofs.log.Log.entry.Goals as goal

pub returns-clause-sound : goal.returns-clause-sound
returns-clause-sound c =
    let found = c.entry_of.ensures ∙ ap (λ pending. slice_get (entries_of pending) c.args.i) c.deref.ensures.value ∙ ap (λ log. slice_get log.pending c.args.i) c.self.view_is in
    subst (λ o. IfSome o (IsEntryOf (c.args.self.now.acked + 1 + c.args.i) (tree_after c.args.i c.args.self.now))) (sym found)
    (log_entry_at c.args.self.now c.args.i (subst IsLog c.self.view_is c.self.invariant.log))
