use Rattle.std.proofs.Common.{sym, ap, ◌∙◌}
use Rattle.mod_log.specs.Log.{tree_of}
use Rattle.mod_log.proofs.Kept.{after_kept}
use Rattle.mod_log.proofs.log.Log.tree.Goals as goal

pub returns-clause-tree : goal.returns-clause-tree
returns-clause-tree c = sym (after_kept c.self.inside.pending.items c.self.inside.tree c.self.invariant.kept) ∙ ap tree_of c.self.view_is
