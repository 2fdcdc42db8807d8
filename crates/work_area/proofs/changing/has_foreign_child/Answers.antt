use Rattle.std.proofs.Common.{◌++◌, ◌∷◌, [], ◌∙◌, not, sym, ap}
use Rattle.tree_values.specs.Tree.{children}
use Rattle.work_area.specs.Changes.{has_row}
use Rattle.work_area.proofs.Names.{none_here}
use Rattle.work_area.proofs.changing.has_foreign_child.Goals as goal

pub loop-i-preserved : goal.loop-i-preserved
loop-i-preserved c =
    none_here (λ name. not (has_row c.args.job.now.rows (c.args.folder.now ++ name ∷ [])))
    (children c.args.tree.now c.args.folder.now) c.loop-i.i c.in-Some.name.now (sym c.in-Some.ensures) (ap not
    (sym c.has_child.ensures ∙ c.if-not-has_child.false)) c.loop-i.invariant
