use Rattle.std.specs.Prelude.{◌≡◌, ◌++◌, ◌∷◌, [], not, false, take}
use Rattle.std.specs.List.{list_any}
use Rattle.tree_values.specs.Tree.{children}
use Rattle.work_area.specs.Changes.{has_row}
use Rattle.work_area.proofs.changing.has_foreign_child.Given as goal

-- the job has the children that were looked at
abbrev pub invariant-loop-i : goal.invariant-loop-i
invariant-loop-i l = list_any (λ name. not (has_row l.job.rows (l.folder ++ name ∷ []))) (take l.i (children l.tree l.folder)) ≡ false
