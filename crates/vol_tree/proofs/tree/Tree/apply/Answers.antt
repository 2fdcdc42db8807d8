use Rattle.std.proofs.Common.{◌∙◌}
use Rattle.vol_tree.proofs.Trees.{changed_is_tree, undone_change, can_undo_change}
use Rattle.vol_tree.proofs.tree.Tree.apply.Goals as goal

pub invariant_of-self-2 : goal.invariant_of-self-2
invariant_of-self-2 c =
    let allowed = c.in_ok-check.ensures.ok in
    rw c.in_ok-change.ensures.ok (changed_is_tree _ _ c.self.invariant c.in_ok-check.ensures.legal allowed)

pub returns-clause-undoes : goal.returns-clause-undoes
returns-clause-undoes c =
    let allowed = c.in_ok-check.ensures.ok in
    rw (c.in_ok-change.ensures.kept, c.in_ok-change.ensures.ok) (undone_change _ _ c.self.invariant allowed ∙ c.self.view_is)

pub returns-clause-can_undo : goal.returns-clause-can_undo
returns-clause-can_undo c =
    let allowed = c.in_ok-check.ensures.ok in
    rw (c.in_ok-change.ensures.kept, c.in_ok-change.ensures.ok) (can_undo_change _ _ c.self.invariant allowed)
