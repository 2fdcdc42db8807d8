use Rattle.vol_tree.proofs.Steps.{CanUndoAll-last}
use Rattle.t_tree.proofs.kept.undo_last.Goals as goal

pub undo-requires : goal.undo-requires
undo-requires c = let can = CanUndoAll-last c.pop.new.self.items c.in-Some.undo c.args.tree.now (rw c.in-Some.ensures.items at c.requires) in can.0

pub returns-in-Some-clause-possible : goal.returns-in-Some-clause-possible
returns-in-Some-clause-possible c =
    let can = CanUndoAll-last c.pop.new.self.items c.in-Some.undo c.args.tree.now (rw c.in-Some.ensures.items at c.requires) in
    rw c.undo.ensures can.1
