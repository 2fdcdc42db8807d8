use Rattle.vol_tree.proofs.Steps.{CanUndoAll-push}
use Rattle.t_tree.proofs.kept.apply_kept.Goals as goal

pub returns-in-Ok : goal.returns-in-Ok
returns-in-Ok c =
    rw c.in-Ok.ensures.items
    (CanUndoAll-push c.args.undos.now.items c.in_ok-undo.undo c.apply.new.self c.in_ok-undo.ensures.can_undo (rw c.in_ok-undo.ensures.undoes c.requires))
