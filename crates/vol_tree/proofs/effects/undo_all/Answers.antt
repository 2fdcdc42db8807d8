use Rattle.std.proofs.Common.{◌∙◌, sym, ap}
use Rattle.vol_tree.specs.Undos.{undone_all}
use Rattle.vol_tree.proofs.Steps.{undone_all-push, CanUndoAll-last}
use Rattle.vol_tree.proofs.effects.undo_all.Goals as goal

pub undo-requires : goal.undo-requires
undo-requires c =
    let items = c.in-Some.ensures.items in
    let can = CanUndoAll-last c.pop.new.self.items c.in-Some.undo c.loop-undo.tree (rw items at c.loop-undo.invariant.possible) in can.0

pub loop-undo-preserved : goal.loop-undo-preserved
loop-undo-preserved c =
    let items = c.in-Some.ensures.items in
    let can = CanUndoAll-last c.pop.new.self.items c.in-Some.undo c.loop-undo.tree (rw items at c.loop-undo.invariant.possible) in
    record {
      possible = rw c.undo.ensures can.1;
      same = ap (undone_all c.pop.new.self.items) c.undo.ensures ∙ sym (undone_all-push c.pop.new.self.items c.in-Some.undo c.loop-undo.tree) ∙ ap (λ all. undone_all all c.loop-undo.tree) (sym items) ∙ c.loop-undo.invariant.same;
    }
