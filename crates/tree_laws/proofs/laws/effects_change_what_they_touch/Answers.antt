use Rattle.vol_tree.proofs.Touching.{counts_touches, leaves_the_rest, made, put, removed, moved, mode, put_keeps}
use Rattle.tree_laws.proofs.laws.effects_change_what_they_touch.Goals as goal

pub returns-clause-touched : goal.returns-clause-touched
returns-clause-touched c = counts_touches

pub returns-clause-others : goal.returns-clause-others
returns-clause-others c = leaves_the_rest

pub returns-clause-made : goal.returns-clause-made
returns-clause-made c = made

pub returns-clause-put : goal.returns-clause-put
returns-clause-put c = put

pub returns-clause-removed : goal.returns-clause-removed
returns-clause-removed c = removed

pub returns-clause-moved : goal.returns-clause-moved
returns-clause-moved c = moved

pub returns-clause-mode : goal.returns-clause-mode
returns-clause-mode c = mode

pub returns-clause-bit : goal.returns-clause-bit
returns-clause-bit c = put_keeps
