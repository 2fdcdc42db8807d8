use Rattle.vol_tree.proofs.Behind.{applied-changed}
use Rattle.store_image.proofs.entry.growing_effect.Goals as goal

pub returns-in-Ok-clause-applied : goal.returns-in-Ok-clause-applied
returns-in-Ok-clause-applied c = applied-changed c.in_ok-effect.effect c.args.tree.now _ c.in-Ok.ensures.ok
