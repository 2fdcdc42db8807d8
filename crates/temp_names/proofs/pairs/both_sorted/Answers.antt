use Rattle.temp_names.proofs.Both.{sides_are}
use Rattle.temp_names.proofs.pairs.both_sorted.Goals as goal

pub returns : goal.returns
returns c = sides_are c.args.likeness c.args.clients.now c.args.replays.now _ c.requires c.in_ok-clients.ensures c.in_ok-replays.ensures
