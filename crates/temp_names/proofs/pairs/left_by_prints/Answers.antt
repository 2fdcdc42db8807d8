use Rattle.std.proofs.Common.{◌∙◌, ap}
use Rattle.temp_names.specs.Renaming.{without_paths}
use Rattle.temp_names.proofs.Both.{clients_left_same, replays_left_same}
use Rattle.temp_names.proofs.pairs.left_by_prints.Goals as goal

pub returns-clause-clients : goal.returns-clause-clients
returns-clause-clients c = c.in_ok-clients.ensures ∙ clients_left_same c.args.clients.now c.args.replays.now c.args.sides.now c.requires

pub returns-clause-replays : goal.returns-clause-replays
returns-clause-replays c =
    c.in_ok-replays.ensures ∙ ap (without_paths c.args.replays.now) (c.deref.ensures.value ∙ c.in_ok-taken.ensures)
    ∙ replays_left_same c.args.clients.now c.args.replays.now c.args.sides.now c.requires
