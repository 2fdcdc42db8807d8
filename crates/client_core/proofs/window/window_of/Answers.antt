use Rattle.client_core.proofs.Windows.{window_parts}
use Rattle.client_core.proofs.window.window_of.Goals as goal

pub returns : goal.returns
returns c =
    window_parts c.args.client c.args.route.now c.args.log.now.pending c.in_ok-count.count c.front_of.result (c.in_ok-count.ensures c.args.client c.requires.own_number.0 c.requires.own_number.1) c.front_of.ensures
