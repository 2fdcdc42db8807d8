use Rattle.client_core.proofs.Sketching.{light_by}
use Rattle.client_core.proofs.window.is_light.Goals as goal

pub returns : goal.returns
returns c = λ client low high.
    light_by client c.args.route.now c.args.entry.now c.in_ok-size.size c.store_size.result (c.requires client low high) c.if-is_none.ensures c.if-is_none-2.ensures (c.in_ok-size.ensures client) (c.store_size.ensures client c.args.entry.now.seq)
