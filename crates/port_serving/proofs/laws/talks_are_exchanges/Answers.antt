use Rattle.port_serving.proofs.Totals.{talks_are_exchanges}
use Rattle.port_serving.proofs.laws.talks_are_exchanges.Goals as goal

pub returns : goal.returns
returns c = talks_are_exchanges
