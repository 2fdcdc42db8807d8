use Rattle.server_core.proofs.Noting.{one_state}
use Rattle.server_core.proofs.laws.one_state_is_kept.Goals as goal

pub returns : goal.returns
returns c = one_state
