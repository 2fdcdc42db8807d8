use Rattle.surrogate_prog.proofs.Silent.{silent_servers_failed_eight}
use Rattle.surrogate_prog.proofs.laws.silence_has_its_cause.Goals as goal

pub returns : goal.returns
returns c = silent_servers_failed_eight
