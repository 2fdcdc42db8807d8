use Rattle.server_core.proofs.Numbers.{served-new, new-legal}
use Rattle.server_core.proofs.server.Server.new.Goals as goal

pub invariant_of-result : goal.invariant_of-result
invariant_of-result c = rw (c.new.ensures, c.none_accepted.ensures) new-legal

pub returns : goal.returns
returns c = rw (c.new.ensures, c.none_accepted.ensures) (record { new = served-new })
