use Rattle.client_session.proofs.Changing.{sessions_change_so}
use Rattle.client_session.proofs.laws.sessions_change_so.Goals as goal

pub returns : goal.returns
returns c = sessions_change_so
