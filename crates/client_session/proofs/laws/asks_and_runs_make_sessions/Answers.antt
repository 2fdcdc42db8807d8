use Rattle.client_session.proofs.Alike.{asks_and_runs_make_sessions}
use Rattle.client_session.proofs.laws.asks_and_runs_make_sessions.Goals as goal

pub returns : goal.returns
returns c = asks_and_runs_make_sessions
