use Rattle.client_session.proofs.Licensed.{sessions_licensed, broken_sessions_licensed}
use Rattle.client_session.proofs.laws.sessions_are_licensed.Goals as goal

pub returns-clause-whole : goal.returns-clause-whole
returns-clause-whole c = sessions_licensed

pub returns-clause-broken : goal.returns-clause-broken
returns-clause-broken c = broken_sessions_licensed
