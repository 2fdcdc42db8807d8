use Rattle.client_session.proofs.Turns.{turns_asked, broken_turns_asked}
use Rattle.client_session.proofs.laws.asks_are_of_turns.Goals as goal

pub returns-clause-whole : goal.returns-clause-whole
returns-clause-whole c = turns_asked

pub returns-clause-broken : goal.returns-clause-broken
returns-clause-broken c = broken_turns_asked
