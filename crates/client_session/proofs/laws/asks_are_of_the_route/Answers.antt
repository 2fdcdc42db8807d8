use Rattle.client_session.proofs.Peers.{asks_are_of_the_route, broken_sessions_ask_the_route}
use Rattle.client_session.proofs.laws.asks_are_of_the_route.Goals as goal

pub returns : goal.returns
returns c = record { whole = asks_are_of_the_route; broken = broken_sessions_ask_the_route }
