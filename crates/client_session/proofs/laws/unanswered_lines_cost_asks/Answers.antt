use Rattle.client_session.proofs.Answered.{unanswered_lines_cost_asks}
use Rattle.client_session.proofs.laws.unanswered_lines_cost_asks.Goals as goal

pub returns : goal.returns
returns c = unanswered_lines_cost_asks
