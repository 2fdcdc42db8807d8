use Rattle.world_rules.proofs.Runs.{new_in_step}
use Rattle.client_lines.proofs.beginning.new_sessions_are_in_step.Goals as goal

pub returns : goal.returns
returns c = λ client world new. new_in_step client world new.about new.own_number.0 new.own_number.1 new.served_is new.untaken new.unsent
