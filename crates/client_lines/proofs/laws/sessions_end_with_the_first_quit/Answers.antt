use Rattle.client_lines.proofs.Quitting.{quit_at, all_lines}
use Rattle.client_lines.proofs.laws.sessions_end_with_the_first_quit.Goals as goal

pub returns : goal.returns
returns c = record { last = quit_at; all = all_lines }
