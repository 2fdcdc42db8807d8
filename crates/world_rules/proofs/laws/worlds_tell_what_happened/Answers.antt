use Rattle.world_rules.proofs.Asks.{asked_among}
use Rattle.world_rules.proofs.Free.{asks_alone}
use Rattle.world_rules.proofs.Replay.{steps_replayed, run_replayed}
use Rattle.world_rules.proofs.Runs.{run_taken, run_asked, run_packets, run_answers, run_requests}
use Rattle.world_rules.proofs.laws.worlds_tell_what_happened.Goals as goal

pub returns-clause-served : goal.returns-clause-served
returns-clause-served c = steps_replayed

pub returns-clause-served_after : goal.returns-clause-served_after
returns-clause-served_after c = run_replayed

pub returns-clause-answered : goal.returns-clause-answered
returns-clause-answered c = run_answers

pub returns-clause-sends : goal.returns-clause-sends
returns-clause-sends c = run_requests

pub returns-clause-taken : goal.returns-clause-taken
returns-clause-taken c = run_taken

pub returns-clause-asked : goal.returns-clause-asked
returns-clause-asked c = run_asked

pub returns-clause-requests : goal.returns-clause-requests
returns-clause-requests c = asked_among

pub returns-clause-free : goal.returns-clause-free
returns-clause-free c = asks_alone

pub returns-clause-sent : goal.returns-clause-sent
returns-clause-sent c = run_packets
