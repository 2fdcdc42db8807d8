use Rattle.world_rules.proofs.FirstPull.{first_pull}
use Rattle.t_core.proofs.asking_tests.asked.Goals as goal

pub ask_eight-answer-requires : goal.ask_eight-answer-requires
ask_eight-answer-requires c = first_pull
