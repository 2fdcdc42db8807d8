use Rattle.surrogate_prog.proofs.Alone.{runs_move_alone, turns_move_alone}
use Rattle.surrogate_prog.proofs.laws.worlds_move_alone.Goals as goal

pub returns-clause-run : goal.returns-clause-run
returns-clause-run c = runs_move_alone

pub returns-clause-turns : goal.returns-clause-turns
returns-clause-turns c = turns_move_alone
