use Rattle.surrogate_core.proofs.Free.{handlings_move_alone, replies_are_free}
use Rattle.surrogate_core.proofs.laws.handlings_are_no_sendings.Goals as goal

pub returns-clause-moves : goal.returns-clause-moves
returns-clause-moves c = handlings_move_alone

pub returns-clause-replies : goal.returns-clause-replies
returns-clause-replies c = replies_are_free
