use Rattle.frame_parts.proofs.Each.{one_kept, later_one, one_without}
use Rattle.frame_parts.proofs.laws.a_client_has_one_front.Goals as goal

pub returns-clause-puts : goal.returns-clause-puts
returns-clause-puts c = one_kept

pub returns-clause-later : goal.returns-clause-later
returns-clause-later c = later_one

pub returns-clause-lost : goal.returns-clause-lost
returns-clause-lost c = one_without
