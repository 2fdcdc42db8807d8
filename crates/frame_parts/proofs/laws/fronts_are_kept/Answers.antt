use Rattle.frame_parts.proofs.Coming.{fronts_kept}
use Rattle.frame_parts.proofs.Each.{later_front, lost_front}
use Rattle.frame_parts.proofs.laws.fronts_are_kept.Goals as goal

pub returns-clause-puts : goal.returns-clause-puts
returns-clause-puts c = fronts_kept

pub returns-clause-later : goal.returns-clause-later
returns-clause-later c = later_front

pub returns-clause-lost : goal.returns-clause-lost
returns-clause-lost c = lost_front
