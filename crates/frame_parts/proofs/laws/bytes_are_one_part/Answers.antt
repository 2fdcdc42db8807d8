use Rattle.frame_parts.proofs.Parts.{same_part, same_have}
use Rattle.frame_parts.proofs.laws.bytes_are_one_part.Goals as goal

pub returns-clause-parts : goal.returns-clause-parts
returns-clause-parts c = same_part

pub returns-clause-answers : goal.returns-clause-answers
returns-clause-answers c = same_have
