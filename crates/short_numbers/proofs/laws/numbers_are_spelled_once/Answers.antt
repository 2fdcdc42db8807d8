use Rattle.short_numbers.proofs.Spelling.{all_are_spelled}
use Rattle.short_numbers.proofs.laws.numbers_are_spelled_once.Goals as goal

pub returns : goal.returns
returns c = all_are_spelled
