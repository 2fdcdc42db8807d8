use Rattle.short_numbers.proofs.Reading.{numbers_are_read as all_are_read}
use Rattle.short_numbers.proofs.laws.numbers_are_read.Goals as goal

pub returns : goal.returns
returns c = all_are_read
