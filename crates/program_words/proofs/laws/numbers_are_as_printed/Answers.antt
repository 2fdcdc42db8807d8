use Rattle.program_words.proofs.Printing.{is_as_printed, is_number}
use Rattle.program_words.proofs.laws.numbers_are_as_printed.Goals as goal

pub returns : goal.returns
returns c low high n word fits = (is_as_printed low high fits word n, λ is. is_number low high fits word n is.0 is.1 is.2)
