-- How many connections a run takes.
use Rattle.std.specs.Prelude.{ℕ, List, Option}
use Rattle.outside.specs.Port.{most_connections}
use Rattle.program_words.specs.Numbers.{printed_number}

-- the count that a word says
abbrev pub count_of : List ℕ → Option ℕ
count_of word = printed_number 1 most_connections word
