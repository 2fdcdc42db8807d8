-- Which number stands for each status.
use Rattle.std.specs.Prelude.{ℕ}
use Rattle.program_words.specs.declared.status.Status.{Status}
use Rattle.program_words.specs.declared.status.Status.TheVariants.{Done, CannotListen, NoForm, SourceFailed, SinkFailed, KeeperFailed}
use Rattle.program_words.specs.declared.status.Status.TheVariants.{OtherImage, NoMemory, TooLong, Refused}

abbrev pub code : Status → ℕ
code Done = 0
code CannotListen = 1
code NoForm = 2
code SourceFailed = 3
code SinkFailed = 4
code KeeperFailed = 5
code OtherImage = 6
code NoMemory = 7
code TooLong = 8
code Refused = 9
