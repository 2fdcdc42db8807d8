-- How a line is answered, or what stops it before its answer.
use Rattle.std.specs.Prelude.{Option, None, Some, Result, Ok, Err}
use Rattle.outside.specs.declared.errors.KeepError.{KeepError}
use Rattle.outside.specs.declared.errors.KeepError.TheVariants as keepers
use Rattle.client_core.specs.declared.syncing.SyncEnd.{SyncEnd}
use Rattle.client_core.specs.declared.syncing.SyncEnd.TheVariants as syncs
use Rattle.client_core.specs.declared.pulling.PullEnd.{PullEnd}
use Rattle.client_core.specs.declared.pulling.PullEnd.TheVariants as pulls
use Rattle.shell_lang.specs.declared.answer.LineAnswer.{LineAnswer}
use Rattle.client_session.specs.declared.stop.LineStop.{LineStop}
use Rattle.client_session.specs.declared.stop.LineStop.TheVariants.{Keeper, Memory}
use Rattle.client_session.specs.Session.{sync_answer, pull_answer}

-- what stops a line where the client could not be kept
abbrev pub line_stop_of : KeepError → LineStop
line_stop_of keepers.Failed = Keeper
line_stop_of keepers.Memory = Memory

-- an answer that is there; where there is none, memory was wanted
abbrev pub or_memory : Option LineAnswer → Result LineAnswer LineStop
or_memory None = Err Memory
or_memory (Some answer) = Ok answer

-- how the end of a sync is answered, unless its keeping failed or memory was wanted
abbrev pub sync_result : SyncEnd → Result LineAnswer LineStop
sync_result syncs.KeepFault = Err Keeper
sync_result end = or_memory (sync_answer end)

-- how the end of a pull is answered, unless its keeping failed or memory was wanted
abbrev pub pull_result : PullEnd → Result LineAnswer LineStop
pull_result pulls.KeepFault = Err Keeper
pull_result end = or_memory (pull_answer end)

-- what a line comes to that has an answer
abbrev pub told : Result LineAnswer LineStop → Result (Option LineAnswer) LineStop
told (Ok answer) = Ok (Some answer)
told (Err stop) = Err stop
