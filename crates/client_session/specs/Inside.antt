-- Words that only contracts of private functions cite, of lines that log or run.
use Rattle.std.specs.Prelude.{◌≡◌, ◌≢◌, ◌⊎◌, ℕ, Bool, List, Option, Some, is_some, Result, Ok, Err}
use Rattle.outside.specs.Keeper.{Images}
use Rattle.mod_log.specs.Log.{Log}
use Rattle.file_paths.specs.declared.path.PathError.{PathError}
use Rattle.file_paths.specs.declared.path.PathError.TheVariants.{Memory}
use Rattle.tree_values.specs.declared.node.Effect.{Effect}
use Rattle.cmd_capture.specs.declared.command.Command.{Command}
use Rattle.cmd_capture.specs.Capture.{capture}
use Rattle.world_rules.specs.Telling.{LinkTelling}
use Rattle.client_core.specs.declared.route.Route.{Route}
use Rattle.cmd_capture.specs.Runs.{RunnerTelling}
use Rattle.client_core.specs.Trace.{Trace, nothing}
use Rattle.shell_lang.specs.declared.line.Line.TheVariants.{Run as RunLine}
use Rattle.shell_lang.specs.declared.answer.LineAnswer.{LineAnswer}
use Rattle.client_session.specs.declared.stop.LineStop.{LineStop}
use Rattle.client_session.specs.Session.{SessionState, LogTurn}
use Rattle.client_session.specs.Stops.{told}
use Rattle.client_session.specs.Doing.{Telling, beside, Does, LineEnds}

-- the effect that was made is the one that is named, or the refusal is that of the naming, unless memory ran out
abbrev pub GivesEffect : Result Effect PathError → Result Effect PathError → Type 0
GivesEffect (Ok effect) named = named ≡ Ok effect
GivesEffect (Err error) named = error ≢ Memory → named ≡ Err error

-- A named effect has its turn, and the log is kept. Or memory was wanted before it did anything, or it had its turn and the log was
-- not surely kept.
abbrev pub LogEnds : Result Effect PathError → SessionState → Result LineAnswer LineStop → SessionState → Log → Trace → Type 0
LogEnds named before (Ok answer) after kept trace = LogTurn named before (Some answer) after trace × (kept ≡ after.client.log)
LogEnds named before (Err error) after kept trace =
    ((after ≡ before) × (trace ≡ nothing)) ⊎ ((answer : Option LineAnswer) × LogTurn named before answer after trace)

-- what it does over any link, with a surrogate or without, where the keeper's images were these and are those now
abbrev pub LogsOrRefuses : List ℕ → Result Effect PathError → SessionState → Result LineAnswer LineStop → SessionState
    → Option Images → Option Images → Type 0
LogsOrRefuses name named before result after images now =
    (ships : Bool) (told : Telling) → (kept : Log) × Does ships name (LogEnds named before result after kept) before after kept
    images now told told

-- the same of an effect that was made, whatever it was made of
abbrev pub LogsMade : List ℕ → Result Effect PathError → SessionState → Result LineAnswer LineStop → SessionState
    → Option Images → Option Images → Type 0
LogsMade name made before result after images now =
    (named : Result Effect PathError) → GivesEffect made named → LogsOrRefuses name named before result after images now

-- What a command of a line does over any link, where the keeper's images and what the runner tells were these and are those now: the
-- line has its turn, or is broken off.
abbrev pub RunsLine : Route → List (List ℕ) → SessionState → Result LineAnswer LineStop → SessionState → Option Images
    → Option Images → RunnerTelling → RunnerTelling → Type 0
RunsLine route words before result after images now runner ran =
    (link : LinkTelling)
    → (kept : Log) × Does (is_some route.surrogate) route.image (LineEnds route before (Ok (RunLine words)) (told result) after kept)
    before after kept images now (beside link runner) (beside link ran)

-- the same of a command, whatever words made it
abbrev pub RunsMade : Route → Command → SessionState → Result LineAnswer LineStop → SessionState → Option Images
    → Option Images → RunnerTelling → RunnerTelling → Type 0
RunsMade route command before result after images now runner ran =
    (words : List (List ℕ)) → capture words before.folder ≡ Ok command → RunsLine route words before result after images now runner ran
