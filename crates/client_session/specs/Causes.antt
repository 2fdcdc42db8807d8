-- What the answer of a line promises over any link, also over one that tells no world.
use Rattle.std.specs.Prelude.{◌≡◌, ℕ, Bool, true, false, Option, Result, Ok}
use Rattle.mod_log.specs.Log.{Log}
use Rattle.client_core.specs.declared.route.Route.{Route}
use Rattle.client_core.specs.declared.syncing.SyncEnd.{SyncEnd}
use Rattle.client_core.specs.declared.pulling.PullEnd.{PullEnd}
use Rattle.client_core.specs.Trace.{Trace}
use Rattle.cmd_capture.specs.Runs.{HasRun}
use Rattle.client_core.specs.Causes.{HasSyncCause, HasPullCause, AcknowledgesSome}
use Rattle.shell_lang.specs.declared.line.Line.{Line}
use Rattle.shell_lang.specs.declared.line.Line.TheVariants.{Run, Sync, Pull}
use Rattle.shell_lang.specs.declared.line.LineError.{LineError}
use Rattle.shell_lang.specs.declared.answer.LineAnswer.{LineAnswer}
use Rattle.client_session.specs.declared.stop.LineStop.{LineStop}
use Rattle.client_session.specs.Session.{SessionState, with_log}
use Rattle.client_session.specs.Stops.{told, sync_result, pull_result}
use Rattle.client_session.specs.Doing.{Telling, LineEnds}

-- whether a line asks for a run
abbrev pub asks_to_run : Result Line LineError → Bool
asks_to_run (Ok (Run words)) = true
asks_to_run line = false

-- A sync acknowledges some entries and a pull may replace the base, and nothing else of the session changes; each ends with a cause,
-- and is answered so. Every other line has its turn, or was broken off; what its runs were, the runner tells, and its faults rose
-- where a line was answered `not run`.
abbrev pub HasLineCause : Route → SessionState → Result Line LineError → Result (Option LineAnswer) LineStop → SessionState
    → Telling → Telling → ℕ → ℕ → Type 0
HasLineCause route before (Ok Sync) result after old new faults faults_now =
    (after ≡ with_log before after.client.log) × AcknowledgesSome before.client.log after.client.log
    × ((end : SyncEnd) × (result ≡ told (sync_result end))
    × HasSyncCause end after.client.log old.link.troubles new.link.troubles faults faults_now)
HasLineCause route before (Ok Pull) result after old new faults faults_now =
    (after ≡ with_log before after.client.log)
    × ((end : PullEnd) × (result ≡ told (pull_result end))
    × HasPullCause end before.client.log after.client.log old.link.troubles new.link.troubles faults faults_now)
HasLineCause route before line result after old new faults faults_now = (kept : Log) × (trace : Trace)
    × LineEnds route before line result after kept trace × HasRun trace.runs trace.missed old.runner new.runner
