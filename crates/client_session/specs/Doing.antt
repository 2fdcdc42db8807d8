-- What a line does: its turn, and with it the client and what is kept of it, and the world where that is told.
use Rattle.std.specs.Prelude.{◌≡◌, ℕ, Bool, false, List, Option, is_some, Result, Ok, Err, IfOk}
use Rattle.outside.specs.Keeper.{Images}
use Rattle.mod_log.specs.Log.{Log}
use Rattle.world_rules.specs.Telling.{LinkTelling}
use Rattle.client_core.specs.declared.route.Route.{Route}
use Rattle.client_core.specs.Trace.{Trace}
use Rattle.cmd_capture.specs.Runs.{RunnerTelling}
use Rattle.client_core.specs.Goes.{Goes}
use Rattle.client_core.specs.Noting.{KeepsChanges}
use Rattle.shell_lang.specs.declared.line.Line.{Line}
use Rattle.shell_lang.specs.declared.line.LineError.{LineError}
use Rattle.shell_lang.specs.declared.answer.LineAnswer.{LineAnswer}
use Rattle.client_session.specs.declared.stop.LineStop.{LineStop}
use Rattle.client_session.specs.Session.{SessionState, Sitting, state_of, has_pulled, LineTurn, Broken}

-- what the link and the runner of a session tell at one moment
pub record Telling : Type 0 where
  pub link : LinkTelling
  pub runner : RunnerTelling

abbrev pub beside : LinkTelling → RunnerTelling → Telling
beside link runner = record { link = link; runner = runner }

-- Between two moments a session did what these turns say: it is the same client's, and this client, what is kept of it under the
-- name and what the runner tells went on together, over any link, and with them the world where the link tells it. Where it ships
-- nothing but stores, `ships` is false.
pub record Does (ships : Bool) (name : List ℕ) (turns : Trace → Type 0) (before after : SessionState) (kept : Log)
    (images images_now : Option Images) (told now : Telling) : Type 0 where
  pub number : after.client.number ≡ before.client.number
  pub goes : Goes before.client.number ships name turns before.client.log after.client.log kept images images_now told.runner
      now.runner told.link now.link

-- Over any link, a session did what these turns of what is kept at the end say, under the image of its route. It ships operations only
-- where the route has a surrogate.
abbrev pub WentDoing : Route → (Log → Trace → Type 0) → SessionState → SessionState → Option Images → Option Images → Telling
    → Telling → Type 0
WentDoing route turns before after images images_now old new =
    (kept : Log) × Does (is_some route.surrogate) route.image (turns kept) before after kept images images_now old new

-- a line that was answered and after which the log is kept, or one that was broken off
abbrev pub LineEnds : Route → SessionState → Result Line LineError → Result (Option LineAnswer) LineStop → SessionState → Log
    → Trace → Type 0
LineEnds route before line (Ok answer) after kept trace = LineTurn route before line answer after trace × (kept ≡ after.client.log)
LineEnds route before line (Err error) after kept trace = Broken route before line after trace

-- the same, and where it was answered and no pull took rows, each change of the line was kept by a record of its own
abbrev pub LineNoting : Route → Sitting → Result Line LineError → Result (Option LineAnswer) LineStop → Sitting → Option Images
    → Option Images → Log → Trace → Type 0
LineNoting route before line result after images now kept trace =
    LineEnds route (state_of before) line result (state_of after) kept trace
    × IfOk result (λ answer. has_pulled line answer ≡ false
    → KeepsChanges route.image before.client after.client trace.changes images now)
