-- A session whose last line is a sync, where nobody else writes: what it takes that nothing is pending at its end, whatever was lost.
use Rattle.std.specs.Prelude.{◌≡◌, ℕ, List, [], ◌∷◌, ◌++◌, Result, Ok}
use Rattle.mod_log.specs.Log.{Log, tree_at}
use Rattle.wire_frames.specs.declared.message.Message.{Message}
use Rattle.world_rules.specs.declared.asking.Ask.{Ask}
use Rattle.world_rules.specs.declared.asking.Peer.TheVariants.{Server}
use Rattle.world_rules.specs.Settling.{max_asks, failures}
use Rattle.world_rules.specs.Telling.{ToldWorlds}
use Rattle.world_rules.specs.InStep.{InStep, HasNoCollision}
use Rattle.world_rules.specs.Served.{TakenEntry}
use Rattle.world_rules.specs.Run.{AreAllOf}
use Rattle.client_core.specs.declared.route.Route.{Route}
use Rattle.shell_lang.specs.declared.line.Line.{Line}
use Rattle.shell_lang.specs.declared.line.Line.TheVariants.{Sync}
use Rattle.shell_lang.specs.declared.line.LineError.{LineError}
use Rattle.client_session.specs.Session.{opened, Chain}
use Rattle.client_lines.specs.Headline.{last_taken, Around, Ran}

-- the last eight of these asks are of one request to the server, and failed
abbrev pub EndInFailures : Route → List Ask → Type 0
EndInFailures route asks = (front : List Ask) × (request : Message) × (asks ≡ front ++ failures Server route.server request max_asks)

-- Where the client's tree after its last taken entry was served when a session began that ended well, all that was taken since is the
-- client's, no content that was sent is taken for another, and the last eight asks did not fail, the sync that is the last line came
-- through: nothing is pending.
abbrev pub LastSyncsComplete : Type 0
LastSyncsComplete = (client : ℕ) (route : Route) (start : Log) (around around_now : Around) (front : List (Result Line LineError))
    → (ran : Ran client route start around around_now 0)
    → Chain route (opened client start) (front ++ Ok Sync ∷ []) ran.answers ran.after ran.goes.trace
    → (EndInFailures route ran.goes.trace.asks → ⊥)
    → ToldWorlds around.link around_now.link
    (λ old new. InStep client start old → HasNoCollision client (start.pending ++ ran.goes.trace.entries) new.packets
    → old.served.volume ≡ tree_at (last_taken client old) start
    → (taken : List TakenEntry) → new.taken ≡ old.taken ++ taken → AreAllOf client taken → ran.after.client.log.pending ≡ [])
