-- Which peers a session asks.
use Rattle.std.proofs.Common.{◌≡◌, inl, inr, ⊎_elim, ℕ, zero, suc, List, [], ◌∷◌, ◌++◌, Option, None, Some, Result, Ok, Err, refl, sym, ap, subst}
use Rattle.tree_values.specs.Lists.{IsIn}
use Rattle.tree_values.specs.declared.node.Effect.{Effect}
use Rattle.cmd_capture.specs.declared.command.Command.{Command}
use Rattle.cmd_capture.specs.declared.capturing.CaptureError.{CaptureError}
use Rattle.cmd_capture.specs.Capture.{capture}
use Rattle.mod_log.specs.declared.log.Entry.{Entry}
use Rattle.mod_log.specs.declared.log.LogError.{LogError}
use Rattle.mod_log.specs.Log.{Log}
use Rattle.wire_frames.specs.declared.message.Message.{Message}
use Rattle.wire_frames.specs.declared.message.Message.TheVariants as messages
use Rattle.world_rules.specs.declared.asking.Peer.{Peer}
use Rattle.world_rules.specs.declared.asking.Peer.TheVariants.{Server, Surrogate}
use Rattle.world_rules.specs.declared.asking.Ask.{Ask}
use Rattle.world_rules.specs.declared.asking.Answer.{Answer as Reached}
use Rattle.world_rules.specs.declared.asking.Answer.TheVariants.{Reply, Failed}
use Rattle.world_rules.specs.Asking.{ask_of}
use Rattle.world_rules.specs.Settling.{failures, IsSettling, BreaksSettling}
use Rattle.world_rules.proofs.Asks.{in_either}
use Rattle.client_core.specs.declared.route.Route.{Route}
use Rattle.client_core.specs.declared.syncing.SyncEnd.{SyncEnd}
use Rattle.client_core.specs.declared.pulling.PullEnd.{PullEnd}
use Rattle.client_core.specs.declared.pulling.PullEnd.TheVariants as pulls
use Rattle.client_core.specs.declared.running.RunEnd.{RunEnd}
use Rattle.client_core.specs.declared.running.RunEnd.TheVariants as runs
use Rattle.client_core.specs.Trace.{Trace, nothing}
use Rattle.client_core.specs.Running.{RunTurn}
use Rattle.client_core.specs.Logging.{LocalTurn}
use Rattle.client_core.specs.Syncing.{store_of, SettlesOperation, StoreIsDue, Ships, BreaksShipping, SyncTurn, BreaksSync}
use Rattle.client_core.specs.Pulling.{pull_of, PullsSnapshot, PullTurn, BreaksPull}
use Rattle.shell_lang.specs.declared.line.Line.{Line}
use Rattle.shell_lang.specs.declared.line.Line.TheVariants as lines
use Rattle.shell_lang.specs.declared.line.LineError.{LineError}
use Rattle.shell_lang.specs.declared.answer.LineAnswer.{LineAnswer}
use Rattle.client_session.specs.Session.{SessionState, put_effect, make_effect, remove_effect, move_effect, LogTurn, CommandTurn, LineTurn, BreaksCommand, BreaksOff, Broken}
use Rattle.client_session.specs.Laws.{IsOfRoute, AsksAreOfTheRoute, BrokenSessionsAskTheRoute}
use Rattle.client_session.proofs.Acknowledged.{sync_holds, broken_holds}

module _ (route : Route) where
  -- each of these asks is of a peer of the route
  abbrev AreOfRoute : List Ask → Type 0
  AreOfRoute asks = (ask : Ask) → IsIn ask asks → IsOfRoute route ask

  none_asked : (asks : List Ask) → asks ≡ [] → AreOfRoute asks
  none_asked asks none = subst AreOfRoute (sym none) (λ ask among. absurd among)

  one_asked : (ask : Ask) → IsOfRoute route ask → AreOfRoute (ask ∷ [])
  one_asked ask is other (inl same) = subst (IsOfRoute route) (sym same) is
  one_asked ask is other (inr among) = absurd among

  both_asked : (xs ys : List Ask) → AreOfRoute xs → AreOfRoute ys → AreOfRoute (xs ++ ys)
  both_asked xs ys first second ask among = ⊎_elim (λ earlier. first ask earlier) (λ later. second ask later) (in_either ask xs ys among)

  -- ---- a settling with a peer of the route

  module _ (to : Peer) (address : List ℕ) (request : Message) (of : (answer : Reached) → IsOfRoute route (ask_of to address request answer)) where
    failures_asked : (count : ℕ) → AreOfRoute (failures to address request count)
    failures_asked zero ask among = absurd among
    failures_asked (suc count) ask (inl same) = subst (IsOfRoute route) (sym same) (of Failed)
    failures_asked (suc count) ask (inr among) = failures_asked count ask among

    failed_and : (count : ℕ) (answer : Reached) → AreOfRoute (failures to address request count ++ ask_of to address request answer ∷ [])
    failed_and count answer = both_asked (failures to address request count) (ask_of to address request answer ∷ []) (failures_asked count) (one_asked (ask_of to address request answer) (of answer))

    settling_asked : (came : Option Message) (asks : List Ask) → IsSettling to address request came asks → AreOfRoute asks
    settling_asked None asks settling = subst AreOfRoute (sym settling) (failures_asked 8)
    settling_asked (Some reply) asks settling = subst AreOfRoute (sym settling.4) (failed_and settling.0 (Reply reply))

    breaking_asked : (asks : List Ask) → BreaksSettling to address request asks → AreOfRoute asks
    breaking_asked asks breaks =
        ⊎_elim (λ (is : asks ≡ failures to address request breaks.0). subst AreOfRoute (sym is) (failures_asked breaks.0))
        (λ (more : (answer : Reached) × (asks ≡ failures to address request breaks.0 ++ ask_of to address request answer ∷ [])). subst AreOfRoute (sym more.1) (failed_and breaks.0 more.0)) breaks.2

  of_server : (request : Message) (answer : Reached) → IsOfRoute route (ask_of Server route.server request answer)
  of_server request answer = inl (refl, refl)

  of_surrogate : (address : List ℕ) → route.surrogate ≡ Some address → (request : Message) (answer : Reached) → IsOfRoute route (ask_of Surrogate address request answer)
  of_surrogate address is request answer = inr (refl, is)

  -- ---- a sync

  module _ (client : ℕ) where
    operation_asked : (entry : Entry) (came : Option Message) (asks : List Ask) → SettlesOperation client route entry came asks → AreOfRoute asks
    operation_asked entry came asks settles =
        settling_asked Surrogate settles.0 (messages.Operate client settles.1) (of_surrogate settles.0 settles.2.surrogate (messages.Operate client settles.1)) came asks settles.3

    due_asked : (entry : Entry) (asks : List Ask) → StoreIsDue client route entry asks → AreOfRoute asks
    due_asked entry asks (inl heavy) = none_asked asks heavy.1
    due_asked entry asks (inr light) = operation_asked entry light.0 asks light.2

    ships_asked : (pending : List Entry) (entry : Entry) (came : Option Message) (asks : List Ask) → Ships client route pending entry came asks → AreOfRoute asks
    ships_asked pending entry came asks (inl done) = operation_asked entry came asks done.1
    ships_asked pending entry came asks (inr stored) =
        let store : Message = store_of client entry.seq stored.2 in
        subst AreOfRoute (sym stored.6)
        (both_asked stored.0 stored.1 (due_asked entry stored.0 stored.3) (settling_asked Server route.server store (of_server store) came stored.1 stored.5))

    breaks_asked : (pending : List Entry) (entry : Entry) (asks : List Ask) → BreaksShipping client route pending entry asks → AreOfRoute asks
    breaks_asked pending entry asks (inl light) =
        breaking_asked Surrogate light.0 (messages.Operate client light.1) (of_surrogate light.0 light.2.surrogate (messages.Operate client light.1)) asks light.3
    breaks_asked pending entry asks (inr (inl due)) = due_asked entry asks due
    breaks_asked pending entry asks (inr (inr stored)) =
        let store : Message = store_of client entry.seq stored.2 in
        subst AreOfRoute (sym stored.6)
        (both_asked stored.0 stored.1 (due_asked entry stored.0 stored.3) (breaking_asked Server route.server store (of_server store) stored.1 stored.5))

    abbrev AsksOfRoute : Trace → Type 0
    AsksOfRoute trace = AreOfRoute trace.asks

    sync_asked : (before : Log) (end : SyncEnd) (after : Log) (trace : Trace) → SyncTurn client route before end after trace → AsksOfRoute trace
    sync_asked before end after trace turn =
        sync_holds AsksOfRoute (λ ask among. absurd among) (λ m n p q. both_asked m.asks n.asks p q) (λ log ask among. absurd among) client route ships_asked before end after trace turn

    sync_broken : (before after : Log) (trace : Trace) → BreaksSync client route before after trace → AsksOfRoute trace
    sync_broken before after trace breaks =
        broken_holds AsksOfRoute (λ ask among. absurd among) (λ m n p q. both_asked m.asks n.asks p q) (λ log ask among. absurd among) client route ships_asked breaks_asked before after trace breaks

    -- ---- a pull

    snapshot_asked : (before : Log) (end : PullEnd) (after : Log) (trace : Trace) → PullsSnapshot client route before end after trace → AreOfRoute trace.asks
    snapshot_asked before end after trace turn =
        subst (λ (t : Trace). AreOfRoute t.asks) (sym turn.trace_is)
        (both_asked turn.asks []
        (settling_asked Server route.server (pull_of client before) (of_server (pull_of client before)) (Some (messages.Snapshot client before.acked turn.last turn.seen)) turn.asks turn.settling)
        (none_asked [] refl))

    pull_asked : (before : Log) (end : PullEnd) (after : Log) (trace : Trace) → PullTurn client route before end after trace → AreOfRoute trace.asks
    pull_asked before (pulls.Pending count) after trace turn = none_asked trace.asks (ap (λ (t : Trace). t.asks) turn.3)
    pull_asked before pulls.Unanswered after trace turn =
        subst (λ (t : Trace). AreOfRoute t.asks) (sym turn.1.3) (settling_asked Server route.server (pull_of client before) (of_server (pull_of client before)) None turn.1.0 turn.1.1)
    pull_asked before (pulls.Pulled count) after trace turn = snapshot_asked before (pulls.Pulled count) after trace turn
    pull_asked before (pulls.OtherLast last acked) after trace turn = snapshot_asked before (pulls.OtherLast last acked) after trace turn
    pull_asked before (pulls.Older path theirs ours) after trace turn = snapshot_asked before (pulls.Older path theirs ours) after trace turn
    pull_asked before pulls.KeepFault after trace turn = snapshot_asked before pulls.KeepFault after trace turn
    pull_asked before pulls.Memory after trace turn = snapshot_asked before pulls.Memory after trace turn

    pull_broken : (before after : Log) (trace : Trace) → BreaksPull client route before after trace → AreOfRoute trace.asks
    pull_broken before after trace (inl breaks) =
        subst (λ (t : Trace). AreOfRoute t.asks) (sym breaks.4) (breaking_asked Server route.server (pull_of client before) (of_server (pull_of client before)) breaks.0 breaks.3)
    pull_broken before after trace (inr pulled) = snapshot_asked before (pulls.Pulled pulled.0) after trace pulled.1

  -- ---- a line

  module _ (before after : SessionState) (trace : Trace) where
    abbrev AsksTheRoute : Type 0
    AsksTheRoute = AreOfRoute trace.asks

    untouched : trace ≡ nothing → AsksTheRoute
    untouched none = none_asked trace.asks (ap (λ (t : Trace). t.asks) none)

    run_asked : (command : Command) (end : RunEnd) → RunTurn route.work command before.client.log end after.client.log trace → AsksTheRoute
    run_asked command (runs.NoJob fault) turn = untouched turn.2
    run_asked command runs.NotRun turn = none_asked trace.asks (ap (λ (t : Trace). t.asks) turn.2)
    run_asked command (runs.Logged seq status) turn = none_asked trace.asks (ap (λ (t : Trace). t.asks) turn.3)
    run_asked command (runs.Nothing status) turn = none_asked trace.asks (ap (λ (t : Trace). t.asks) turn.3)
    run_asked command (runs.OddTree i) turn = none_asked trace.asks (ap (λ (t : Trace). t.asks) turn.3)
    run_asked command (runs.Clash path) turn = none_asked trace.asks (ap (λ (t : Trace). t.asks) turn.3)
    run_asked command (runs.Refused refusal) turn = none_asked trace.asks (ap (λ (t : Trace). t.asks) turn.3)
    run_asked command runs.Memory turn = none_asked trace.asks (ap (λ (t : Trace). t.asks) turn.3)

    local_asked : (effect : Effect) (result : Result ℕ LogError) → LocalTurn (effect ∷ []) before.client.log result after.client.log trace → AsksTheRoute
    local_asked effect (Ok number) turn = none_asked trace.asks (ap (λ (t : Trace). t.asks) turn.2)
    local_asked effect (Err refusal) turn = none_asked trace.asks (ap (λ (t : Trace). t.asks) turn.2)

    log_asked : (named : Result Effect _) (answer : Option LineAnswer) → LogTurn named before answer after trace → AsksTheRoute
    log_asked (Ok effect) answer turn = local_asked effect turn.0 turn.1
    log_asked (Err refusal) answer turn = untouched turn.2

    command_asked : (made : Result Command CaptureError) (answer : Option LineAnswer) → CommandTurn route made before answer after trace → AsksTheRoute
    command_asked (Ok command) answer turn = run_asked command turn.0 turn.1
    command_asked (Err refusal) answer turn = untouched turn.2

    line_asked : (line : Result Line LineError) (answer : Option LineAnswer) → LineTurn route before line answer after trace → AsksTheRoute
    line_asked (Err refusal) answer turn = untouched turn.2
    line_asked (Ok lines.Empty) answer turn = untouched turn.2
    line_asked (Ok (lines.Put word text)) answer turn = log_asked (put_effect before.folder word text) answer turn
    line_asked (Ok (lines.Make word)) answer turn = log_asked (make_effect before.folder word) answer turn
    line_asked (Ok (lines.Remove word)) answer turn = log_asked (remove_effect before.folder word) answer turn
    line_asked (Ok (lines.Move from to)) answer turn = log_asked (move_effect before.folder from to) answer turn
    line_asked (Ok (lines.Cat word)) answer turn = untouched turn.2
    line_asked (Ok (lines.List word)) answer turn = untouched turn.2
    line_asked (Ok (lines.Enter word)) answer turn = untouched turn.2
    line_asked (Ok (lines.Run words)) answer turn = command_asked (capture words before.folder) answer turn
    line_asked (Ok lines.Status) answer turn = untouched turn.2
    line_asked (Ok lines.Sync) answer turn = sync_asked before.client.number before.client.log turn.0 after.client.log trace turn.1
    line_asked (Ok lines.Pull) answer turn = pull_asked before.client.number before.client.log turn.0 after.client.log trace turn.1
    line_asked (Ok lines.Quit) answer turn = untouched turn.2

    command_broken : (made : Result Command CaptureError) → BreaksCommand route made before.client.log after.client.log trace → AsksTheRoute
    command_broken (Ok command) breaks = ⊎_elim (λ none. untouched none) (λ ran. none_asked trace.asks (ap (λ (t : Trace). t.asks) ran.2)) breaks.0
    command_broken (Err refusal) breaks = absurd breaks

    breaks_off : (line : Result Line LineError) → BreaksOff route before line after.client.log trace → AsksTheRoute
    breaks_off (Err refusal) breaks = absurd breaks
    breaks_off (Ok lines.Empty) breaks = absurd breaks
    breaks_off (Ok (lines.Put word text)) breaks = absurd breaks
    breaks_off (Ok (lines.Make word)) breaks = absurd breaks
    breaks_off (Ok (lines.Remove word)) breaks = absurd breaks
    breaks_off (Ok (lines.Move from to)) breaks = absurd breaks
    breaks_off (Ok (lines.Cat word)) breaks = absurd breaks
    breaks_off (Ok (lines.List word)) breaks = absurd breaks
    breaks_off (Ok (lines.Enter word)) breaks = absurd breaks
    breaks_off (Ok (lines.Run words)) breaks = command_broken (capture words before.folder) breaks
    breaks_off (Ok lines.Status) breaks = absurd breaks
    breaks_off (Ok lines.Sync) breaks = sync_broken before.client.number before.client.log after.client.log trace breaks
    breaks_off (Ok lines.Pull) breaks = pull_broken before.client.number before.client.log after.client.log trace breaks
    breaks_off (Ok lines.Quit) breaks = absurd breaks

    broken_asked : (line : Result Line LineError) → Broken route before line after trace → AsksTheRoute
    broken_asked line broken = ⊎_elim (λ none. untouched none.1) (λ some. ⊎_elim (λ whole. line_asked line whole.0 whole.1) (λ breaks. breaks_off line breaks.0) some) broken

-- ---- a session

pub asks_are_of_the_route : AsksAreOfTheRoute
asks_are_of_the_route route before [] answers after trace ask chain among = untouched route before after trace chain.2 ask among
asks_are_of_the_route route before (line ∷ asked) answers after trace ask chain among =
    let first : Trace = chain.1 in
    let rest : Trace = chain.2 in
    ⊎_elim (λ earlier. line_asked route before chain.0 first line chain.3 chain.5 ask earlier)
    (λ later. asks_are_of_the_route route chain.0 asked chain.4 after rest ask chain.6 later)
    (in_either ask first.asks rest.asks (subst (λ (t : Trace). IsIn ask t.asks) chain.8 among))

pub broken_sessions_ask_the_route : BrokenSessionsAskTheRoute
broken_sessions_ask_the_route route before asked answers after kept trace ask breaks among =
    let handled : List (Result Line LineError) = breaks.0 in
    let middle : SessionState = breaks.2 in
    let earlier : Trace = breaks.3 in
    let broken : Trace = breaks.4 in
    ⊎_elim (λ first. asks_are_of_the_route route before handled answers middle earlier ask breaks.6 first)
    (λ last. broken_asked route middle after broken breaks.1 breaks.7 ask last)
    (in_either ask earlier.asks broken.asks (subst (λ (t : Trace). IsIn ask t.asks) breaks.9 among))
