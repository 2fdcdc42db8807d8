-- What holds of every session.
use Rattle.std.specs.Prelude.{◌≡◌, ◌⊎◌, ℕ, ◌+◌, ◌*◌, ◌<◌, ◌≤◌, length, List, [], ◌∷◌, ◌++◌, map, Option, Some, Result}
use Rattle.std.specs.List.{count_by}
use Rattle.tree_values.specs.Lists.{IsIn}
use Rattle.tree_values.specs.Tree.{Volume}
use Rattle.mod_log.specs.declared.log.Entry.{Entry}
use Rattle.mod_log.specs.declared.sketching.SketchEntry.{SketchEntry}
use Rattle.mod_log.specs.Log.{Log, IsLog, logged, pulled}
use Rattle.wire_frames.specs.declared.message.Message.TheVariants.{Operate, Done}
use Rattle.wire_frames.specs.Frame.{number_of}
use Rattle.world_rules.specs.declared.asking.Ask.{Ask}
use Rattle.world_rules.specs.declared.asking.Answer.TheVariants.{Reply}
use Rattle.world_rules.specs.declared.asking.Peer.TheVariants.{Server, Surrogate}
use Rattle.world_rules.specs.Asking.{ask_of}
use Rattle.world_rules.specs.Settling.{max_asks, failed_asks}
use Rattle.client_core.specs.declared.route.Route.{Route}
use Rattle.client_core.specs.Trace.{Trace, followed}
use Rattle.client_core.specs.Causes.{AcknowledgesSome}
use Rattle.client_core.specs.Syncing.{IsLight}
use Rattle.client_core.specs.Licence.{Carries, AreLicensed}
use Rattle.shell_lang.specs.declared.line.Line.{Line}
use Rattle.shell_lang.specs.declared.line.LineError.{LineError}
use Rattle.shell_lang.specs.declared.answer.LineAnswer.{LineAnswer}
use Rattle.client_session.specs.Causes.{asks_to_run}
use Rattle.client_session.specs.Session.{SessionState, LineTurn, Broken, Chain, BreaksChain, is_unrun, is_unanswered}

-- one entry with the next number is logged, one or more of the first pending ones are acknowledged, or the base is replaced by a pull
abbrev pub IsChange : Log → Log → Type 0
IsChange before after =
    ((entry : Entry) × (entry.seq ≡ before.acked + length before.pending + 1) × (after ≡ logged entry before))
    ⊎ (AcknowledgesSome before after × (before.acked < after.acked)) ⊎ ((seen : Volume) × (after ≡ pulled seen before))

-- each of these logs is a change of the one before it, and the last of them is this log
abbrev pub ChangesLeadTo : Log → List Log → Log → Type 0
ChangesLeadTo before [] after = after ≡ before
ChangesLeadTo before (change ∷ changes) after = IsChange before change × ChangesLeadTo change changes after

-- What a session changes of the log are such changes, one after the other, and its log is what they lead to.
abbrev pub SessionsChangeSo : Type 0
SessionsChangeSo = (route : Route) (before : SessionState) (lines : List (Result Line LineError))
    (answers : List (Option LineAnswer)) (after : SessionState) (trace : Trace)
    → Chain route before lines answers after trace → ChangesLeadTo before.client.log trace.changes after.client.log

-- Its lines, its asks, its runs and which lines were not run make a session: from one state on they leave only one way to answer, to
-- log and to change.
abbrev pub AsksAndRunsMakeSessions : Type 0
AsksAndRunsMakeSessions = (route : Route) (before : SessionState) (lines : List (Result Line LineError))
    (xs ys : List (Option LineAnswer)) (a b : SessionState) (p q : Trace)
    → Chain route before lines xs a p → Chain route before lines ys b q → p.asks ≡ q.asks → p.runs ≡ q.runs
    → map is_unrun xs ≡ map is_unrun ys → (xs ≡ ys) × (a ≡ b) × (p ≡ q)

-- The lines that were answered `not run` are as many as the runs that failed.
abbrev pub UnrunLinesAreCounted : Type 0
UnrunLinesAreCounted = (route : Route) (before : SessionState) (lines : List (Result Line LineError))
    (answers : List (Option LineAnswer)) (after : SessionState) (trace : Trace)
    → Chain route before lines answers after trace → count_by is_unrun answers ≡ trace.missed

-- Each sync and each pull that is answered `unanswered` cost eight asks that failed.
abbrev pub UnansweredLinesCostAsks : Type 0
UnansweredLinesCostAsks = (route : Route) (before : SessionState) (lines : List (Result Line LineError))
    (answers : List (Option LineAnswer)) (after : SessionState) (trace : Trace)
    → Chain route before lines answers after trace → max_asks * count_by is_unanswered answers ≤ failed_asks trace.asks

-- Each run, failed ones too, is of a line `run`, and no line has two.
abbrev pub LinesRunOnce : Type 0
LinesRunOnce = (route : Route) (before : SessionState) (lines : List (Result Line LineError)) (answers : List (Option LineAnswer))
    (after : SessionState) (trace : Trace)
    → Chain route before lines answers after trace → length trace.runs + trace.missed ≤ count_by asks_to_run lines

-- the ask is of a peer of the route: of the server at its address, or of the surrogate at its address, where there is one
abbrev pub IsOfRoute : Route → Ask → Type 0
IsOfRoute route ask = ((ask.to ≡ Server) × (ask.address ≡ route.server)) ⊎ ((ask.to ≡ Surrogate) × (route.surrogate ≡ Some ask.address))

-- Each ask of a session is of a peer of its route.
abbrev pub AsksAreOfTheRoute : Type 0
AsksAreOfTheRoute = (route : Route) (before : SessionState) (lines : List (Result Line LineError))
    (answers : List (Option LineAnswer)) (after : SessionState) (trace : Trace) (ask : Ask)
    → Chain route before lines answers after trace → IsIn ask trace.asks → IsOfRoute route ask

-- And so is each of a session whose last line was broken off.
abbrev pub BrokenSessionsAskTheRoute : Type 0
BrokenSessionsAskTheRoute = (route : Route) (before : SessionState) (lines : List (Result Line LineError))
    (answers : List (Option LineAnswer)) (after : SessionState) (kept : Log) (trace : Trace) (ask : Ask)
    → BreaksChain route before lines answers after kept trace → IsIn ask trace.asks → IsOfRoute route ask

-- ---- the licence of an ask

-- Where the operation of one of these entries was answered by Done, each ask of that entry, and each that carries it, is of its operation.
abbrev pub CostsItsOperation : ℕ → Route → List Entry → List Ask → Type 0
CostsItsOperation client route entries asks = (entry : Entry) (address : List ℕ) (sketched : SketchEntry) → IsIn entry entries
    → IsLight client route entry address sketched
    → IsIn (ask_of Surrogate address (Operate client sketched) (Reply (Done client entry.seq))) asks
    → (ask : Ask) → IsIn ask asks → (number_of ask.request ≡ entry.seq) ⊎ Carries entry.seq ask.request
    → ask.request ≡ Operate client sketched

-- What one line asks while these entries are pending: a store that carries a light entry only once that entry's operation was not done on
-- this line, and nothing but its operation of an entry that is done so.
pub record IsLicensedTurn (client : ℕ) (route : Route) (entries : List Entry) (asks : List Ask) : Type 0 where
  pub licensed : AreLicensed client route entries [] asks
  pub costs : CostsItsOperation client route entries asks

-- In a session that began with a log, a store that carries a light entry, one that was pending when it began or that it logged, is asked
-- only once that entry's operation was not done in it, and the entry is its first one.
abbrev pub SessionsAreLicensed : Type 0
SessionsAreLicensed = (route : Route) (before : SessionState) (lines : List (Result Line LineError))
    (answers : List (Option LineAnswer)) (after : SessionState) (trace : Trace) → IsLog before.client.log
    → Chain route before lines answers after trace
    → AreLicensed before.client.number route (before.client.log.pending ++ trace.entries) [] trace.asks

-- And so in one whose last line was broken off.
abbrev pub BrokenSessionsAreLicensed : Type 0
BrokenSessionsAreLicensed = (route : Route) (before : SessionState) (lines : List (Result Line LineError))
    (answers : List (Option LineAnswer)) (after : SessionState) (kept : Log) (trace : Trace) → IsLog before.client.log
    → BreaksChain route before lines answers after kept trace
    → AreLicensed before.client.number route (before.client.log.pending ++ trace.entries) [] trace.asks

-- ---- the line of an ask

-- The ask is of the turn of one of these lines, in a state that the session reached with the lines before it. It stands in the trace behind
-- the turns before it and before those behind it. Where the session began with a log, the turn is licensed.
pub record IsOfTurn (route : Route) (start : SessionState) (lines : List (Result Line LineError)) (trace : Trace) (ask : Ask) : Type 0
  where
    pub done : List (Result Line LineError)
    pub line : Result Line LineError
    pub later : List (Result Line LineError)
    pub among : lines ≡ done ++ line ∷ later
    pub told : List (Option LineAnswer)
    pub before : SessionState
    pub front : Trace
    pub reached : Chain route start done told before front
    pub after : SessionState
    pub answer : Option LineAnswer
    pub turn : Trace
    pub back : Trace
    pub turns : LineTurn route before line answer after turn
    pub asked : IsIn ask turn.asks
    pub parts : trace ≡ followed front (followed turn back)
    pub licensed : IsLog start.client.log → IsLicensedTurn start.client.number route before.client.log.pending turn.asks

-- The ask is of a line that was broken off at the end of the trace, the last of these lines.
pub record IsOfBrokenTurn (route : Route) (start : SessionState) (lines : List (Result Line LineError)) (trace : Trace) (ask : Ask) :
    Type 0 where
  pub done : List (Result Line LineError)
  pub line : Result Line LineError
  pub among : lines ≡ done ++ line ∷ []
  pub told : List (Option LineAnswer)
  pub before : SessionState
  pub front : Trace
  pub reached : Chain route start done told before front
  pub after : SessionState
  pub turn : Trace
  pub breaks : Broken route before line after turn
  pub asked : IsIn ask turn.asks
  pub parts : trace ≡ followed front turn
  pub licensed : IsLog start.client.log → IsLicensedTurn start.client.number route before.client.log.pending turn.asks

-- Each ask of a session is of the turn of one of its lines, in a state that it reached. So what is said of each ask of a sync is said of
-- each ask of a session.
abbrev pub AsksAreOfTurns : Type 0
AsksAreOfTurns = (route : Route) (before : SessionState) (lines : List (Result Line LineError))
    (answers : List (Option LineAnswer)) (after : SessionState) (trace : Trace) (ask : Ask)
    → Chain route before lines answers after trace → IsIn ask trace.asks → IsOfTurn route before lines trace ask

-- And each of a session whose last line was broken off is of such a turn, or of that line.
abbrev pub BrokenSessionsAskInTurns : Type 0
BrokenSessionsAskInTurns = (route : Route) (before : SessionState) (lines : List (Result Line LineError))
    (answers : List (Option LineAnswer)) (after : SessionState) (kept : Log) (trace : Trace) (ask : Ask)
    → BreaksChain route before lines answers after kept trace → IsIn ask trace.asks
    → IsOfTurn route before lines trace ask ⊎ IsOfBrokenTurn route before lines trace ask
