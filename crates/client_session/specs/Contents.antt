-- The contents of a session and of the packets. Where no two of these are taken for one another, none that is shipped is.
use Rattle.std.specs.Prelude.{◌≡◌, ◌⊎◌, ℕ, Bool, List, ◌++◌, Option, Some, Result, Ok}
use Rattle.rs_parity.specs.Sketches.{Distinct}
use Rattle.tree_values.specs.Lists.{IsIn}
use Rattle.tree_values.specs.declared.node.Node.{Node}
use Rattle.tree_values.specs.declared.node.Node.TheVariants.{File}
use Rattle.tree_values.specs.declared.node.Row.{Row}
use Rattle.cmd_capture.specs.declared.job.RawRow.{RawRow}
use Rattle.cmd_capture.specs.declared.runner.Run.{Run}
use Rattle.mod_log.specs.declared.log.Entry.{Entry}
use Rattle.mod_log.specs.Log.{Log}
use Rattle.mod_log.specs.Sketched.{WritesContent}
use Rattle.wire_frames.specs.declared.parts.Part.{Part}
use Rattle.wire_frames.specs.declared.message.Message.{Message}
use Rattle.wire_frames.specs.declared.message.Message.TheVariants.{Store, Snapshot}
use Rattle.world_rules.specs.InStep.{HasNoCollision}
use Rattle.client_core.specs.declared.route.Route.{Route}
use Rattle.client_core.specs.Trace.{Trace}
use Rattle.shell_lang.specs.Commands.{put_content}
use Rattle.shell_lang.specs.declared.line.Line.{Line}
use Rattle.shell_lang.specs.declared.line.Line.TheVariants.{Put}
use Rattle.shell_lang.specs.declared.line.LineError.{LineError}
use Rattle.shell_lang.specs.declared.answer.LineAnswer.{LineAnswer}
use Rattle.client_session.specs.Session.{SessionState, Chain, BreaksChain}

-- one of the entries writes this content
abbrev pub IsOfEntries : List Entry → List ℕ → Type 0
IsOfEntries entries content = (entry : Entry) × IsIn entry entries × WritesContent entry.effects content

-- one of the lines puts a text that is this content with its line end
abbrev pub IsOfLines : List (Result Line LineError) → List ℕ → Type 0
IsOfLines lines content = (word text : List ℕ) × IsIn (Ok (Put word text)) lines × (content ≡ put_content text)

-- it is a file with this content, which may be run or not
abbrev pub IsFileOf : List ℕ → Option Node → Type 0
IsFileOf content node = (exec : Bool) × (node ≡ Some (File content exec))

-- one of the runs left a file with this content
abbrev pub IsOfRuns : List Run → List ℕ → Type 0
IsOfRuns runs content = (run : Run) × (row : RawRow) × IsIn run runs × IsIn row run.outcome.rows × IsFileOf content (Some row.node)

-- A content of a session: of an entry that was pending at its start, of a line that puts a text, or of a file that a run left.
abbrev pub IsOfTheRun : List Entry → List (Result Line LineError) → List Run → List ℕ → Type 0
IsOfTheRun pending lines runs content = IsOfEntries pending content ⊎ IsOfLines lines content ⊎ IsOfRuns runs content

-- the message has this content: a store what the effects of its parts write, a snapshot what its files have
abbrev pub HasContent : Message → List ℕ → Type 0
HasContent (Store client number parts) content = (part : Part) × IsIn part parts × WritesContent part.effects content
HasContent (Snapshot client number last rows) content = (row : Row) × IsIn row rows × IsFileOf content row.node
HasContent message content = ⊥

-- one of the packets has this content
abbrev pub IsOfPackets : List Message → List ℕ → Type 0
IsOfPackets packets content = (message : Message) × IsIn message packets × HasContent message content

-- Where a content of a session and one of the packets that have one print are equal, no content that the client may ship as an operation
-- is taken for another. For an entry of a command that was not pending before writes only what its run left.
abbrev pub DistinctContentsDoNotCollide : Type 0
DistinctContentsDoNotCollide = (client : ℕ) (route : Route) (before : SessionState) (lines : List (Result Line LineError))
    (answers : List (Option LineAnswer)) (after : SessionState) (trace : Trace) (packets : List Message)
    → Chain route before lines answers after trace
    → Distinct (IsOfTheRun before.client.log.pending lines trace.runs) (IsOfPackets packets)
    → HasNoCollision client (before.client.log.pending ++ trace.entries) packets

-- And so it is of a session whose last line was broken off.
abbrev pub BrokenSessionsDoNotCollide : Type 0
BrokenSessionsDoNotCollide = (client : ℕ) (route : Route) (before : SessionState) (lines : List (Result Line LineError))
    (answers : List (Option LineAnswer)) (after : SessionState) (kept : Log) (trace : Trace) (packets : List Message)
    → BreaksChain route before lines answers after kept trace
    → Distinct (IsOfTheRun before.client.log.pending lines trace.runs) (IsOfPackets packets)
    → HasNoCollision client (before.client.log.pending ++ trace.entries) packets
