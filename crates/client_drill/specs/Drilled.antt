-- What a drill leaves, and what is told of it.
use Rattle.std.specs.Prelude.{◌≡◌, ℕ, ◌+◌, ◌==◌, Bool, true, List, [], ◌∷◌, ◌++◌, length, fold, codes, Some, None, is_some, if◌then◌else◌}
use Rattle.std.specs.List.{flat_map, list_any, count_by}
use Rattle.outside.specs.Keeper.{Images}
use Rattle.tree_values.specs.Tree.{total_size}
use Rattle.rs_parity.specs.Sketches.{Distinct}
use Rattle.cmd_capture.specs.Runs.{telling}
use Rattle.mod_log.specs.declared.log.Entry.{Entry}
use Rattle.mod_log.specs.Log.{Log, new_log}
use Rattle.wire_frames.specs.declared.message.Message.{Message}
use Rattle.wire_frames.specs.declared.message.Message.TheVariants.{Done}
use Rattle.world_rules.specs.Served.{new_served}
use Rattle.server_core.specs.Holding.{served}
use Rattle.mem_wires.specs.Wire.{world_of, new_world}
use Rattle.mem_net.specs.declared.parts.NetworkParts.{NetworkParts}
use Rattle.mem_net.specs.Drill.{InDrill}
use Rattle.shell_lang.specs.Faults.{number}
use Rattle.shell_lang.specs.Texts.{text_of}
use Rattle.shell_lang.specs.declared.answer.LineAnswer.TheVariants.{Status}
use Rattle.client_core.specs.declared.route.Route.{Route}
use Rattle.client_session.specs.Contents.{IsOfPackets}
use Rattle.client_lines.specs.Headline.{Around, Ran}
use Rattle.client_lines.specs.Contents.{IsSketchable}
use Rattle.client_drill.specs.declared.session.Worked.{Worked}
use Rattle.client_drill.specs.declared.summary.Summary.{Summary}
use Rattle.client_drill.specs.Drill.{script, drill_fates, jobs_upto}

-- ---- what is told

-- a line of a number behind a word
abbrev pub one_line : List ℕ → ℕ → List ℕ
one_line word n = word ++ (number n ++ 10 ∷ [])

-- a line of two numbers, each behind its word
abbrev pub pair_line : List ℕ → ℕ → List ℕ → ℕ → List ℕ
pair_line word n other m = word ++ (number n ++ one_line other m)

-- the words of the drill, the entries that were logged, the last line of the session, the jobs that its lines run and the entries that the
-- surrogate did, the troubles of the network, and the rows of the server with the bytes of their files
abbrev pub summary_text : ℕ → ℕ → Summary → List ℕ
summary_text seed count summary =
    pair_line (codes "drill") seed [] count
    ++ (one_line (codes "logged") summary.worked.logged
    ++ (text_of (Status summary.worked.acked summary.worked.pending)
    ++ (pair_line (codes "commands") summary.commands (codes " done") summary.done
    ++ (one_line (codes "troubles") summary.troubles
    ++ pair_line (codes "rows") summary.rows (codes " bytes") summary.bytes))))

-- ---- what is counted

-- whether a command made the entry
abbrev pub was_run : Entry → Bool
was_run entry = is_some entry.origin

-- the number of the entry that a message says to be done
abbrev pub done_in : Message → List ℕ
done_in (Done client number) = number ∷ []
done_in message = []

-- a number behind others, unless it is one of them
abbrev pub with_number : List ℕ → ℕ → List ℕ
with_number ns n = if list_any (λ m. m == n) ns then ns else ns ++ n ∷ []

-- each number once, where it comes first
abbrev pub each_once : List ℕ → List ℕ
each_once ns = fold with_number [] ns

-- the entries that packets say to be done, each once
abbrev pub done_among : List Message → List ℕ
done_among packets = each_once (flat_map done_in packets)

-- ---- the drill

-- where the image, the peers and the commands of a drill are
abbrev pub drill_route : Route
drill_route = record { image = codes "drill"; server = codes "srv"; surrogate = Some (codes "sur"); work = codes "work" }

-- what its objects tell: an input and an output in memory, what is kept, a runner and a network
abbrev pub drill_around : List ℕ → List ℕ → Images → InDrill → NetworkParts InDrill → Around
drill_around left written images runner net = record {
  left = Some left;
  written = Some written;
  images = Some images;
  runner = telling (Some runner.runs) 0;
  link = record { world = Some (world_of net.wires); troubles = net.wires.troubles };
}

-- nothing is kept
abbrev pub no_images : Images
no_images name = None

-- a runner that was given nothing to run, of the client or far from it
abbrev pub new_runner : Bool → InDrill
new_runner far = record { far = far; runs = []; calls = 0 }

-- the network is as it is made for client 1, with a new server, a new surrogate with a new far runner, and the fates of a drill
pub record IsDrillNet (seed count : ℕ) (net : NetworkParts InDrill) : Type 0 where
  pub world : world_of net.wires ≡ new_world 1 new_served
  pub fates : net.wires.fates ≡ drill_fates seed count
  pub troubles : net.wires.troubles ≡ 0
  pub copy : net.surrogate.copy ≡ []
  pub runner : net.runner ≡ new_runner true

-- what a session came to that began with a new log, by its log at the end
abbrev pub worked_of : Log → Worked
worked_of log = record { logged = log.acked + length log.pending; acked = log.acked; pending = length log.pending }

-- The session of a new client 1 over these lines, this runner and this network ended well, and came to this: so many entries were logged,
-- of which so many are acknowledged and so many pending then.
pub record WorksOff (lines : List ℕ) (runner runner_now : InDrill) (net net_now : NetworkParts InDrill) (worked : Worked) : Type 0 where
  pub left : List ℕ
  pub written : List ℕ
  pub images : Images
  pub ran : Ran 1 drill_route new_log (drill_around lines [] no_images runner net)
      (drill_around left written images runner_now net_now) 0
  pub entries : worked.logged ≡ length ran.goes.trace.entries
  pub worked_is : worked ≡ worked_of ran.after.client.log

-- Each step logged an entry, as did the two lines that make folders; those that are acknowledged and those that are pending add up to them;
-- and the steps run so many jobs.
pub record IsTallied (seed count : ℕ) (summary : Summary) : Type 0 where
  pub logged : summary.worked.logged ≡ count + 2
  pub all : summary.worked.acked + summary.worked.pending ≡ summary.worked.logged
  pub commands : summary.commands ≡ jobs_upto seed count

-- The lines of a drill were so worked off, and these are the numbers of that session, of its entries that a command made, and of the
-- packets, the troubles and the served state of its network. Where no content that an operation may stand for has the print of another
-- one among the packets, nothing is pending.
pub record Drilled (seed count : ℕ) (runner runner_now : InDrill) (net net_now : NetworkParts InDrill) (summary : Summary) : Type 0 where
  pub worked : WorksOff (script seed count) runner runner_now net net_now summary.worked
  pub counted : IsTallied seed count summary
  pub commands : summary.commands ≡ count_by was_run worked.ran.goes.trace.entries
  pub done : summary.done ≡ length (done_among net_now.wires.packets)
  pub troubles : summary.troubles ≡ net_now.wires.troubles
  pub rows : summary.rows ≡ length (served net_now.wires.server).volume
  pub bytes : summary.bytes ≡ total_size (served net_now.wires.server).volume
  pub complete : Distinct (IsSketchable [] worked.ran.goes.trace.runs) (IsOfPackets net_now.wires.packets) → summary.worked.pending ≡ 0
