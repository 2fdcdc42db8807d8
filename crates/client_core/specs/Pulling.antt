-- A pull: where nothing is pending, the server's rows become the client's base.
use Rattle.std.specs.Prelude.{◌≡◌, ◌≢◌, ◌⊎◌, ℕ, ◌<◌, ◌≤◌, Bool, true, false, List, [], ◌∷◌, length, None, Some, Result, Ok, Err}
use Rattle.std.specs.declared.cmp.Ordering.TheVariants.{Less}
use Rattle.outside.specs.declared.errors.KeepError.{KeepError}
use Rattle.outside.specs.declared.errors.KeepError.TheVariants as keepers
use Rattle.file_paths.specs.Path.{FilePath, path_cmp}
use Rattle.tree_values.specs.Tree.{Volume, version_at}
use Rattle.mod_log.specs.Log.{Log, new_log, pulled}
use Rattle.wire_frames.specs.declared.message.Message.{Message}
use Rattle.wire_frames.specs.declared.message.Message.TheVariants.{Pull, Snapshot}
use Rattle.world_rules.specs.declared.asking.Peer.TheVariants.{Server}
use Rattle.world_rules.specs.declared.asking.Ask.{Ask}
use Rattle.world_rules.specs.Settling.{IsSettling, BreaksSettling}
use Rattle.client_core.specs.declared.route.Route.{Route}
use Rattle.client_core.specs.declared.pulling.PullEnd.{PullEnd}
use Rattle.client_core.specs.declared.pulling.PullEnd.TheVariants.{Pulled, Pending, OtherLast, Older, Unanswered, KeepFault, Memory}
use Rattle.client_core.specs.Trace.{Trace, nothing, followed, asking, pulling}

-- the client's pull, which tells the number that it knows to be accepted
abbrev pub pull_of : ℕ → Log → Message
pull_of client log = Pull client log.acked

-- the seen rows have at each path at least the version that the base has
abbrev pub IsNowhereOlder : Volume → Volume → Type 0
IsNowhereOlder base seen = (path : FilePath) → version_at base path ≤ version_at seen path

-- the first path, in path order, at which the seen rows have a lower version than the base
pub record IsFirstOlder (base seen : Volume) (path : FilePath) : Type 0 where
  pub lower : version_at seen path < version_at base path
  pub first : (other : FilePath) → path_cmp other path ≡ Less → version_at base other ≤ version_at seen other

-- What a log with nothing pending makes of a snapshot: how the pull ends, and the log after it.
abbrev pub Meets : Log → ℕ → Volume → PullEnd → Log → Type 0
Meets before last seen (OtherLast other acked) after = (last ≢ before.acked) × (other ≡ last) × (acked ≡ before.acked) × (after ≡ before)
Meets before last seen (Older path theirs ours) after =
    (last ≡ before.acked) × IsFirstOlder before.base seen path × (theirs ≡ version_at seen path)
    × (ours ≡ version_at before.base path) × (after ≡ before)
Meets before last seen (Pulled count) after =
    (last ≡ before.acked) × IsNowhereOlder before.base seen × (count ≡ length seen) × (after ≡ pulled seen before)
Meets before last seen end after = ⊥

-- how a pull ends that took so many rows, by whether its log was kept
abbrev pub pulled_end : ℕ → Result (Unit {0}) KeepError → PullEnd
pulled_end count (Ok done) = Pulled count
pulled_end count (Err keepers.Failed) = KeepFault
pulled_end count (Err keepers.Memory) = Memory

-- The rows, versions too, are those of the base, and the client is kept already: its log is no new one, of which nothing may be kept.
abbrev pub IsKeptBase : Log → Volume → Type 0
IsKeptBase before seen = (seen ≡ before.base) × (before ≢ new_log)

-- the changes by a pull that met these rows: where it took them, and they are not kept already, they replaced the base
abbrev pub PullChanges : Log → Volume → PullEnd → Log → List Log → Type 0
PullChanges before seen (Pulled count) after changes =
    (IsKeptBase before seen × (changes ≡ [])) ⊎ ((IsKeptBase before seen → ⊥) × (changes ≡ after ∷ []))
PullChanges before seen end after changes = changes ≡ []

-- the settling of the pull, and what the log makes of the snapshot that came
pub record PullsSnapshot (client : ℕ) (route : Route) (before : Log) (end : PullEnd) (after : Log) (trace : Trace) : Type 0 where
  pub last : ℕ
  pub seen : Volume
  pub asks : List Ask
  pub idle : before.pending ≡ []
  pub settling : IsSettling Server route.server (pull_of client before) (Some (Snapshot client before.acked last seen)) asks
  pub met : Meets before last seen end after
  pub changes : List Log
  pub changed : PullChanges before seen end after changes
  pub trace_is : trace ≡ followed (asking asks) (pulling end changes)

-- Where entries are pending, nothing is asked. Else the pull is settled with the server: eight asks failed, or a snapshot came.
abbrev pub PullTurn : ℕ → Route → Log → PullEnd → Log → Trace → Type 0
PullTurn client route before (Pending count) after trace =
    (before.pending ≢ []) × (count ≡ length before.pending) × (after ≡ before) × (trace ≡ nothing)
PullTurn client route before Unanswered after trace =
    (before.pending ≡ []) × ((asks : List Ask) × IsSettling Server route.server (pull_of client before) None asks × (after ≡ before)
    × (trace ≡ asking asks))
PullTurn client route before end after trace = PullsSnapshot client route before end after trace

-- nothing is done, or the settling is broken off
abbrev pub BreaksAsking : ℕ → Route → Log → Log → Trace → Type 0
BreaksAsking client route before after trace =
    (asks : List Ask) × (before.pending ≡ []) × (after ≡ before) × BreaksSettling Server route.server (pull_of client before) asks
    × (trace ≡ asking asks)

-- it is broken off before it changed anything, or when the base was replaced and was to be kept
abbrev pub BreaksPull : ℕ → Route → Log → Log → Trace → Type 0
BreaksPull client route before after trace =
    BreaksAsking client route before after trace
    ⊎ ((count : ℕ) × (came : PullsSnapshot client route before (Pulled count) after trace) × (IsKeptBase before came.seen → ⊥))

-- whether a pull that ends so was broken off, since the keeping was refused or memory was wanted
abbrev pub is_broken_pull : PullEnd → Bool
is_broken_pull KeepFault = true
is_broken_pull Memory = true
is_broken_pull end = false

-- what a pull does before it keeps anything
abbrev pub PullAsks : ℕ → Route → Log → PullEnd → Log → Trace → Type 0
PullAsks client route before end after trace =
    PullTurn client route before end after trace ⊎ ((end ≡ Memory) × BreaksAsking client route before after trace)

-- a pull that ended and whose log is kept, or one that was broken off
abbrev pub PullEnds : ℕ → Route → Log → PullEnd → Log → Log → Trace → Type 0
PullEnds client route before end after kept trace =
    (PullTurn client route before end after trace × (kept ≡ after))
    ⊎ ((is_broken_pull end ≡ true) × BreaksPull client route before after trace)
