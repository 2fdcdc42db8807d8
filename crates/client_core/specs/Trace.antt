-- What a call or a stretch of a session did.
use Rattle.std.specs.Prelude.{◌≡◌, ◌⊎◌, ℕ, ◌+◌, List, [], ◌∷◌, ◌++◌}
use Rattle.cmd_capture.specs.declared.runner.Run.{Run}
use Rattle.mod_log.specs.declared.log.Entry.{Entry}
use Rattle.mod_log.specs.Log.{Log}
use Rattle.world_rules.specs.declared.asking.Ask.{Ask}
use Rattle.client_core.specs.declared.pulling.PullEnd.{PullEnd}

-- Each in order: the asks that were made, the runs that a runner gave, the entries that were logged, the log after each change, and how
-- the pulls ended that met a snapshot. A change is one entry that is logged, one that is acknowledged, or one pull that replaced the
-- base.
pub record Trace : Type 0 where
  pub asks : List Ask
  pub runs : List Run
  -- how many runs failed
  pub missed : ℕ
  pub entries : List Entry
  pub changes : List Log
  pub pulls : List PullEnd

abbrev pub nothing : Trace
nothing = record { asks = []; runs = []; missed = 0; entries = []; changes = []; pulls = [] }

-- one trace, and then another
abbrev pub followed : Trace → Trace → Trace
followed earlier later = record {
  asks = earlier.asks ++ later.asks;
  runs = earlier.runs ++ later.runs;
  missed = earlier.missed + later.missed;
  entries = earlier.entries ++ later.entries;
  changes = earlier.changes ++ later.changes;
  pulls = earlier.pulls ++ later.pulls;
}

-- these asks, which change nothing
abbrev pub asking : List Ask → Trace
asking asks = record { asks = asks; runs = []; missed = 0; entries = []; changes = []; pulls = [] }

-- a change of the log to this one
abbrev pub changing : Log → Trace
changing after = record { asks = []; runs = []; missed = 0; entries = []; changes = after ∷ []; pulls = [] }

-- an entry that is logged, and the log then
abbrev pub logging : Entry → Log → Trace
logging entry after = record { asks = []; runs = []; missed = 0; entries = entry ∷ []; changes = after ∷ []; pulls = [] }

-- these runs, and so many that failed
abbrev pub running : List Run → ℕ → Trace
running runs missed = record { asks = []; runs = runs; missed = missed; entries = []; changes = []; pulls = [] }

-- a pull that ended so, with these changes of the log
abbrev pub pulling : PullEnd → List Log → Trace
pulling end changes = record { asks = []; runs = []; missed = 0; entries = []; changes = changes; pulls = end ∷ [] }

-- ---- the logs that changes lead to

-- the log after the last of these changes, and the one before them where there is none
abbrev pub last_log : Log → List Log → Log
last_log log [] = log
last_log log (change ∷ changes) = last_log change changes

-- the log before the last of these changes
abbrev pub log_before_last : Log → List Log → Log
log_before_last log [] = log
log_before_last log (change ∷ []) = log
log_before_last log (change ∷ next ∷ changes) = log_before_last change (next ∷ changes)

-- this is the log after the last change, or the one before that change
abbrev pub IsLastOrBefore : Log → List Log → Log → Type 0
IsLastOrBefore before changes log = (log ≡ last_log before changes) ⊎ (log ≡ log_before_last before changes)
