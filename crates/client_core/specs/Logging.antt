-- Local effects: they are logged as one entry of their own, or refused.
use Rattle.std.specs.Prelude.{◌≡◌, ℕ, List, None, Result, Ok, Err}
use Rattle.tree_values.specs.declared.node.Effect.{Effect}
use Rattle.mod_log.specs.declared.log.Entry.{Entry}
use Rattle.mod_log.specs.declared.log.LogError.{LogError}
use Rattle.mod_log.specs.Log.{Log}
use Rattle.mod_log.specs.Append.{next_entry, appended}
use Rattle.client_core.specs.Trace.{Trace, nothing, logging}

-- the entry that local effects make: no command made it
abbrev pub local_entry : List Effect → Log → Entry
local_entry effects log = next_entry None effects log

-- the effects are logged as the next entry, whose number is the answer, or they are refused as the log refuses them
abbrev pub LocalTurn : List Effect → Log → Result ℕ LogError → Log → Trace → Type 0
LocalTurn effects before (Ok number) after trace =
    (appended None effects before ≡ Ok after) × (number ≡ (local_entry effects before).seq)
    × (trace ≡ logging (local_entry effects before) after)
LocalTurn effects before (Err refusal) after trace =
    (appended None effects before ≡ Err refusal) × (after ≡ before) × (trace ≡ nothing)
