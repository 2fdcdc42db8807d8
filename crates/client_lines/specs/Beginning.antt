-- How a session begins.
use Rattle.std.specs.Prelude.{ℕ}
use Rattle.mod_log.specs.Log.{new_log}
use Rattle.world_rules.specs.World.{World}
use Rattle.world_rules.specs.InStep.{InStep}
use Rattle.client_core.specs.Goes.{IsNew}

-- A new client's log is in step with its world.
abbrev pub NewSessionsAreInStep : Type 0
NewSessionsAreInStep = (client : ℕ) (world : World) → IsNew client world → InStep client new_log world
