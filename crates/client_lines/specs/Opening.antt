-- Opening what is kept of a client.
use Rattle.std.specs.Prelude.{◌≡◌, ℕ, List, Some, None, Result, Ok, Err}
use Rattle.outside.specs.declared.errors.KeepError.{KeepError}
use Rattle.outside.specs.declared.errors.KeepError.TheVariants as keepers
use Rattle.mod_log.specs.Log.{Log}
use Rattle.store_image.specs.Image.{Keeps}
use Rattle.client_core.specs.Client.{Client}
use Rattle.client_lines.specs.declared.opening.Unopened.{Unopened}
use Rattle.client_lines.specs.declared.opening.Unopened.TheVariants.{Keeper, Image, Memory}

-- why nothing was opened where a load was refused
abbrev pub unopened_by : KeepError → Unopened
unopened_by keepers.Failed = Keeper
unopened_by keepers.Memory = Memory

-- the status of a run that has no client to begin with
abbrev pub status_unopened : Unopened → ℕ
status_unopened Keeper = 5
status_unopened Image = 6
status_unopened Memory = 7

-- Bytes are kept for the client that is opened, and for no other of its number; or for none of it. Want of memory is free, and no
-- keeper is asked.
abbrev pub OpensBytes : ℕ → List ℕ → Result Client Unopened → Type 0
OpensBytes number bytes (Ok client) =
    (client.number ≡ number) × (client.journal ≡ None) × Keeps (Some bytes) number client.log
    × ((start : Log) → Keeps (Some bytes) number start → client.log ≡ start)
OpensBytes number bytes (Err Image) = (start : Log) → Keeps (Some bytes) number start → ⊥
OpensBytes number bytes (Err Memory) = Unit {0}
OpensBytes number bytes (Err Keeper) = ⊥
