-- How the network of a drill begins.
use Rattle.std.specs.Prelude.{ℕ}
use Rattle.world_rules.specs.Served.{new_served}
use Rattle.mem_wires.specs.Wire.{new_world}
use Rattle.mem_net.specs.Handed.{IsByRule}
use Rattle.client_drill.specs.Drill.{drill_fates}

-- A network in which nothing was sent, and whose server is new, keeps the rule of networks that are handed on, where its fates are those of
-- a drill: of any four of them in a row one passes.
abbrev pub DrillsBeginByRule : Type 0
DrillsBeginByRule = (client seed count : ℕ) → IsByRule (new_world client new_served) (drill_fates seed count)
