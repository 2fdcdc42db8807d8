-- How a network in memory begins, and how a stop leaves it.
use Rattle.std.specs.Prelude.{◌≡◌, ◌≢◌, ℕ, ◌≤◌, true, List, Vec, Result, Err}
use Rattle.std.specs.declared.alloc.Global.{Global}
use Rattle.wire_frames.specs.declared.message.Message.{Message}
use Rattle.wire_frames.specs.Limits.{max_client}
use Rattle.mod_log.specs.Log.{new_log}
use Rattle.world_rules.specs.declared.asking.Peer.{Peer}
use Rattle.world_rules.specs.declared.asking.Answer.TheVariants.{Failed}
use Rattle.world_rules.specs.declared.link.LinkError.{LinkError}
use Rattle.world_rules.specs.declared.link.LinkError.TheVariants.{Failed as LinkFailed, Memory as LinkMemory}
use Rattle.world_rules.specs.Served.{Served, IsServed}
use Rattle.world_rules.specs.World.{sent}
use Rattle.world_rules.specs.InStep.{InStep}
use Rattle.mem_wires.specs.Wire.{new_world}
use Rattle.mem_wires.specs.Fates.{is_stopped, answered, one_more}
use Rattle.mem_net.specs.Scenes.{Scene, IsMet, with_world, with_troubles}

-- A client's new log is in step with the world of a network whose server has taken nothing of the client.
abbrev pub NewNetworksAreInStep : Type 0
NewNetworksAreInStep = (client : ℕ) (opening : Served)
    → 1 ≤ client → client ≤ max_client → IsServed opening → opening.last client ≡ 0
    → InStep client new_log (new_world client opening)

-- Unless memory runs out, an ask of a network whose first fate is a stop fails, and counts a trouble. It is noted as sent and failed, and
-- nothing else changes: the stop stays, and neither server nor surrogate nor runner does anything.
abbrev pub StopsStay : Type 0
StopsStay = (to : Peer) (address : List ℕ) (request : Message) (old new : Scene) (result : Result (Vec ℕ Global) LinkError)
    → is_stopped old.fates ≡ true → IsMet to address request old new result → result ≢ Err LinkMemory
    → (result ≡ Err LinkFailed)
    × (new ≡ with_troubles (one_more old.troubles) (with_world (answered to address request Failed (sent request old.world)) old))
