-- What may happen where some messages may be sent may happen where more may.
use Rattle.std.proofs.Common.{List, [], ◌∷◌}
use Rattle.wire_frames.specs.declared.message.Message.{Message}
use Rattle.world_rules.specs.declared.asking.Ask.{Ask}
use Rattle.world_rules.specs.World.{World, Step, Send, Deliver, Other, Relay, happens, IsAllowed, AreAllowed, MovedBy}

pub allowed_as : (P Q : Message → Type 0) → ((m : Message) → P m → Q m) → (step : Step) (world : World) → IsAllowed P world step → IsAllowed Q world step
allowed_as P Q also (Send m) world may = also m may
allowed_as P Q also (Deliver m joins) world may = may
allowed_as P Q also (Other m) world may = may
allowed_as P Q also (Relay m) world may = may

pub all_allowed_as : (P Q : Message → Type 0) → ((m : Message) → P m → Q m) → (steps : List Step) (world : World) → AreAllowed P world steps → AreAllowed Q world steps
all_allowed_as P Q also [] world may = tt
all_allowed_as P Q also (step ∷ steps) world may = (allowed_as P Q also step world may.0, all_allowed_as P Q also steps (happens step world) may.1)

pub moved_as : (P Q : Message → Type 0) → ((m : Message) → P m → Q m) → (made : List Ask) (old new : World) → MovedBy P made old new → MovedBy Q made old new
moved_as P Q also made old new moved = record { steps = moved.steps; allowed = all_allowed_as P Q also moved.steps old moved.allowed; result = moved.result }
