-- The reply that a settling came to.
use Rattle.std.proofs.Common.{ℕ, List, Option, Some, None, IfSome, subst}
use Rattle.tree_values.specs.Lists.{IsIn}
use Rattle.wire_frames.specs.declared.message.Message.{Message}
use Rattle.wire_frames.specs.Frame.{IsValid, Echoes}
use Rattle.world_rules.specs.declared.asking.Peer.{Peer}
use Rattle.world_rules.specs.declared.asking.Ask.{Ask}
use Rattle.world_rules.specs.World.{World}
use Rattle.world_rules.specs.Asking.{AnswersStand}
use Rattle.world_rules.specs.Settling.{failures, IsSettling}
use Rattle.world_rules.proofs.Asks.{answers_end}

-- where its answers stand, it was sent, is valid and echoes the request
pub settled_stands : (to : Peer) (address : List ℕ) (request : Message) (world : World) (came : Option Message) (asks : List Ask) → IsSettling to address request came asks → AnswersStand world asks
    → IfSome came (λ reply. IsIn reply world.packets × IsValid reply × Echoes request reply)
settled_stands to address request world None asks settling stand = tt
settled_stands to address request world (Some reply) asks settling stand =
    let here = answers_end (failures to address request settling.0) _ world (subst (AnswersStand world) settling.4 stand) in
    (here.0.0, settling.2, settling.3)
