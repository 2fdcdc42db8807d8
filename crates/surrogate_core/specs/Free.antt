-- What a handling is to the world about a client.
use Rattle.std.specs.Prelude.{◌≡◌, ℕ, List}
use Rattle.tree_values.specs.Lists.{IsIn}
use Rattle.tree_values.specs.Tree.{Volume}
use Rattle.cmd_capture.specs.declared.runner.Run.{Run}
use Rattle.mod_log.specs.declared.sketching.SketchEntry.{SketchEntry}
use Rattle.wire_frames.specs.Frame.{IsValid}
use Rattle.wire_frames.specs.declared.message.Message.{Message}
use Rattle.wire_frames.specs.declared.message.Message.TheVariants as messages
use Rattle.world_rules.specs.declared.asking.Ask.{Ask}
use Rattle.world_rules.specs.World.{World, MovedBy, MovedAlone, IsFree}
use Rattle.world_rules.specs.Asking.{AnswersStand}
use Rattle.surrogate_core.specs.Handling.{Handling}
use Rattle.surrogate_core.specs.Serving.{MayAsk}

-- where the operation of the world's client stood in the packets, the world went on alone
abbrev pub HandlingsMoveAlone : Type 0
HandlingsMoveAlone = (client : ℕ) (sketched : SketchEntry) (asks : List Ask) (old new : World) → IsValid (messages.Operate client sketched)
    → (client ≡ old.client → IsIn (messages.Operate client sketched) old.packets) → MovedBy (MayAsk client sketched) asks old new
    → MovedAlone asks old new

-- the answer is one that a surrogate may send then
abbrev pub RepliesAreFree : Type 0
RepliesAreFree = (server work : List ℕ) (copy after : Volume) (client : ℕ) (sketched : SketchEntry) (runs : List Run)
    (asks : List Ask) (reply : Message) (world : World)
    → (client ≡ world.client → IsIn (messages.Operate client sketched) world.packets) → AnswersStand world asks
    → Handling server work copy client sketched runs asks reply after → IsValid reply → IsFree world reply
