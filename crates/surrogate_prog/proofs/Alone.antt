-- While a surrogate asks, the world's client sends nothing.
use Rattle.std.proofs.Common.{◌≡◌, ◌∙◌, ℕ, List, [], ◌∷◌}
use Rattle.tree_values.specs.Lists.{IsIn}
use Rattle.wire_frames.specs.declared.message.Message.{Message}
use Rattle.wire_frames.specs.declared.message.Message.TheVariants.{Operate}
use Rattle.world_rules.specs.declared.asking.Ask.{Ask}
use Rattle.world_rules.specs.World.{World, IsFree, MovedBy}
use Rattle.world_rules.proofs.Allowing.{moved_as}
use Rattle.world_rules.proofs.Asks.{moved_by_then}
use Rattle.world_rules.proofs.Free.{moves_alone}
use Rattle.surrogate_core.proofs.Free.{may_ask_free}
use Rattle.surrogate_prog.specs.Serving.{AnyAsks}
use Rattle.surrogate_prog.specs.Laws.{RunsMoveAlone, TurnsMoveAlone, WereSent, IsOneOf, asked_in}

pub runs_move_alone : RunsMoveAlone
runs_move_alone frames asks old new were moved = moves_alone (AnyAsks frames) old free asks new moved
  where
    free : (message : Message) (world : World) → AnyAsks frames message → world.client ≡ old.client → ((packet : Message) → IsIn packet old.packets → IsIn packet world.packets) → IsFree world message
    free message world may same stay =
        may_ask_free may.1 may.2 may.5 message world may.6 (λ own. stay (Operate may.1 may.2) (were may.0 may.1 may.2 may.3 may.4 (own ∙ same)))

-- what is asked for one frame, whatever the client sends
turn_moves : (sends : List Message) (bytes : List ℕ) (asks : List Ask) (old new : World) → WereSent (bytes ∷ []) old
    → MovedBy (AnyAsks (bytes ∷ [])) asks old new → MovedBy (IsOneOf sends) asks old new
turn_moves sends bytes asks old new were moved =
    moved_as (λ message. ⊥) (IsOneOf sends) (λ message never. absurd never) asks old new (runs_move_alone (bytes ∷ []) asks old new were moved)

pub turns_move_alone : TurnsMoveAlone
turns_move_alone sends [] old new goes = goes
turns_move_alone sends (turn ∷ turns) old new (begun, ended, before, were, moved, later) =
    moved_by_then (IsOneOf sends) [] (asked_in (turn ∷ turns)) old begun new before
    (moved_by_then (IsOneOf sends) turn.1 (asked_in turns) begun ended new (turn_moves sends turn.0 turn.1 begun ended were moved)
    (turns_move_alone sends turns ended new later))
