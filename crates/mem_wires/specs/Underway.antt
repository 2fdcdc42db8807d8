-- What goes on while an ask is under way: the words of the calls that an ask is made of.
use Rattle.std.specs.Prelude.{◌≡◌, ◌⊎◌, ℕ, ◌+◌, ◌≤◌, Bool, true, false, List, [], ◌∷◌, ◌++◌, Option, Some, None, Result, Ok, Err, Vec}
use Rattle.std.specs.Prelude.{nat_lt, if◌then◌else◌}
use Rattle.std.specs.declared.alloc.Global.{Global}
use Rattle.wire_frames.specs.declared.parts.Part.{Part}
use Rattle.wire_frames.specs.declared.message.Message.{Message}
use Rattle.wire_frames.specs.declared.message.Message.TheVariants.{Store}
use Rattle.wire_frames.specs.Frame.{Spells, Echoes}
use Rattle.tree_values.specs.Lists.{IsIn}
use Rattle.world_rules.specs.declared.asking.Peer.{Peer}
use Rattle.world_rules.specs.declared.link.LinkError.{LinkError}
use Rattle.world_rules.specs.declared.link.LinkError.TheVariants.{Failed, Memory}
use Rattle.world_rules.specs.declared.asking.Answer.TheVariants.{Reply}
use Rattle.world_rules.specs.declared.asking.Answer.TheVariants as answers
use Rattle.world_rules.specs.Served.{TakenEntry, entry_stored}
use Rattle.world_rules.specs.World.{World, Is, MovedBy, sendings}
use Rattle.world_rules.specs.Asking.{ask_of}
use Rattle.mem_wires.specs.declared.fate.Fate.{Fate}
use Rattle.mem_wires.specs.Wire.{Wire, world_of}
use Rattle.mem_wires.specs.Fates.{decides, deciding, left_after, at_decision, AreLeft, MeetsFate}

-- the world moved by steps that may come while any request is asked
abbrev pub MovedFree : World → World → Type 0
MovedFree old new = (request : Message) → MovedBy (Is request) [] old new

-- the world moved, and the request was sent
pub record IsSent (request : Message) (old new : World) : Type 0 where
  pub moves : MovedBy (Is request) [] old new
  pub sent : 1 ≤ sendings moves.steps

-- what an ask does to the world once its request was sent
abbrev pub AsksSent : Peer → List ℕ → Message → World → World → Result (Vec ℕ Global) LinkError → Type 0
AsksSent to address request old new (Ok frame) =
    (reply : Message) × Spells reply frame.items × Echoes request reply × IsIn reply new.packets
    × MovedBy (Is request) (ask_of to address request (Reply reply) ∷ []) old new
AsksSent to address request old new (Err Failed) = MovedBy (Is request) (ask_of to address request answers.Failed ∷ []) old new
AsksSent to address request old new (Err Memory) =
    MovedBy (Is request) (ask_of to address request answers.Memory ∷ []) old new ⊎ MovedBy (Is request) [] old new

-- the fates and the troubles are as before
abbrev pub KeepsFates : Wire → Wire → Type 0
KeepsFates old new = (new.fates ≡ old.fates) × (new.troubles ≡ old.troubles)

-- the fate, where it decides
abbrev pub decision : Fate → Option Fate
decision fate = if decides fate then Some fate else None

-- what becomes of an ask by its fate; where memory runs out, the ask may be noted or not
abbrev pub MeetsUnlessMemory : Fate → Peer → List ℕ → Message → World → World → Result (Vec ℕ Global) LinkError → Type 0
MeetsUnlessMemory fate to address request old new (Err Memory) = AsksSent to address request old new (Err Memory)
MeetsUnlessMemory fate to address request old new result = MeetsFate fate to address request old new result

-- The ask is to be decided as before, after fates that decide nothing.
pub record IsUndecided (old new : Wire) : Type 0 where
  pub fate : deciding new.fates ≡ deciding old.fates
  pub left : left_after new.fates ≡ left_after old.fates
  pub reached : at_decision new.fates (world_of new) ≡ at_decision old.fates (world_of old)
  pub moved : MovedFree (world_of old) (world_of new)
  pub rest : AreLeft new.fates old.fates
  pub troubles : new.troubles ≡ old.troubles

abbrev pub is_store : Message → Bool
is_store (Store client number parts) = true
is_store _ = false

-- ---- what a delivery notes

-- the entries of a client, numbered on from this number, that are above another
abbrev pub entries_above : ℕ → ℕ → List Part → ℕ → List TakenEntry
entries_above client number [] last = []
entries_above client number (part ∷ parts) last =
    (if nat_lt last number then entry_stored client number part.effects part.base ∷ [] else [])
    ++ entries_above client (number + 1) parts last

-- those of a store; any other message has none
abbrev pub stored_above : Message → ℕ → List TakenEntry
stored_above (Store client number parts) last = entries_above client number parts last
stored_above _ last = []
