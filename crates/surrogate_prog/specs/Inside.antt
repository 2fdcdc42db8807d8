-- Words that only contracts below the whole run cite.
use Rattle.std.specs.Prelude.{◌≡◌, ℕ, List, [], ◌∷◌, ◌++◌, Result, Ok}
use Rattle.std.specs.declared.alloc.AllocError.{AllocError}
use Rattle.outside.specs.Port.{PortTelling}
use Rattle.outside.specs.declared.errors.SinkError.{SinkError}
use Rattle.outside.specs.declared.errors.SinkError.TheVariants as sinks
use Rattle.port_serving.specs.declared.serving.Came.{Came}
use Rattle.port_serving.specs.declared.serving.Came.TheVariants as came
use Rattle.port_serving.specs.declared.serving.Tally.{Tally}
use Rattle.port_serving.specs.Serving.{Connection, connection_of, exchanges, frames_taken, Uses, IsAtHand, UsesAll, UsesFront, Counts}
use Rattle.tree_values.specs.Tree.{Volume}
use Rattle.wire_frames.specs.declared.message.Message.{Message}
use Rattle.wire_frames.specs.Frame.{frame}
use Rattle.surrogate_core.specs.Serving.{Serves}
use Rattle.surrogate_prog.specs.declared.run.Stopped.{Stopped}
use Rattle.surrogate_prog.specs.declared.run.Stopped.TheVariants as stops
use Rattle.surrogate_prog.specs.Serving.{Doings, and_then, ServesFrame, ServesFrames, BreaksServing, Outside, Did}

-- a message was handled, and these bytes spell the reply
pub record IsMessageHandled (server work : List ℕ) (copy : Volume) (request : Message) (bytes : List ℕ) (after : Volume)
    (old new : Outside) : Type 0 where
  pub reply : Message
  pub serves : Serves server work copy request (Ok reply) after old.runner new.runner old.link new.link
  pub spells : bytes ≡ frame reply

-- a message was handled, perhaps to an answer that was not written
pub record BreaksHandled (server work : List ℕ) (copy : Volume) (request : Message) (old new : Outside) : Type 0 where
  pub result : Result Message AllocError
  pub after : Volume
  pub serves : Serves server work copy request result after old.runner new.runner old.link new.link

-- a frame was served, and this is the frame that answers it
pub record RepliesTo (server work bytes reply : List ℕ) (before after : Volume) (old new : Outside) : Type 0 where
  pub did : Doings
  pub serves : ServesFrame server work before (bytes, reply) did after
  pub did_outside : Did (bytes ∷ []) did old new

-- memory ran out while a frame was served
pub record BreaksReply (server work bytes : List ℕ) (before : Volume) (old new : Outside) : Type 0 where
  pub did : Doings
  pub breaks : BreaksServing server work before (bytes ∷ []) did
  pub did_outside : Did (bytes ∷ []) did old new

-- one connection was used up and its frame served, or none was left
pub record SurrogateServesNext (server work : List ℕ) (how : Came) (before after : Volume) (port used : PortTelling)
    (old new : Outside) : Type 0 where
  pub bytes : List ℕ
  pub reply : List ℕ
  pub uses : Uses (connection_of how bytes reply) port used
  pub did : Doings
  pub serves : ServesFrames server work before (exchanges (connection_of how bytes reply)) did after
  pub did_outside : Did (frames_taken (connection_of how bytes reply)) did old new
  pub none : how ≡ came.NoConnection → used.left ≡ 0

-- want of memory broke off the connection at hand
pub record BreaksTaking (server work : List ℕ) (before : Volume) (port used : PortTelling) (old new : Outside) : Type 0 where
  pub frames : List (List ℕ)
  pub at_hand : IsAtHand frames port used
  pub did : Doings
  pub breaks : BreaksServing server work before frames did
  pub did_outside : Did frames did old new

-- at the end of the takes, or of the connections
pub record SurrogateServesAll (server work : List ℕ) (count : ℕ) (tally : Tally) (before : Volume) (port used : PortTelling)
    (old new : Outside) : Type 0 where
  pub connections : List Connection
  pub uses : UsesAll count connections port used
  pub counts : Counts connections tally
  pub did : Doings
  pub copy : Volume
  pub serves : ServesFrames server work before (exchanges connections) did copy
  pub did_outside : Did (frames_taken connections) did old new

-- broken off for want of memory
pub record SurrogateServesFront (server work : List ℕ) (count : ℕ) (before : Volume) (port used : PortTelling) (old new : Outside) :
    Type 0 where
  pub connections : List Connection
  pub frames : List (List ℕ)
  pub uses : UsesFront count connections frames port used
  pub did : Doings
  pub copy : Volume
  pub serves : ServesFrames server work before (exchanges connections) did copy
  pub at_hand : Doings
  pub breaks : BreaksServing server work copy frames at_hand
  pub did_outside : Did (frames_taken connections ++ frames) (and_then did at_hand) old new

-- a fault of the sink as the run's end
abbrev pub surrogate_stopped_by_sink : SinkError → Stopped
surrogate_stopped_by_sink sinks.Failed = stops.Sink
surrogate_stopped_by_sink sinks.Memory = stops.Memory
