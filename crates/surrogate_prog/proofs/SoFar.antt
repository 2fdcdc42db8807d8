-- How serving connection by connection stands from turn to turn.
use Rattle.std.specs.Prelude.{ℕ, List}
use Rattle.outside.specs.Port.{PortTelling}
use Rattle.port_serving.specs.declared.serving.Tally.{Tally}
use Rattle.port_serving.specs.Serving.{Connection, exchanges, frames_taken}
use Rattle.port_serving.proofs.Connections.{UsesSoFar}
use Rattle.tree_values.specs.Tree.{Volume}
use Rattle.surrogate_prog.specs.Serving.{Doings, ServesFrames, Outside, Did}

-- connections were served and counted, one for each take so far
pub record SurrogateServesSoFar (server work : List ℕ) (made : ℕ) (tally : Tally) (before after : Volume) (port used : PortTelling)
    (old new : Outside) : Type 0 where
  pub connections : List Connection
  pub uses : UsesSoFar made tally connections port used
  pub did : Doings
  pub serves : ServesFrames server work before (exchanges connections) did after
  pub did_outside : Did (frames_taken connections) did old new
