-- What became of the connections of a port, and what the port tells of them.
use Rattle.std.specs.Prelude.{◌≡◌, ◌≤◌, ◌<◌, ◌⊎◌, ℕ, ◌+◌, Bool, true, false, List, [], ◌∷◌, ◌++◌, length, map, count_by, None, Some, codes}
use Rattle.std.specs.Prelude.{decimal}
use Rattle.std.specs.List.{flat_map}
use Rattle.outside.specs.Outside.{raised}
use Rattle.outside.specs.Port.{Talk, PortTelling, AddsTalks}
use Rattle.port_serving.specs.declared.serving.Came.{Came}
use Rattle.port_serving.specs.declared.serving.Came.TheVariants as came
use Rattle.port_serving.specs.declared.serving.Taking.{Taking}
use Rattle.port_serving.specs.declared.serving.Taking.TheVariants as taking
use Rattle.port_serving.specs.declared.serving.Tally.{Tally}

-- what became of a connection that was used up: the port failed to take its frame; or the frame was taken and the node replied
-- to it, and the port failed to answer; or it was answered by the reply
pub data Connection : Type 0 where
  Missed : Connection
  Unanswered : List ℕ → List ℕ → Connection
  Answered : List ℕ → List ℕ → Connection

-- a frame and the node's reply to it
abbrev pub exchange : Connection → List (List ℕ × List ℕ)
exchange Missed = []
exchange (Unanswered frame reply) = (frame, reply) ∷ []
exchange (Answered frame reply) = (frame, reply) ∷ []

-- the frames that were taken, each with the node's reply to it, in order
abbrev pub exchanges : List Connection → List (List ℕ × List ℕ)
exchanges connections = flat_map exchange connections

-- the frames that were taken, in order
abbrev pub frames_taken : List Connection → List (List ℕ)
frames_taken connections = map (λ pair. pair.0) (exchanges connections)

-- the replies that were answered, in order
abbrev pub reply_answered : Connection → List (List ℕ)
reply_answered Missed = []
reply_answered (Unanswered frame reply) = []
reply_answered (Answered frame reply) = reply ∷ []

abbrev pub frames_answered : List Connection → List (List ℕ)
frames_answered connections = flat_map reply_answered connections

-- a talk whose frame has no answer, and one whose frame has this
abbrev pub unanswered : List ℕ → Talk
unanswered frame = record { frame = frame; reply = None }

abbrev pub answered_talk : List ℕ → List ℕ → Talk
answered_talk frame reply = record { frame = frame; reply = Some reply }

-- the talk over a connection: its frame, and the reply where it was answered by it
abbrev pub talk : Connection → List Talk
talk Missed = []
talk (Unanswered frame reply) = unanswered frame ∷ []
talk (Answered frame reply) = answered_talk frame reply ∷ []

abbrev pub talks : List Connection → List Talk
talks connections = flat_map talk connections

-- what a take and an answer came to, as the connection of this frame and this reply; none where none was left
abbrev pub connection_of : Came → List ℕ → List ℕ → List Connection
connection_of came.NoConnection frame reply = []
connection_of came.Missed frame reply = Missed ∷ []
connection_of came.Unanswered frame reply = Unanswered frame reply ∷ []
connection_of came.Answered frame reply = Answered frame reply ∷ []

-- each connection that is not answered is one call of the port that failed, and no other call of it fails
abbrev pub is_failure : Connection → Bool
is_failure Missed = true
is_failure (Unanswered frame reply) = true
is_failure (Answered frame reply) = false

abbrev pub failed_connections : List Connection → ℕ
failed_connections connections = count_by is_failure connections

-- these connections of a port were used up, one after the other: each frame was taken once the connection before it had its
-- answer, or had failed
pub record Uses (connections : List Connection) (old new : PortTelling) : Type 0 where
  pub left : old.left ≡ new.left + length connections
  pub talks : AddsTalks old.talks new.talks (talks connections)
  pub failed : new.faults ≡ raised (failed_connections connections) old.faults

-- a connection is at hand: it is used up, its frame was taken, unless memory ran out, and is not answered; no call of the port failed
pub record IsAtHand (frames : List (List ℕ)) (old new : PortTelling) : Type 0 where
  pub few : length frames ≤ 1
  pub left : old.left ≡ new.left + 1
  pub talks : AddsTalks old.talks new.talks (map unanswered frames)
  pub faults : new.faults ≡ old.faults

-- what a take came to
abbrev pub TakesConnection : Taking → PortTelling → PortTelling → Type 0
TakesConnection taking.NoConnection old new = (new.left ≡ 0) × Uses [] old new
TakesConnection taking.Missed old new = Uses (Missed ∷ []) old new
TakesConnection (taking.Taken frame) old new = IsAtHand (frame.items ∷ []) old new

-- where the connection of this frame is at hand, it is used up with this reply: answered by it, or the port failed to
pub record Replies (how : Came) (frame reply : List ℕ) (old new : PortTelling) : Type 0 where
  pub is : (how ≡ came.Unanswered) ⊎ (how ≡ came.Answered)
  pub uses : Uses (connection_of how frame reply) old new

-- serving came to its end: as many connections were used up as were to be, or none is left
pub record UsesAll (count : ℕ) (connections : List Connection) (old new : PortTelling) : Type 0 where
  pub uses : Uses connections old new
  pub most : length connections ≤ count
  pub ended : (length connections ≡ count) ⊎ (new.left ≡ 0)

-- serving was broken off at the connection at hand, of which these frames were taken
pub record UsesFront (count : ℕ) (connections : List Connection) (frames : List (List ℕ)) (old new : PortTelling) : Type 0 where
  pub middle : PortTelling
  pub uses : Uses connections old middle
  pub most : length connections < count
  pub at_hand : IsAtHand frames middle new

-- the frames taken, and the calls that failed
pub record Counts (connections : List Connection) (tally : Tally) : Type 0 where
  pub frames : tally.frames ≡ length (frames_taken connections)
  pub faults : tally.faults ≡ failed_connections connections

-- the tally with one more take
abbrev pub tallied : Tally → Came → Tally
tallied tally came.NoConnection = tally
tallied tally came.Missed = record { frames = tally.frames; faults = tally.faults + 1 }
tallied tally came.Unanswered = record { frames = tally.frames + 1; faults = tally.faults + 1 }
tallied tally came.Answered = record { frames = tally.frames + 1; faults = tally.faults }

-- the line that ends the output: how many frames were taken, and how many calls of the port failed
abbrev pub served_line : ℕ → ℕ → List ℕ
served_line frames faults = codes "served " ++ (decimal frames ++ (codes " faults " ++ (decimal faults ++ 10 ∷ [])))

abbrev pub served_line_of : List Connection → List ℕ
served_line_of connections = served_line (length (frames_taken connections)) (failed_connections connections)
