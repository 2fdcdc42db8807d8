-- What a run of the surrogate does by the status that it gives.
use Rattle.std.specs.Prelude.{◌≡◌, ◌==◌, ◌⊎◌, ◌↔◌, ◌||◌, ◌++◌, ℕ, Bool, IsTrue, List, [], ◌∷◌, take, Option, None, IfSome, Result, Ok, Err}
use Rattle.std.specs.List.{list_any}
use Rattle.outside.specs.Outside.{Adds, Rose, RisesWhere}
use Rattle.outside.specs.Port.{PortTelling}
use Rattle.outside.specs.declared.port.Port.{Ghosts as PortWords}
use Rattle.outside.specs.declared.sink.Sink.{Ghosts as SinkWords}
use Rattle.cmd_capture.specs.declared.runner.Runner.{Ghosts as RunnerWords}
use Rattle.world_rules.specs.declared.link.Link.{Ghosts as LinkWords}
use Rattle.program_words.specs.Status.{code}
use Rattle.program_words.specs.declared.status.Status.TheVariants as statuses
use Rattle.port_serving.specs.Serving.{Connection, exchanges, frames_taken, UsesAll, UsesFront, served_line_of}
use Rattle.tree_values.specs.Tree.{Volume}
use Rattle.surrogate_prog.specs.declared.run.Stopped.{Stopped}
use Rattle.surrogate_prog.specs.declared.run.Stopped.TheVariants.{Sink, Memory}
use Rattle.surrogate_prog.specs.Words.{SurrogateInvocation, surrogate_run_of, form_of}
use Rattle.surrogate_prog.specs.Serving.{Doings, and_then, ServesFrames, BreaksServing, Outside, Did, outside_told}

-- the status of a run that ended so: with its last line, or stopped before
abbrev pub surrogate_status_of : Result (Unit {0}) Stopped → ℕ
surrogate_status_of (Ok done) = code statuses.Done
surrogate_status_of (Err Sink) = code statuses.SinkFailed
surrogate_status_of (Err Memory) = code statuses.NoMemory

-- the statuses that a run may give
abbrev pub is_surrogate_status : ℕ → Bool
is_surrogate_status status =
    list_any (λ known. code known == status) (statuses.Done ∷ statuses.NoForm ∷ statuses.SinkFailed ∷ statuses.NoMemory ∷ [])

-- those that the program may end with: one more where it cannot listen
abbrev pub is_surrogate_exit : ℕ → Bool
is_surrogate_exit status = code statuses.CannotListen == status || is_surrogate_status status

-- what a port, a runner and a link tell
pub record SurrogateTelling : Type 0 where
  pub port : PortTelling
  pub outside : Outside

abbrev pub surrogate_telling : PortTelling → Outside → SurrogateTelling
surrogate_telling port outside = record { port = port; outside = outside }

-- Serving came to its end: as many connections were used up as the words say, or none is left. The frames were served from a copy
-- without rows.
pub record SurrogateIsServed (run : SurrogateInvocation) (connections : List Connection) (did : Doings)
    (old new : SurrogateTelling) : Type 0 where
  pub port : UsesAll run.count connections old.port new.port
  pub copy : Volume
  pub serves : ServesFrames run.server run.work [] (exchanges connections) did copy
  pub did_outside : Did (frames_taken connections) did old.outside new.outside

-- Serving was broken off at a connection for want of memory: its frame, where it was taken, is not answered.
pub record SurrogateIsBrokenOff (run : SurrogateInvocation) (connections : List Connection) (did at_hand : Doings)
    (old new : SurrogateTelling) : Type 0 where
  pub frames : List (List ℕ)
  pub port : UsesFront run.count connections frames old.port new.port
  pub copy : Volume
  pub serves : ServesFrames run.server run.work [] (exchanges connections) did copy
  pub breaks : BreaksServing run.server run.work copy frames at_hand
  pub did_outside : Did (frames_taken connections ++ frames) (and_then did at_hand) old.outside new.outside

-- all connections were served, and a front of the last line was written
abbrev pub SurrogateStopsInLine : SurrogateInvocation → SurrogateTelling → SurrogateTelling → Option (List ℕ) → Option (List ℕ) → Type 0
SurrogateStopsInLine run old new written now = (connections : List Connection) × (did : Doings) × (bytes : ℕ)
    × SurrogateIsServed run connections did old new × Adds written now (take bytes (served_line_of connections))

-- a connection was broken off, and nothing was written
abbrev pub SurrogateStopsInServing : SurrogateInvocation → SurrogateTelling → SurrogateTelling → Option (List ℕ) → Option (List ℕ) → Type 0
SurrogateStopsInServing run old new written now =
    (connections : List Connection) × (did at_hand : Doings) × SurrogateIsBrokenOff run connections did at_hand old new × (now ≡ written)

-- what a run did by how it ended
abbrev pub SurrogateRun : SurrogateInvocation → SurrogateTelling → SurrogateTelling → Option (List ℕ) → Option (List ℕ)
    → Result (Unit {0}) Stopped → Type 0
SurrogateRun run old new written now (Ok done) = (connections : List Connection) × (did : Doings)
    × SurrogateIsServed run connections did old new × Adds written now (served_line_of connections)
SurrogateRun run old new written now (Err Sink) = SurrogateStopsInLine run old new written now
SurrogateRun run old new written now (Err Memory) =
    SurrogateStopsInLine run old new written now ⊎ SurrogateStopsInServing run old new written now

-- a run that gave this status
abbrev pub SurrogateRan : SurrogateInvocation → ℕ → SurrogateTelling → SurrogateTelling → Option (List ℕ) → Option (List ℕ) → Type 0
SurrogateRan run status old new written now =
    (ended : Result (Unit {0}) Stopped) × (status ≡ surrogate_status_of ended) × SurrogateRun run old new written now ended

-- what a port, a runner, a link and a sink tell
pub record SurrogateObjects : Type 0 where
  pub port : PortTelling
  pub outside : Outside
  pub written : Option (List ℕ)
  pub sink_faults : ℕ

-- by what each of them tells of itself
abbrev pub surrogate_objects_of : {P R L O : Type 0} → PortWords P → RunnerWords R → LinkWords L → SinkWords O → P → R → L → O
    → SurrogateObjects
surrogate_objects_of ports runners links sinks port runner link sink = record {
  port = ports.tells port;
  outside = outside_told (runners.runs runner) (runners.faults runner) (links.tells link);
  written = sinks.written sink;
  sink_faults = sinks.faults sink;
}

-- What a run on these words does, by the status that it gives:
-- 0: as many connections were used up as the words say, or none is left, and the output is the last line;
-- 2: the words are of no form, and nothing was touched;
-- 4: a call of the sink failed, and in a run with another status none did; 7: memory ran out.
pub record SurrogateEnds (words : List (List ℕ)) (status : ℕ) (old new : SurrogateObjects) : Type 0 where
  pub form : status ≡ 2 ↔ form_of words ≡ None
  pub known : IsTrue (is_surrogate_status status)
  pub untouched : form_of words ≡ None → new ≡ old
  pub sink : RisesWhere (status ≡ 4) old.sink_faults new.sink_faults
  pub complete : IfSome (surrogate_run_of words) (λ run. (Rose old.sink_faults new.sink_faults → ⊥) → (status ≡ 0) ⊎ (status ≡ 7))
  pub served : IfSome (surrogate_run_of words)
      (λ run. SurrogateRan run status (surrogate_telling old.port old.outside) (surrogate_telling new.port new.outside) old.written
      new.written)
