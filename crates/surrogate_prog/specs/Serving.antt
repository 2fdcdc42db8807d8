-- What a surrogate does with the frames that it takes: a chain of handlings, from copy to copy.
use Rattle.std.specs.Prelude.{◌≡◌, ◌⊎◌, ℕ, ◌+◌, List, [], ◌∷◌, ◌++◌, Option, Result, Ok, Err}
use Rattle.std.specs.declared.alloc.AllocError.{AllocError}
use Rattle.tree_values.specs.Tree.{Volume}
use Rattle.tree_values.specs.Lists.{IsIn}
use Rattle.cmd_capture.specs.declared.runner.Run.{Run}
use Rattle.cmd_capture.specs.Runs.{RunnerTelling, HasRun}
use Rattle.mod_log.specs.declared.sketching.SketchEntry.{SketchEntry}
use Rattle.wire_frames.specs.declared.message.Message.{Message}
use Rattle.wire_frames.specs.declared.message.Message.TheVariants.{Operate, Malformed}
use Rattle.wire_frames.specs.declared.message.FrameError.{FrameError}
use Rattle.wire_frames.specs.Frame.{IsValid, frame}
use Rattle.wire_frames.specs.Malformed.{refusal_code, refusal_offset}
use Rattle.wire_frames.specs.Reading.{frame_of}
use Rattle.world_rules.specs.declared.asking.Ask.{Ask}
use Rattle.world_rules.specs.World.{MovedBy}
use Rattle.world_rules.specs.Asking.{AnswersStand}
use Rattle.world_rules.specs.Settling.{failed_asks}
use Rattle.world_rules.specs.Telling.{LinkTelling, ToldWorlds, HadTroubles}
use Rattle.surrogate_core.specs.Serving.{MayAsk, ServesTo, failed_runs, failures_told}

-- what handlings did outside: the runs that were made, how many failed, and the asks
pub record Doings : Type 0 where
  pub runs : List Run
  pub failed : ℕ
  pub asks : List Ask

abbrev pub did_nothing : Doings
did_nothing = record { runs = []; failed = 0; asks = [] }

-- these doings, and then more
abbrev pub and_then : Doings → Doings → Doings
and_then first more = record { runs = first.runs ++ more.runs; failed = first.failed + more.failed; asks = first.asks ++ more.asks }

-- Bytes that were read are served by a handling of their message; bytes that were refused are answered so.
abbrev pub ServesRead : List ℕ → List ℕ → Volume → Result Message FrameError → Doings → Message → Volume → Type 0
ServesRead server work copy (Ok request) did reply after =
    ServesTo server work copy request did.runs did.asks (Ok reply) after × (did.failed ≡ failed_runs reply)
ServesRead server work copy (Err refusal) did reply after =
    (reply ≡ Malformed (refusal_code refusal) (refusal_offset refusal)) × (did ≡ did_nothing) × (after ≡ copy)

-- a frame was served: the frame that answers it spells the reply that its bytes came to
pub record ServesFrame (server work : List ℕ) (copy : Volume) (pair : List ℕ × List ℕ) (did : Doings) (after : Volume) : Type 0 where
  pub reply : Message
  pub serves : ServesRead server work copy (frame_of pair.0) did reply after
  pub spells : pair.1 ≡ frame reply

-- frames were served one after the other, each on the copy that the one before it left
abbrev pub ServesFrames : List ℕ → List ℕ → Volume → List (List ℕ × List ℕ) → Doings → Volume → Type 0
ServesFrames server work copy [] did after = (did ≡ did_nothing) × (after ≡ copy)
ServesFrames server work copy (pair ∷ pairs) did after =
    (first more : Doings) × (middle : Volume) × ServesFrame server work copy pair first middle
    × ServesFrames server work middle pairs more after × (did ≡ and_then first more)

-- What want of memory left of the frame at hand: nothing was done for it, or its message was served and not answered.
pub record ServesPart (server work : List ℕ) (copy : Volume) (frames : List (List ℕ)) (did : Doings) : Type 0 where
  pub bytes : List ℕ
  pub taken : frames ≡ bytes ∷ []
  pub request : Message
  pub read : frame_of bytes ≡ Ok request
  pub result : Result Message AllocError
  pub after : Volume
  pub serves : ServesTo server work copy request did.runs did.asks result after
  pub failed : did.failed ≡ failures_told result

abbrev pub BreaksServing : List ℕ → List ℕ → Volume → List (List ℕ) → Doings → Type 0
BreaksServing server work copy frames did = (did ≡ did_nothing) ⊎ ServesPart server work copy frames did

-- ---- what a runner and a link tell of it

-- what an operation among these frames lets a surrogate ask
abbrev pub AnyAsks : List (List ℕ) → Message → Type 0
AnyAsks frames message =
    (bytes : List ℕ) × (client : ℕ) × (sketched : SketchEntry) × IsIn bytes frames × (frame_of bytes ≡ Ok (Operate client sketched))
    × IsValid (Operate client sketched) × MayAsk client sketched message

-- what a runner and a link tell
pub record Outside : Type 0 where
  pub runner : RunnerTelling
  pub link : LinkTelling

abbrev pub outside_told : Option (List Run) → ℕ → LinkTelling → Outside
outside_told runs faults link = record { runner = record { runs = runs; faults = faults }; link = link }

-- Between two moments the runner made these runs, and failed so often; the link had trouble for each ask that failed, and its
-- world moved by these asks, for operations among the frames.
pub record Did (frames : List (List ℕ)) (did : Doings) (old new : Outside) : Type 0 where
  pub has_run : HasRun did.runs did.failed old.runner new.runner
  pub had_troubles : HadTroubles (failed_asks did.asks) old.link new.link
  pub went : ToldWorlds old.link new.link (λ before after. MovedBy (AnyAsks frames) did.asks before after × AnswersStand after did.asks)
