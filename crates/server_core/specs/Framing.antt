-- How a server answers frames.
use Rattle.std.specs.Prelude.{ℕ, Bool, true, false, ◌||◌, List, [], ◌∷◌, Result, Ok, Err}
use Rattle.std.specs.List.{filter_map}
use Rattle.std.specs.Result.{result_ok}
use Rattle.wire_frames.specs.declared.message.Message.{Message}
use Rattle.wire_frames.specs.declared.message.Message.TheVariants.{Malformed}
use Rattle.wire_frames.specs.declared.message.FrameError.{FrameError}
use Rattle.wire_frames.specs.Frame.{frame}
use Rattle.wire_frames.specs.Malformed.{refusal_code, refusal_offset}
use Rattle.wire_frames.specs.Reading.{frame_of}
use Rattle.world_rules.specs.Served.{Served, TakenEntry, answer, state_after, taken_of}

-- what is answered to bytes that were read, or refused
abbrev pub answer_to : Result Message FrameError → Served → Message
answer_to (Ok message) served = answer message served
answer_to (Err refusal) served = Malformed (refusal_code refusal) (refusal_offset refusal)

-- what is held then
abbrev pub state_with : Result Message FrameError → Served → Served
state_with (Ok message) served = state_after message served
state_with (Err refusal) served = served

-- the frame that answers a frame
abbrev pub frame_answer : List ℕ → Served → List ℕ
frame_answer bytes served = frame (answer_to (frame_of bytes) served)

-- the served state after a frame
abbrev pub frame_after : List ℕ → Served → Served
frame_after bytes served = state_with (frame_of bytes) served

-- whether anything was taken
abbrev pub is_any : List TakenEntry → Bool
is_any [] = false
is_any (entry ∷ entries) = true

-- whether what was read is a store of which an entry is taken
abbrev pub takes_read : Result Message FrameError → Served → Bool
takes_read (Ok message) served = is_any (taken_of message served)
takes_read (Err refusal) served = false

-- whether the frame has a store of which an entry is taken, which alone changes what is served
abbrev pub takes : List ℕ → Served → Bool
takes bytes served = takes_read (frame_of bytes) served

-- whether any of these frames changes what is served
abbrev pub change : List (List ℕ) → Served → Bool
change [] served = false
change (bytes ∷ frames) served = takes bytes served || change frames (frame_after bytes served)

-- the served state after these frames, one after the other
abbrev pub frames_after : List (List ℕ) → Served → Served
frames_after [] served = served
frames_after (bytes ∷ frames) served = frames_after frames (frame_after bytes served)

-- the messages that the frames spell, without the bytes that are refused
abbrev pub messages_of : List (List ℕ) → List Message
messages_of frames = filter_map (λ bytes. result_ok (frame_of bytes)) frames
