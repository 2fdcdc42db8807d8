-- Replies in frames.
use Rattle.std.proofs.Common.{◌≡◌, ◌∙◌, [], ◌∷◌, ◌++◌, Result, Ok, Err, ap, refl, arith}
use Rattle.std.proofs.lemmas.List.{append-nil}
use Rattle.wire_frames.specs.Frame.{IsValid, frame}
use Rattle.wire_frames.proofs.Frames.{frame_found, frame_again}
use Rattle.wire_frames.specs.declared.message.Message.{Message}
use Rattle.wire_frames.specs.declared.message.Message.TheVariants.{Store, Pull, Malformed}
use Rattle.world_rules.specs.Served.{Served, IsServed, refusal, answer, state_after, taken_of}
use Rattle.world_rules.proofs.Replies.{answer-valid}
use Rattle.wire_frames.specs.declared.message.FrameError.{FrameError}
use Rattle.wire_frames.specs.Malformed.{refusal_code, refusal_offset}
use Rattle.wire_frames.specs.Reading.{frame_of}
use Rattle.std.specs.List.{cons_option}
use Rattle.std.specs.Result.{result_ok}
use Rattle.server_core.specs.Framing.{answer_to, state_with, is_any, takes_read, frames_after, messages_of}
use Rattle.server_core.specs.Laws.{state_after_all, taken_among, FramesAreAnswered, OtherBytesAreMalformed, FramesActAsTheirMessages, EntriesTellWhatChanges}

not_for_server : (s : Served) → IsValid (Malformed 7 0)
not_for_server s = record { client_fits = refl; number_fits = refl; number_small = omega arith; body_fits = (omega arith, refl, omega arith, refl) }

-- the answer to a valid message is valid
pub answer-is-valid : (m : Message) (s : Served) → IsValid m → IsServed s → IsValid (answer m s)
answer-is-valid (Store client number parts) s valid served = answer-valid (Store client number parts) s valid served tt
answer-is-valid (Pull client number) s valid served = answer-valid (Pull client number) s valid served tt
answer-is-valid _ s valid served = not_for_server s

-- ---- frames

pub frames_are_answered : FramesAreAnswered
frames_are_answered m bytes s spells =
    let e : frame_of bytes ≡ Ok m = ap frame_of spells.1 ∙ frame_again m spells.0 in
    (λ i. frame (answer_to (e i) s), λ i. state_with (e i) s)

pub others_are_malformed : OtherBytesAreMalformed
others_are_malformed bytes s are_bytes none = by (frame_of bytes) refl
  where
    by : (read : Result Message FrameError) → frame_of bytes ≡ read
        → (refusal : FrameError) × (frame_of bytes ≡ Err refusal) × (frame (answer_to (frame_of bytes) s) ≡ frame (Malformed (refusal_code refusal) (refusal_offset refusal))) × (state_with (frame_of bytes) s ≡ s)
    by (Ok m) e = absurd (none m (frame_found bytes m are_bytes e))
    by (Err refusal) e = (refusal, e, λ i. frame (answer_to (e i) s), λ i. state_with (e i) s)

pub frames_act : FramesActAsTheirMessages
frames_act [] s = refl
frames_act (bytes ∷ frames) s = by (frame_of bytes) (frames_act frames)
  where
    by : (read : Result Message FrameError) → ((t : Served) → frames_after frames t ≡ state_after_all (messages_of frames) t)
        → frames_after frames (state_with read s) ≡ state_after_all (cons_option (result_ok read) (messages_of frames)) s
    by (Ok message) rest = rest (state_after message s)
    by (Err refusal) rest = rest s

-- ---- what is taken of frames

pub entries_tell : EntriesTellWhatChanges
entries_tell bytes s = by (frame_of bytes)
  where
    by : (read : Result Message FrameError) → is_any (taken_among (cons_option (result_ok read) []) s) ≡ takes_read read s
    by (Ok message) = ap is_any (append-nil (taken_of message s))
    by (Err refusal) = refl
