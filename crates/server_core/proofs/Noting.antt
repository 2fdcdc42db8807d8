-- Whether a store was taken, and what is kept of it.
use Rattle.std.proofs.Common.{◌≡◌, ℕ, ◌<◌, true, false, List, [], ◌∷◌, Some, None, Result, Ok, Err, refl, sym, ap, ◌∙◌, true≢false}
use Rattle.store_image.specs.declared.image.ServerImage.{ServerImage}
use Rattle.store_image.proofs.Keeping.{server_once}
use Rattle.wire_frames.specs.declared.message.Message.{Message}
use Rattle.wire_frames.specs.declared.message.FrameError.{FrameError}
use Rattle.wire_frames.specs.Reading.{frame_of}
use Rattle.world_rules.specs.Served.{Served, TakenEntry, state_after, taken_of}
use Rattle.server_core.specs.Holding.{served}
use Rattle.server_core.specs.Framing.{state_with, is_any, takes_read}
use Rattle.server_core.specs.Laws.{TakenFramesChangeTheState}
use Rattle.server_core.specs.Keeping.{holding_of, OneStateIsKept}
use Rattle.server_core.proofs.Through.{of_message}
use Rattle.server_core.proofs.Many.{Changes, changes}

-- ---- frames

-- what a message changes follows from what is taken of it
pub message_changes : (message : Message) (s : Served) → Changes s (taken_of message s) (state_after message s)
message_changes message s = of_message Changes changes message s

idle_read : (read : Result Message FrameError) (s : Served) → takes_read read s ≡ false → state_with read s ≡ s
idle_read (Err refusal) s none = refl
idle_read (Ok message) s none = by (taken_of message s) (message_changes message s) none
  where
    by : (taken : List TakenEntry) → Changes s taken (state_after message s) → is_any taken ≡ false → state_after message s ≡ s
    by [] changed none = changed
    by (entry ∷ entries) changed none = absurd (true≢false none)

taken_read : (read : Result Message FrameError) (s : Served) → takes_read read s ≡ true → (client : ℕ) × (s.last client < (state_with read s).last client)
taken_read (Err refusal) s some = absurd (true≢false (sym some))
taken_read (Ok message) s some = by (taken_of message s) (message_changes message s) some
  where
    by : (taken : List TakenEntry) → Changes s taken (state_after message s) → is_any taken ≡ true → (client : ℕ) × (s.last client < (state_after message s).last client)
    by [] changed some = absurd (true≢false (sym some))
    by (entry ∷ entries) changed some = (entry.client, changed.0)

pub taken_frames_change : TakenFramesChangeTheState
taken_frames_change bytes s = (taken_read (frame_of bytes) s, idle_read (frame_of bytes) s)

-- ---- what is kept

pub one_state : OneStateIsKept
one_state None state other kept kept' = kept ∙ sym kept'
one_state (Some bytes) state other kept kept' =
    let image = server_once kept.image kept'.image bytes kept.kept kept'.kept in
    sym kept.serves ∙ ap (λ (i : ServerImage). served (holding_of i)) image ∙ kept'.serves
