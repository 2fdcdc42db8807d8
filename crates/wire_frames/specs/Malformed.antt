-- What is answered to bytes that are no frame of a message.
use Rattle.std.specs.Prelude.{ℕ}
use Rattle.wire_frames.specs.declared.message.FrameError.{FrameError}
use Rattle.wire_frames.specs.declared.message.FrameError.TheVariants.{BadLength, BadVersion, BadKind, BadClient, BadField, Trailing, Memory}

-- the number that tells a refusal; want of memory is never told
abbrev pub refusal_code : FrameError → ℕ
refusal_code BadLength = 1
refusal_code BadVersion = 2
refusal_code BadKind = 3
refusal_code BadClient = 4
refusal_code (BadField offset) = 5
refusal_code (Trailing offset) = 6
refusal_code Memory = 0

-- the place that a refusal tells
abbrev pub refusal_offset : FrameError → ℕ
refusal_offset (BadField offset) = offset
refusal_offset (Trailing offset) = offset
refusal_offset _ = 0
