-- Sketches that break a rule: the field that is refused, whatever stands before and behind it.
use Rattle.std.specs.Prelude.{◌⊎◌, ℕ, ◌<◌, ◌^◌}
use Rattle.std.specs.Int.{w32}
use Rattle.byte_fields.specs.Field.{digits}
use Rattle.byte_fields.specs.Broken.{IsRefused}
use Rattle.rs_parity.specs.Limits.{max_len}
use Rattle.rs_parity.specs.Spelling.{sketch_at}

pub record BrokenSketches : Type 0 where
  -- a length above 8,388,608, or than there is room for: at the length
  pub len_is_large : (room len : ℕ) → len < 2 ^ 32 → (max_len < len) ⊎ (room < len) → IsRefused (sketch_at room) (digits w32 len) 0
