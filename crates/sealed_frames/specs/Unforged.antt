-- The premise that nobody makes a seal who has not the key.
use Rattle.std.specs.Prelude.{ℕ, List, Option, Contains}
use Rattle.sealed_frames.specs.declared.sealing.Way.{Way}
use Rattle.sealed_frames.specs.Sealing.{IsSealedBy}

-- what somebody sealed: by which key, for which way, and which frame
pub record Made : Type 0 where
  pub key : List ℕ
  pub way : Way
  pub frame : List ℕ

-- Where the bytes are a frame that is sealed by the key of its client, somebody who has that key sealed this frame, for this way.
-- `made` is all that those who have the keys sealed. That it holds of the bytes that come is what is believed of HMAC over SHA-256, where
-- nobody else has the keys.
abbrev pub IsUnforged : List (Option (List ℕ)) → List Made → Way → List ℕ → Type 0
IsUnforged keys made way bytes =
    (key frame : List ℕ) → IsSealedBy keys way bytes key frame → Contains made (record { key = key; way = way; frame = frame })
