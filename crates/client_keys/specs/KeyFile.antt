-- What the file of a key says.
use Rattle.std.specs.Prelude.{ℕ, ◌+◌, List, Option, None, Some, Result, Ok, Err, length, take, slice_index, ◌==◌, ◌&&◌, cond}
use Rattle.hex.specs.Hex.{decode_sized}

-- how many bytes a key has
abbrev pub key_bytes : ℕ
key_bytes = 32

-- how many hexadecimal digits spell it
abbrev pub digits : ℕ
digits = 64

-- what was decoded, where something was
abbrev pub decoded : {A E : Type 0} → Result A E → Option A
decoded (Ok key) = Some key
decoded (Err e) = None

-- the digits, and a line end behind them
abbrev pub key_in : List ℕ → Option (List ℕ)
key_in text = cond (length text == digits + 1 && slice_index text digits == 10) (decoded (decode_sized (take digits text) key_bytes)) None
