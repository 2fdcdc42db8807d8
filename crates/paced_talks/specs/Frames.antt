-- Which bytes of a stream are one frame.
use Rattle.std.specs.Prelude.{ℕ, ◌+◌, ◌-◌, nat_le, ◌&&◌, List, length, take, if◌then◌else◌}
use Rattle.std.specs.Int.{w32, from_be_bytes}

-- the most bytes of a frame
abbrev pub frame_limit : ℕ
frame_limit = 67108864

-- how many bytes are read at once
abbrev pub block_bytes : ℕ
block_bytes = 16384

-- how many bytes the first four announce behind them; none where there are no four, or where the frame would be over the limit
abbrev pub announced_bytes : List ℕ → ℕ
announced_bytes bytes =
    let said = from_be_bytes w32 (take 4 bytes) in
    if nat_le 4 (length bytes) && nat_le (said + 4) frame_limit then said else 0

-- the frame at the front of the bytes, or what there is of it
abbrev pub first_frame : List ℕ → List ℕ
first_frame bytes = take (4 + announced_bytes bytes) bytes

-- how many bytes a frame still wants, of which these have come
abbrev pub missing_bytes : List ℕ → ℕ
missing_bytes bytes = 4 + announced_bytes bytes - length bytes
