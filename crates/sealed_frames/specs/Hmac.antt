-- HMAC over SHA-256, in the words of RFC 2104.
use Rattle.std.specs.Prelude.{ℕ, ◌-◌, nat_le, bit_xor, List, ◌++◌, length, map, replicate, if◌then◌else◌}
use Rattle.sha2.specs.Sha256.{sha256}

-- how many bytes a block of SHA-256 has
abbrev pub block_bytes : ℕ
block_bytes = 64

-- the byte that the inner pad repeats over a block, and the one that the outer pad repeats
abbrev pub inner_pad : ℕ
inner_pad = 0x36

abbrev pub outer_pad : ℕ
outer_pad = 0x5c

-- the bytes, and zeros behind them up to the end of a block
abbrev pub zero_padded : List ℕ → List ℕ
zero_padded bytes = bytes ++ replicate (64 - length bytes) 0

-- the key as a block; one that is longer is hashed first
abbrev pub key_block : List ℕ → List ℕ
key_block key = if nat_le (length key) 64 then zero_padded key else zero_padded (sha256 key)

-- the exclusive or of a block and a pad, byte by byte
abbrev pub block_xor : List ℕ → ℕ → List ℕ
block_xor block pad = map (λ byte. bit_xor byte pad) block

-- the HMAC of a text under a key
abbrev pub hmac : List ℕ → List ℕ → List ℕ
hmac key text = sha256 (block_xor (key_block key) outer_pad ++ sha256 (block_xor (key_block key) inner_pad ++ text))
