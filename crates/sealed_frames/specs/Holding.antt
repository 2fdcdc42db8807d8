-- What holds a text under a key.
use Rattle.std.specs.Prelude.{ℕ, List, ◌++◌}
use Rattle.sha2.specs.Hashers.{Holds256}
use Rattle.sealed_frames.specs.declared.hmac.Hmac.{Hmac}
use Rattle.sealed_frames.specs.Hmac.{inner_pad, outer_pad, key_block, block_xor}

-- it was begun with the key and given the text
abbrev pub HoldsUnder : List ℕ → Hmac → List ℕ → Type 0
HoldsUnder key hmac text =
    Holds256 hmac.inner (block_xor (key_block key) inner_pad ++ text) × Holds256 hmac.outer (block_xor (key_block key) outer_pad)
