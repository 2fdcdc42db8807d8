-- A content in blocks, and the parity of each.
use Rattle.std.specs.Prelude.{◌≡◌, ℕ, ◌+◌, ◌-◌, ◌*◌, ◌/◌, ◌<◌, ◌++◌, List, [], length, take, drop, slice_index_or}
use Rattle.rs_parity.specs.CodeWord.{symbols, IsCodeWord}
use Rattle.rs_parity.specs.Weight.{HasElements}

-- the bytes of a whole block
abbrev pub block_size : ℕ
block_size = 131006

-- block i of a content; the last may be shorter
abbrev pub block_of : List ℕ → ℕ → List ℕ
block_of content i = take block_size (drop (i * block_size) content)

-- the number of blocks of a content of so many bytes; the empty content has no block
abbrev pub blocks_in : ℕ → ℕ
blocks_in len = (len + (block_size - 1)) / block_size

abbrev pub block_count : List ℕ → ℕ
block_count content = blocks_in (length content)

-- 32 elements of the field, as every parity is
pub record IsCheck (parity : List ℕ) : Type 0 where
  pub size : length parity ≡ 32
  pub elements : HasElements parity

-- the 32 symbols that make a code word with a block
pub record IsParity (block parity : List ℕ) : Type 0 where
  pub check : IsCheck parity
  pub code_word : IsCodeWord (symbols block ++ parity)

-- the parity of each block, in order
pub record AreParities (content : List ℕ) (parities : List (List ℕ)) : Type 0 where
  pub count : length parities ≡ block_count content
  pub each : (i : ℕ) → i < block_count content → IsParity (block_of content i) (slice_index_or parities i [])

-- a block has one parity
abbrev pub OneParity : Type 0
OneParity = (block a b : List ℕ) → IsParity block a → IsParity block b → a ≡ b
