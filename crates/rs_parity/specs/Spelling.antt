-- How a sketch is spelled in bytes, and how it is read.
use Rattle.std.specs.Prelude.{◌≡◌, ℕ, ◌≤◌, nat_le, min, List, ◌++◌, length}
use Rattle.std.specs.Int.{w16, w32}
use Rattle.std.specs.List.{flat_map, AllByRecursion}
use Rattle.byte_fields.specs.Field.{Reader, digits, number_at, span_at, ruled, three, each_at}
use Rattle.byte_fields.specs.Codec.{IsBytes, IsCodec}
use Rattle.rs_parity.specs.Limits.{max_len}
use Rattle.rs_parity.specs.Blocks.{blocks_in, IsCheck}
use Rattle.rs_parity.specs.Sketches.{IsSketch}
use Rattle.rs_parity.specs.declared.sketch.Sketch.{Sketch}

-- two bytes for each symbol of a parity
unfoldable pub parity_spelling : List ℕ → List ℕ
parity_spelling parity = flat_map (digits w16) parity

-- four bytes of the length, the print, and each parity
unfoldable pub sketch_spelling : Sketch → List ℕ
sketch_spelling sketch = digits w32 sketch.len ++ (sketch.print ++ flat_map parity_spelling sketch.parities)

-- a sketch as a content of at most so many bytes, and of at most 8,388,608, has it: its print is 32 bytes
pub record SketchFits (room : ℕ) (sketch : Sketch) : Type 0 where
  pub len : sketch.len ≤ min room max_len
  pub print : length sketch.print ≡ 32
  pub print_bytes : IsBytes sketch.print
  pub count : length sketch.parities ≡ blocks_in sketch.len
  pub checks : AllByRecursion IsCheck sketch.parities

-- 32 symbols, each a field of two bytes
unfoldable pub parity_at : Reader (List ℕ)
parity_at = each_at (λ (state : Unit {0}). number_at w16) (λ state symbol. state) 32 tt

-- so many parities
unfoldable pub parities_at : ℕ → Reader (List (List ℕ))
parities_at count = each_at (λ (state : Unit {0}). parity_at) (λ state parity. state) count tt

-- a length that leaves its room, a print, and a parity for each block of a content of this length
unfoldable pub sketch_at : ℕ → Reader Sketch
sketch_at room =
    three (ruled (λ len. nat_le len (min room max_len)) (number_at w32)) (λ len. span_at 32) (λ len print. parities_at (blocks_in len))
    (λ len print parities. record { len = len; print = print; parities = parities })

-- each sketch that fits has one spelling, and each spelling one sketch
abbrev pub OneSpelling : Type 0
OneSpelling = (room : ℕ) → IsCodec (sketch_at room) sketch_spelling (SketchFits room)

-- the sketch of a content that is short enough has a spelling
abbrev pub SketchesFit : Type 0
SketchesFit =
    (content : List ℕ) (sketch : Sketch) (room : ℕ) → IsSketch content sketch → length content ≤ min room max_len → SketchFits room sketch
