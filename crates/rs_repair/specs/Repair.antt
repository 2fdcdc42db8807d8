-- What it means that a content is repaired by a sketch.
use Rattle.std.specs.Prelude.{◌≡◌, ℕ, ◌<◌, ◌≤◌, List, length}
use Rattle.byte_fields.specs.Codec.{IsBytes}
use Rattle.rs_parity.specs.CodeWord.{symbols}
use Rattle.rs_parity.specs.Weight.{differing}
use Rattle.rs_parity.specs.Blocks.{block_of, block_count, AreParities}
use Rattle.rs_parity.specs.Sketches.{IsSketch}
use Rattle.rs_parity.specs.declared.sketch.Sketch.{Sketch}

-- two contents of one length differ in at most 16 symbols of each block
pub record AreNear (a b : List ℕ) : Type 0 where
  pub len : length a ≡ length b
  pub blocks : (i : ℕ) → i < block_count a → differing (symbols (block_of a i)) (symbols (block_of b i)) ≤ 16

-- the repaired content has the sketch's length, is near the content, and each of its blocks with its parity in the sketch is a code word
pub record Repairs (content : List ℕ) (sketch : Sketch) (repaired : List ℕ) : Type 0 where
  pub len : length repaired ≡ sketch.len
  pub near : AreNear content repaired
  pub parities : AreParities repaired sketch.parities

-- no bytes repair the content
abbrev pub IsBeyondRepair : List ℕ → Sketch → Type 0
IsBeyondRepair content sketch = (x : List ℕ) → IsBytes x → Repairs content sketch x → ⊥

-- at most one content repairs a content by a sketch
abbrev pub OneRepair : Type 0
OneRepair = (content : List ℕ) (sketch : Sketch) (x y : List ℕ) → IsBytes x → IsBytes y → Repairs content sketch x
    → Repairs content sketch y → x ≡ y

-- a content near another one is repaired to it by its sketch
abbrev pub NearContentsAreRepaired : Type 0
NearContentsAreRepaired =
    (content sketched : List ℕ) (sketch : Sketch) → AreNear content sketched → IsSketch sketched sketch → Repairs content sketch sketched
