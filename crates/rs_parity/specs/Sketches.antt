-- What stands for a content: its length, its print and the parities of its blocks.
use Rattle.std.specs.Prelude.{◌≡◌, ℕ, List, length}
use Rattle.sha2.specs.Sha256.{sha256}
use Rattle.rs_parity.specs.Blocks.{AreParities}
use Rattle.rs_parity.specs.declared.sketch.Sketch.{Sketch}

-- the length, the SHA-256 and the parities of a content
pub record IsSketch (content : List ℕ) (sketch : Sketch) : Type 0 where
  pub len : sketch.len ≡ length content
  pub print : sketch.print ≡ sha256 content
  pub parities : AreParities content sketch.parities

-- a content has one sketch
abbrev pub OneSketch : Type 0
OneSketch = (content : List ℕ) (a b : Sketch) → IsSketch content a → IsSketch content b → a ≡ b

-- a content among the first and one among the second that have one print are equal
abbrev pub Distinct : (List ℕ → Type 0) → (List ℕ → Type 0) → Type 0
Distinct First Second = (x y : List ℕ) → First x → Second y → sha256 x ≡ sha256 y → x ≡ y
