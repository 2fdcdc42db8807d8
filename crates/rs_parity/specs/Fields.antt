-- The fields of the spelling of a sketch in their order, given by their numbers of bytes.
use Rattle.std.specs.Prelude.{ℕ, List, [], ◌∷◌}
use Rattle.std.specs.List.{flat_map}
use Rattle.rs_parity.specs.declared.sketch.Sketch.{Sketch}

-- each symbol is a field
abbrev pub parity_fields : List ℕ → List ℕ
parity_fields parity = flat_map (λ symbol. 2 ∷ []) parity

-- the length, the print, and the fields of the parities
abbrev pub sketch_fields : Sketch → List ℕ
sketch_fields sketch = 4 ∷ 32 ∷ flat_map parity_fields sketch.parities
