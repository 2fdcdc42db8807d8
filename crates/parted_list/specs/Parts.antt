-- How a list of numbers lies in parts.
use Rattle.std.specs.Prelude.{◌≡◌, ℕ, ◌+◌, ◌<◌, ◌≤◌, List, [], length, slice_index_or}

-- how many numbers a full part has
abbrev pub part_size : ℕ
part_size = 2048

-- every part but the last is full; the last has some numbers, and not more
pub record AreParted (parts : List (List ℕ)) : Type 0 where
  pub full : (i : ℕ) → i + 1 < length parts → length (slice_index_or parts i []) ≡ part_size
  pub some : (i : ℕ) → i < length parts → 0 < length (slice_index_or parts i [])
  pub fitting : (i : ℕ) → length (slice_index_or parts i []) ≤ part_size
