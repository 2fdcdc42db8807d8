-- Words that only the contracts of private functions and the proofs cite.
use Rattle.std.specs.Prelude.{ℕ, ◌+◌, length}
use Rattle.std.specs.List.{sum_by}
use Rattle.file_paths.specs.Path.{FilePath}

-- the bytes of the names, with one more for each
abbrev pub joined_size : FilePath → ℕ
joined_size names = sum_by (λ name. 1 + length name) names
