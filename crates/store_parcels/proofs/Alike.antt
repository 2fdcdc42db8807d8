-- Paths of which none asks for another are read alike from every state.
use Rattle.std.proofs.Common.{◌≡◌, ℕ, zero, suc, List, ◌∷◌, Result, Ok, Err, refl, ap}
use Rattle.byte_fields.specs.Field.{Reader, ◌>>=◌, each_at}
use Rattle.file_paths.specs.Path.{FilePath}
use Rattle.file_paths.specs.Reading.{path_at}
use Rattle.store_parcels.specs.Front.{paths_at}

-- the paths from here on, in a state
abbrev pub from_state : {S : Type 0} → ℕ → S → Reader (List FilePath)
from_state {S} = each_at {S = S} {A = FilePath} (λ s. path_at) (λ s x. s)

-- the path, and those that were read behind it
abbrev with_first : FilePath → Result (List FilePath × ℕ) ℕ → Result (List FilePath × ℕ) ℕ
with_first first read = read >>= λ others. Ok (first ∷ others.0, others.1)

pub alike_from : {S : Type 0} (count : ℕ) (state : S) (bytes : List ℕ) (at : ℕ) → from_state count state bytes at ≡ paths_at count bytes at
unfolding each_at paths_at
alike_from zero state bytes at = refl
alike_from (suc n) state bytes at = by (path_at bytes at) (λ next. alike_from n state bytes next)
  where
    by : (r : Result (FilePath × ℕ) ℕ) → ((next : ℕ) → from_state n state bytes next ≡ paths_at n bytes next)
        → (r >>= λ first. with_first first.0 (from_state n state bytes first.1))
        ≡ (r >>= λ first. with_first first.0 (paths_at n bytes first.1))
    by (Ok first) more = ap (with_first first.0) (more first.1)
    by (Err place) more = refl
