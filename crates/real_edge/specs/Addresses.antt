-- A few addresses that are remembered, the oldest first.
use Rattle.std.specs.Prelude.{ℕ, nat_lt, List, [], ◌∷◌, ◌++◌, length, drop, filter, not, Bool, if◌then◌else◌}
use Rattle.std.specs.List.{list_any}
use Rattle.std.specs.Str.{bytes_eq}

-- the most that are remembered
abbrev pub most_remembered : ℕ
most_remembered = 8

-- the address is one of them
abbrev pub is_among : List ℕ → List (List ℕ) → Bool
is_among address known = list_any (λ text. bytes_eq text address) known

-- the newest of them: past the most of them the oldest one is forgotten
abbrev pub newest : List (List ℕ) → List (List ℕ)
newest known = if nat_lt most_remembered (length known) then drop 1 known else known

-- they, where the address is remembered, too
abbrev pub with_address : List ℕ → List (List ℕ) → List (List ℕ)
with_address address known = if is_among address known then known else newest (known ++ address ∷ [])

-- they, where the address is forgotten
abbrev pub without_address : List ℕ → List (List ℕ) → List (List ℕ)
without_address address known = filter (λ text. not (bytes_eq text address)) known
