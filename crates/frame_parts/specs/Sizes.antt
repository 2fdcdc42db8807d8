-- How many bytes parts have, one behind the other. The first has none.
use Rattle.std.specs.Prelude.{ℕ, ◌*◌, ◌/◌, ◌==◌, nat_lt, min, max, if◌then◌else◌}
use Rattle.frame_parts.specs.declared.sizes.Outcome.{Outcome}
use Rattle.frame_parts.specs.declared.sizes.Outcome.TheVariants.{Answered, Broke}
use Rattle.frame_parts.specs.Limits.{first_size, least_size, most_size}

-- twice as many bytes, and half as many, within the limits
abbrev pub doubled : ℕ → ℕ
doubled size = min most_size (2 * size)

abbrev pub halved : ℕ → ℕ
halved size = max least_size (size / 2)

-- behind a part that was answered after so many seconds
abbrev pub size_after : ℕ → ℕ → ℕ
size_after size seconds =
    if size == 0 then first_size else if nat_lt seconds 4 then doubled size else if nat_lt 15 seconds then halved size else size

-- behind a part of so many bytes of which that became
abbrev pub next_size : ℕ → Outcome → ℕ
next_size size (Answered seconds) = size_after size seconds
next_size size Broke = halved size
