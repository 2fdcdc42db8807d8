-- Stores that are sent once more.
use Rattle.std.specs.Prelude.{ℕ, ◌+◌, ◌-◌, ◌&&◌, nat_le, Bool, Option, Some, None, if◌then◌else◌}
use Rattle.wire_frames.specs.Limits.{max_parts}
use Rattle.store_parcels.specs.declared.front.NamedStore.{NamedStore}

-- whether all entries of a store are taken, where the last one that is taken of its client has this number
abbrev pub is_taken : NamedStore → ℕ → Bool
is_taken named last =
    nat_le 1 named.number
    && (nat_le 1 named.entries && (nat_le named.entries max_parts && nat_le (named.number + named.entries) (last + 1)))

-- the number of the last entry of a store that is taken already
abbrev pub taken_upto : NamedStore → ℕ → Option ℕ
taken_upto named last = if is_taken named last then Some (named.number + named.entries - 1) else None
