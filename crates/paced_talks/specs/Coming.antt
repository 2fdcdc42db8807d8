-- Connections whose frames come in, side by side.
use Rattle.std.specs.Prelude.{◌≡◌, ◌⊎◌, ℕ, ◌+◌, ◌<◌, Bool, true, false, ◌==◌, ◌&&◌}
use Rattle.std.specs.Prelude.{◌||◌, if◌then◌else◌, List, [], ◌∷◌, ◌++◌, length, sum_by, filter, remove}
use Rattle.std.specs.Prelude.{nat_lt, nat_le, slice_index_or}
use Rattle.std.specs.List.{IsFirstBest}
use Rattle.std.specs.Time.{instant_nanos}
use Rattle.std.specs.declared.time.Instant.{Instant}
use Rattle.paced_talks.specs.declared.asking.Asking.{Asking}
use Rattle.paced_talks.specs.Talks.{most_asking}
use Rattle.paced_talks.specs.Window.{length_bytes, of_request}

-- how many bytes of its frame a connection has brought
abbrev pub brought : {S : Type 0} {R : _} → Asking S R → ℕ
brought talk = length talk.frame.items

-- how many bytes these have brought together
abbrev pub bytes_of : {S : Type 0} {R : _} → List (Asking S R) → ℕ
bytes_of talks = sum_by brought talks

-- in which of four groups a connection is where some have to go: one whose frame is whole stands behind the others, and one that has
-- brought its head behind those that have not
abbrev pub group : {S : Type 0} {R : _} → Asking S R → ℕ
group talk = (if talk.is_whole then 2 else 0) + (if nat_le length_bytes (brought talk) then 1 else 0)

-- one goes before another, of an earlier group, or of the same and idle longer
abbrev pub goes_before : {S : Type 0} {R : _} → Asking S R → Asking S R → Bool
goes_before one other = nat_lt (group one) (group other)
    || ((group one == group other) && nat_lt (instant_nanos one.moved_at) (instant_nanos other.moved_at))

-- at this place is the one that goes first, of several alike the one that came first; its frame is not whole
abbrev pub IsIdlest : {S : Type 0} {R : _} → List (Asking S R) → ℕ → Type 0
IsIdlest {S} {R} talks place = IsFirstBest goes_before talks (length talks) place
    × ((none : Asking S R) → (slice_index_or talks place none).is_whole ≡ false)

-- the idlest went
abbrev pub LetsIdlestGo : {S : Type 0} {R : _} → List (Asking S R) → List (Asking S R) → Type 0
LetsIdlestGo old new = (place : ℕ) × IsIdlest old place × (new ≡ remove old place)

-- the new connection, with the time for its head before it, stands behind those that were there, or all of them but the idlest
-- where all places were taken
abbrev pub HasLetIn : {S : Type 0} {R : _} → List (Asking S R) → S → Instant → List (Asking S R) → Type 0
HasLetIn {S} {R} old stream now new = (kept : List (Asking S R)) × (talk : Asking S R)
    × (((length old < most_asking) × (kept ≡ old)) ⊎ ((length old ≡ most_asking) × LetsIdlestGo old kept))
    × (new ≡ kept ++ talk ∷ []) × (talk.stream ≡ stream) × (talk.window ≡ of_request now)

-- these stand in a list in their order, whatever stands between them
abbrev pub StandIn : {X : Type 0} → List X → List X → Type 0
StandIn [] list = Unit {0}
StandIn (x ∷ xs) [] = ⊥
StandIn (x ∷ xs) (y ∷ list) = ((y ≡ x) × StandIn xs list) ⊎ StandIn (x ∷ xs) list

-- each connection whose frame was whole is there as it was, in the same order
abbrev pub KeepsWhole : {S : Type 0} {R : _} → List (Asking S R) → List (Asking S R) → Type 0
KeepsWhole old new = StandIn (filter (λ talk. talk.is_whole) old) new

-- at this place is the first one whose frame is whole
abbrev pub IsFirstWhole : {S : Type 0} {R : _} → List (Asking S R) → ℕ → Type 0
IsFirstWhole {S} {R} talks place = (place < length talks) × ((none : Asking S R) → (slice_index_or talks place none).is_whole ≡ true)
    × ((k : ℕ) (none : Asking S R) → k < place → (slice_index_or talks k none).is_whole ≡ false)
