-- Connections whose answers go out, side by side.
use Rattle.std.specs.Prelude.{◌≡◌, ℕ, ◌+◌, ◌<◌, ◌≤◌, Bool, List, [], ◌∷◌, ◌++◌, length, take, drop, sum_by, nat_lt, Option}
use Rattle.std.specs.List.{IsFirstBest}
use Rattle.std.specs.Io.KnownBytes.{Appends}
use Rattle.std.specs.Time.{instant_nanos}
use Rattle.std.specs.declared.time.Instant.{Instant}
use Rattle.paced_talks.specs.declared.answering.Answering.{Answering}
use Rattle.paced_talks.specs.Talks.{most_answering, most_held}
use Rattle.paced_talks.specs.declared.window.Window.{Window}
use Rattle.paced_talks.specs.Window.{sending}

-- how many bytes these hold together
abbrev pub bytes_of : {S : Type 0} {W : _} → List (Answering S W) → ℕ
bytes_of talks = sum_by (λ talk. length talk.rest.items) talks

-- one has been idle longer than another
abbrev pub is_idler : {S : Type 0} {W : _} → Answering S W → Answering S W → Bool
is_idler one other = nat_lt (instant_nanos one.moved_at) (instant_nanos other.moved_at)

-- at this place is the one that has been idle longest, of several alike the one that came first
abbrev pub IsIdlest : {S : Type 0} {W : _} → List (Answering S W) → ℕ → Type 0
IsIdlest talks place = IsFirstBest is_idler talks (length talks) place

-- there is a place for one more, and room for so many bytes
abbrev pub HasRoom : {S : Type 0} {W : _} → ℕ → List (Answering S W) → Type 0
HasRoom bytes talks = (length talks < most_answering) × (bytes_of talks + bytes ≤ most_held)

-- it has this rest to send, and begins to in this window
abbrev pub IsAtStart : {S : Type 0} {W : _} → Answering S W → S → List ℕ → Window → Type 0
IsAtStart talk stream rest window = (talk.stream ≡ stream) × (talk.rest.items ≡ rest) × (talk.sent ≡ 0) × (talk.window ≡ window)

-- so many bytes of the answer stand behind what the stream held, and the last of the connections has the rest of it to send, in
-- windows for the whole answer
abbrev pub IsQueued : {S : Type 0} {W : _} → (S → Option (List ℕ)) → S → List ℕ → Instant → List (Answering S W) → Type 0
IsQueued {S} {W} contents stream answer now talks = (kept : List (Answering S W)) × (talk : Answering S W) × (begun : S) × (sent : ℕ)
    × (talks ≡ kept ++ talk ∷ []) × IsAtStart talk begun (drop sent answer) (sending (length answer) now)
    × Appends (contents stream) (contents begun) (take sent answer)
