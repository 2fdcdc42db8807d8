-- Connections side by side.
use Rattle.std.specs.Prelude.{◌≡◌, ◌⊎◌, ℕ, ◌+◌, ◌-◌, ◌^◌, ◌<◌, ◌≤◌, min, List, ◌++◌, length, Option}
use Rattle.std.specs.Option.{ForSome}
use Rattle.std.specs.Time.{instant_nanos}
use Rattle.std.specs.declared.time.Instant.{Instant}
use Rattle.paced_talks.specs.declared.window.Window.{Window}
use Rattle.paced_talks.specs.Frames.{announced_bytes, first_frame}
use Rattle.paced_talks.specs.Window.{after_bytes, LeadsOn}

-- the most connections whose frames come in side by side
abbrev pub most_asking : ℕ
most_asking = 256

-- the most bytes of frames that come in side by side: two of the longest
abbrev pub most_gathered : ℕ
most_gathered = 134217728

-- the most connections whose answers go out side by side
abbrev pub most_answering : ℕ
most_answering = 64

-- the most bytes of answers that are held until they are out: two of the longest
abbrev pub most_held : ℕ
most_held = 134217728

-- the most that is counted
abbrev pub most_counted : ℕ
most_counted = 2 ^ 64 - 1

-- a count that rose by so many; it stands still at its end
abbrev pub counted_up : ℕ → ℕ → ℕ
counted_up by count = min (count + by) most_counted

-- of so many connections so many are left, and each that went is counted as lost
abbrev pub Loses : ℕ → ℕ → ℕ → ℕ → Type 0
Loses before after lost now = (after ≤ before) × (now ≡ counted_up (before - after) lost)

-- for how many nanoseconds a peer that was answered may be silent
abbrev pub silence : ℕ
silence = 200_000_000

-- for how many it may go on sending
abbrev pub parting : ℕ
parting = 2_000_000_000

-- for how many nanoseconds more a peer may go on that was answered and last heard at these moments
abbrev pub parting_left : Instant → Instant → Instant → ℕ
parting_left since heard now =
    min (parting - (instant_nanos now - instant_nanos since)) (silence - (instant_nanos now - instant_nanos heard))

-- the bytes are a frame, or what has come of one: no byte stands behind it
abbrev pub IsBegun : List ℕ → Type 0
IsBegun bytes = length bytes ≤ 4 + announced_bytes bytes

-- the bytes that were read of a stream, of which these are left, are the first frame of all that it brings, or all of that
abbrev pub IsFirstFrame : List ℕ → Option (List ℕ) → Type 0
IsFirstFrame bytes left = (first_frame bytes ≡ bytes) × ForSome left (λ rest. first_frame (bytes ++ rest) ≡ bytes)

-- a frame grew from so many bytes to so many, and each byte more was moved in the window that held then
abbrev pub HasMoved : ℕ → ℕ → Window → Window → Type 0
HasMoved before after old new =
    ((after ≡ before) × LeadsOn old new)
    ⊎ ((count : ℕ) × (window : Window) × LeadsOn old window × (new ≡ after_bytes count window) × (after ≡ before + count))

-- when a connection moved its last byte: now, where its count rose from so many to so many, and else when it did before
abbrev pub MovedAt : ℕ → ℕ → Instant → Instant → Instant → Type 0
MovedAt before after now old new = (before < after → new ≡ now) × (after ≡ before → new ≡ old)
