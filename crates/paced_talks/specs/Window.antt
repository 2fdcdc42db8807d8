-- How long a connection goes on.
use Rattle.std.specs.Prelude.{◌≡◌, ◌≤◌, ◌⊎◌, ℕ, ◌+◌, ◌*◌, ◌-◌, ◌/◌, ◌^◌, min, nat_lt, if◌then◌else◌, Result, Ok, Err}
use Rattle.std.specs.Time.{instant_nanos}
use Rattle.std.specs.declared.time.Instant.{Instant}
use Rattle.paced_talks.specs.declared.window.Window.{Window}

-- how many nanoseconds a second has
abbrev pub second : ℕ
second = 1_000_000_000

-- how many seconds a window has
abbrev pub window_seconds : ℕ
window_seconds = 60

-- how many bytes a window has to move, so that another follows it
abbrev pub window_bytes : ℕ
window_bytes = 512

-- the most bytes that lie in buffers of this machine once it has taken what goes out
abbrev pub most_buffered : ℕ
most_buffered = 262144

-- how many bytes a second leave those buffers at least, as far as that is waited for
abbrev pub slowest_pace : ℕ
slowest_pace = 200

-- how many seconds the end of so many bytes takes to leave them, at that pace
abbrev pub in_buffers : ℕ → ℕ
in_buffers bytes = min bytes most_buffered / slowest_pace

-- how many bytes the head of a frame has
abbrev pub length_bytes : ℕ
length_bytes = 4

-- within how many seconds of its connection the head of a request has to come
abbrev pub head_seconds : ℕ
head_seconds = 30

-- a window that begins at a moment
abbrev pub fresh : Instant → Window
fresh now = record { start = now; head_seconds = window_seconds; seconds = window_seconds; moved = 0 }

-- the first window of a connection that a port took at a moment
abbrev pub of_request : Instant → Window
of_request now = record { start = now; head_seconds = head_seconds; seconds = window_seconds; moved = 0 }

-- the window of a wait of so many seconds that begins at a moment
abbrev pub waiting : ℕ → Instant → Window
waiting seconds now = record { start = now; head_seconds = seconds; seconds = window_seconds; moved = 0 }

-- for how many seconds a window of so many bytes that go out goes on: the system takes them in lumps, as large as its buffers
abbrev pub sending_seconds : ℕ → ℕ
sending_seconds bytes = window_seconds + in_buffers bytes

-- the first window of so many bytes that begin to go out at a moment
abbrev pub sending : ℕ → Instant → Window
sending bytes now = record { start = now; head_seconds = sending_seconds bytes; seconds = sending_seconds bytes; moved = 0 }

-- the window that may follow one at a moment
abbrev pub next_window : Window → Instant → Window
next_window window now = record { start = now; head_seconds = window.seconds; seconds = window.seconds; moved = 0 }

-- for how many nanoseconds a window has gone on
abbrev pub spent : Window → Instant → ℕ
spent window now = instant_nanos now - instant_nanos window.start

-- for how many nanoseconds it may go on
abbrev pub limit : Window → ℕ
limit window = (if nat_lt window.moved length_bytes then window.head_seconds else window.seconds) * second

-- a window that so many more bytes went through
abbrev pub after_bytes : ℕ → Window → Window
after_bytes many window = record window { moved = min (window.moved + many) (2 ^ 64 - 1) }

-- a moment is so many nanoseconds behind another one, or that one where the clock does not go so far
abbrev pub IsLater : ℕ → Instant → Instant → Type 0
IsLater by old new = (instant_nanos new ≡ instant_nanos old + by) ⊎ (new ≡ old)

-- it begins so at some moment
abbrev pub StartsBy : (Instant → Window) → Window → Type 0
StartsBy start window = (now : Instant) × (window ≡ start now)

-- what is left of a window at some moment
abbrev pub Lasts : Window → ℕ → Type 0
Lasts window left = (now : Instant) × (left ≡ limit window - spent window now)

-- a wait of so many seconds had gone on for all of them at some moment
abbrev pub HasWaited : ℕ → Window → Type 0
HasWaited seconds window = StartsBy (waiting seconds) window × (now : Instant) × (seconds * second ≤ spent window now)

-- the window that holds after one: itself, or where it is over and moved its share, the next one
abbrev pub LeadsOn : Window → Window → Type 0
LeadsOn window next =
    (next ≡ window) ⊎ ((window_bytes ≤ window.moved) × (now : Instant) × (limit window ≤ spent window now)
    × (next ≡ next_window window now))

-- a call moved so many bytes in the window that held then, or it failed
abbrev pub MovesBytes : {E : Type 0} → Result ℕ E → Window → Window → Type 0
MovesBytes (Ok count) before after = (window : Window) × LeadsOn before window × (after ≡ after_bytes count window)
MovesBytes (Err e) before after = LeadsOn before after
