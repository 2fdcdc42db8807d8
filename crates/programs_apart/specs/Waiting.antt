-- How long a program is not looked at: in nanoseconds.
use Rattle.std.specs.Prelude.{ℕ, ◌/◌, ◌==◌, min, max, Option, Some, None, if◌then◌else◌}

-- the shortest and the longest pause between two looks at a program
abbrev pub shortest_pause : ℕ
shortest_pause = 1_000_000

abbrev pub longest_pause : ℕ
longest_pause = 20_000_000

-- the pause behind a look at a program that has run for so long: an eighth of that
abbrev pub pause_behind : ℕ → ℕ
pause_behind spent = min (max (spent / 8) shortest_pause) longest_pause

-- the same where only so much time may be left; none where no time is left
abbrev pub next_pause : ℕ → Option ℕ → Option ℕ
next_pause spent None = Some (pause_behind spent)
next_pause spent (Some left) = if left == 0 then None else Some (min left (pause_behind spent))
