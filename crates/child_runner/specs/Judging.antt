-- How much of a surrogate's time for a run is kept for judging what it leaves.
use Rattle.std.specs.Prelude.{ℕ, ◌-◌, ◌*◌, ◌/◌, ◌^◌, min, List, sum_by, Option, Some, option_map}
use Rattle.tree_values.specs.Tree.{node_size}
use Rattle.cmd_capture.specs.declared.job.JobRow.{JobRow}

-- the bytes of all files
abbrev pub file_bytes : List JobRow → ℕ
file_bytes rows = sum_by (λ row. node_size (Some row.node)) rows

-- the same as a count that stands still at the end of its type
abbrev pub job_bytes : List JobRow → ℕ
job_bytes rows = min (file_bytes rows) (2 ^ 64 - 1)

-- a second for each 1,000,000 bytes
abbrev pub judging_nanos : List JobRow → ℕ
judging_nanos rows = job_bytes rows / 1_000_000 * 1_000_000_000

-- how long a run of the job may take where no run may take longer than that
abbrev pub longest_run : Option ℕ → List JobRow → Option ℕ
longest_run longest rows = option_map (λ nanos. nanos - judging_nanos rows) longest
