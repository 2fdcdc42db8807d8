-- How much a folder holds that is read back.
use Rattle.std.specs.Prelude.{ℕ, ◌≤◌, List, length, sum_by, Some}
use Rattle.tree_values.specs.Tree.{node_size}
use Rattle.tree_values.specs.Limits.{max_rows, max_files}
use Rattle.cmd_capture.specs.declared.job.RawRow.{RawRow}

-- the bytes of all files
abbrev pub raw_size : List RawRow → ℕ
raw_size rows = sum_by (λ row. node_size (Some row.node)) rows

-- no more rows, and no more bytes in their files, than a tree has
pub record HasTreeSize (rows : List RawRow) : Type 0 where
  pub few : length rows ≤ max_rows
  pub small : raw_size rows ≤ max_files
