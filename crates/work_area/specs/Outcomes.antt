-- Why raw rows are no rows of a job.
use Rattle.std.specs.Prelude.{◌≡◌, ℕ, List, ⊤}
use Rattle.byte_fields.specs.Numbers.{as_u32}
use Rattle.cmd_capture.specs.declared.job.RawRow.{RawRow}
use Rattle.cmd_capture.specs.Rows.{IsFirstOdd}
use Rattle.work_area.specs.declared.rows.RowsFault.{RowsFault}
use Rattle.work_area.specs.declared.rows.RowsFault.TheVariants.{OddTree, Memory}

-- the fault names the first row that may not stand behind those before it
abbrev pub IsRowsFault : List RawRow → RowsFault → Type 0
IsRowsFault raws (OddTree n) = (i : ℕ) × (n ≡ as_u32 i) × IsFirstOdd raws i
IsRowsFault raws Memory = ⊤
