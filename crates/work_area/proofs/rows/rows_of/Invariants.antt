use Rattle.std.specs.Prelude.{◌≡◌, ◌<◌, ℕ, true, take}
use Rattle.cmd_capture.specs.Rows.{read_rows, is_legal_at, AreJobRows}
use Rattle.work_area.proofs.rows.rows_of.Given as goal

abbrev pub invariant-loop-i : goal.invariant-loop-i
invariant-loop-i l =
    (l.rows ≡ read_rows (take l.i l.raw)) × ((k : ℕ) → k < l.i → is_legal_at l.raw k ≡ true) × AreJobRows l.rows
