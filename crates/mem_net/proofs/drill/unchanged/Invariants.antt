use Rattle.std.specs.Prelude.{◌≡◌, take, map}
use Rattle.cmd_capture.specs.Runs.{raw_row}
use Rattle.mem_net.proofs.drill.unchanged.Given as goal

abbrev pub invariant-loop-row : goal.invariant-loop-row
invariant-loop-row l = l.rows ≡ map raw_row (take l.row-index l.row-items)
