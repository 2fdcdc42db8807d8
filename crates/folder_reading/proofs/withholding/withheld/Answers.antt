use Rattle.std.proofs.Common.{sym}
use Rattle.file_paths.proofs.Loops.{filter_map_more}
use Rattle.folder_reading.specs.Withheld.{withheld_row}
use Rattle.folder_reading.proofs.withholding.withheld.Goals as goal

pub loop-row-preserved : goal.loop-row-preserved
loop-row-preserved c =
    let more = filter_map_more withheld_row c.args.rows.now c.loop-row.row-index c.row-item.result c.loop-row-test.true c.row-item.is in
    rw (c.in_ok-push_found.ensures.ok, c.loop-row.invariant, c.in_ok-withheld_row.ensures) (sym more)
