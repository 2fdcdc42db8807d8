use Rattle.std.proofs.Common.{◌≡◌}
use Rattle.temp_names.specs.Rename.{unrenamed_rows, renamed_rows}
use Rattle.temp_names.proofs.rows.parted.Given as goal

abbrev pub invariant-loop-row : goal.invariant-loop-row
invariant-loop-row l = record {
  kept : l.kept.items ≡ unrenamed_rows l.renaming l.yielded;
  renamed : l.renamed.items ≡ renamed_rows l.renaming l.yielded;
}
