use Rattle.std.specs.Prelude.{◌≡◌, ◌++◌, ◌+◌, ◌-◌, ◌*◌, ◌<◌}
use Rattle.client_drill.specs.Drill.{number_at, fates_from, drill_fates}
use Rattle.client_drill.proofs.fates.fates.Given as goal

abbrev pub invariant-loop-k : goal.invariant-loop-k
invariant-loop-k l = record {
  value : l.x ≡ number_at l.seed (l.count + 1 + l.k);
  below : l.x < 65537;
  rest : l.fates.items ++ fates_from l.seed l.count l.k (4 * l.count - l.k) ≡ drill_fates l.seed l.count;
}
