use Rattle.std.specs.Prelude.{◌≡◌, ◌<◌}
use Rattle.client_drill.specs.Drill.{number_at}
use Rattle.client_drill.proofs.numbers.number_at.Given as goal

abbrev pub invariant-loop : goal.invariant-loop
invariant-loop l = record {
  value : l.x ≡ number_at l.seed l.counter;
  below : l.x < 65537;
}
