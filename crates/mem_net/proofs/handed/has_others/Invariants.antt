use Rattle.std.specs.Prelude.{◌≡◌, ◌≢◌, ◌≤◌, ◌<◌, ℕ}
use Rattle.world_rules.specs.Served.{IsServed}
use Rattle.server_core.specs.Holding.{served}
use Rattle.mem_net.proofs.handed.has_others.Given as goal

-- none of the clients so far has an entry, but the one for whom it is
abbrev pub invariant-loop-other : goal.invariant-loop-other
invariant-loop-other l = record {
  none : (other : ℕ) → 1 ≤ other → other < l.other → other ≢ l.own → (served l.server).last other ≡ 0;
  legal : 1 < l.other → IsServed (served l.server);
}
