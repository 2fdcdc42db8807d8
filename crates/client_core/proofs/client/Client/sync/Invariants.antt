use Rattle.std.proofs.Common.{◌≡◌, ◌≤◌, length}
use Rattle.client_core.specs.Inside.{IsCountedBy}
use Rattle.client_core.proofs.Syncs.{WentSoFar}
use Rattle.client_core.proofs.client.Client.sync.Given as goal
use Rattle.client_core.proofs.Journal.{JournalIsCurrent}

abbrev pub invariant-loop-entry : goal.invariant-loop-entry
invariant-loop-entry g l = record {
  later : (g.L.Link.tells l.fn.link).troubles ≤ (g.L.Link.tells l.link).troubles;
  faults : g.K.Keeper.faults l.keeper ≡ g.K.Keeper.faults l.fn.keeper;
  number : l.self-inside.number ≡ l.client;
  current : JournalIsCurrent (g.K.Keeper.images l.keeper) l.route.image l.client l.self-inside.log l.self-inside.journal;
  counted : IsCountedBy (g.K.Keeper.images l.keeper) l.route.image l.self-inside.journal;
  did : WentSoFar l.client l.route l.initial.self-inside.log l.initial.self-inside.journal l.self-inside.log l.self-inside.journal (g.K.Keeper.images l.fn.keeper) (g.K.Keeper.images l.keeper) (g.L.Link.tells l.fn.link) (g.L.Link.tells l.link);
}

abbrev pub decreases-loop-entry : goal.decreases-loop-entry
decreases-loop-entry g l = length l.self-inside.log.pending
