use Rattle.std.proofs.Common.{◌≡◌}
use Rattle.outside.specs.Keeper.{kept_under}
use Rattle.server_core.specs.Holding.{served}
use Rattle.server_prog.specs.Serving.{server_telling}
use Rattle.server_prog.specs.Run.{OthersKept}
use Rattle.server_prog.proofs.serving.serve.Given as goal
use Rattle.server_prog.proofs.SoFar.{ServesSoFar}

abbrev pub invariant-loop-take : goal.invariant-loop-take
invariant-loop-take g l = record {
  served :
      ServesSoFar l._take l.tally l.journal (served l.fn.server) (served l.server)
      (server_telling (g.P.Port.tells l.fn.port) (kept_under l.name (g.K.Keeper.images l.fn.keeper)))
      (server_telling (g.P.Port.tells l.port) (kept_under l.name (g.K.Keeper.images l.keeper)));
  others : OthersKept l.name (g.K.Keeper.images l.fn.keeper) (g.K.Keeper.images l.keeper);
  faults : g.K.Keeper.faults l.keeper ≡ g.K.Keeper.faults l.fn.keeper;
}
