use Rattle.std.proofs.Common.{ap}
use Rattle.std.proofs.lemmas.Result.{err_from_is_err_and}
use Rattle.outside.specs.Keeper.{kept_under}
use Rattle.server_prog.specs.Serving.{server_telling}
use Rattle.server_prog.proofs.Running.{run_stops_before, sink_stays}
use Rattle.server_prog.proofs.run.run.Goals as goal

pub returns-in_err-server-clause-turn : goal.returns-in_err-server-clause-turn
returns-in_err-server-clause-turn g c =
    let p = err_from_is_err_and c.from_residual.result c.from_residual.ensures.1 in
    let told = server_telling (g.P.Port.tells c.args.port.now) in
    rw (p.1, p.2) (run_stops_before c.args.count (told (kept_under c.args.name.now (g.K.Keeper.images c.args.keeper.now))) (told (kept_under c.args.name.now (g.K.Keeper.images c.opened.new.keeper))) (g.O.Sink.written c.args.output.now)
    c.in_err-server.field-0.0 c.in_err-server.ensures.no_sink c.in_err-server.ensures.none (ap told c.in_err-server.ensures.same))

pub returns-in_err-server-clause-sink : goal.returns-in_err-server-clause-sink
returns-in_err-server-clause-sink g c =
    let p = err_from_is_err_and c.from_residual.result c.from_residual.ensures.1 in
    rw (p.1, p.2) (sink_stays (g.O.Sink.faults c.args.output.now) c.in_err-server.field-0.0 c.in_err-server.ensures.no_sink)
