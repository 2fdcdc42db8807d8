use Rattle.std.proofs.Common.{◌≡◌, ◌<◌, ◌≤◌, ◌∙◌, refl, arith}
use Rattle.outside.proofs.Writing.{on_err}
use Rattle.server_prog.proofs.Connections.{so_far_begins, so_far_next, all_came, all_made, front}
use Rattle.server_prog.proofs.Others.{others_none, others_then}
use Rattle.port_serving.proofs.Connections.{fits}
use Rattle.server_prog.proofs.serving.serve.Goals as goal

pub loop-take-init : goal.loop-take-init
loop-take-init g c = record { served = so_far_begins _ _ _ c.new-tally.ensures; others = others_none c.args.name.now (g.K.Keeper.images c.args.keeper.now); faults = refl }

pub loop-take-preserved : goal.loop-take-preserved
loop-take-preserved g c = record {
  served = so_far_next _ _ _ _ _ _ _ _ _ _ _ _ c.in_default.not-NoConnection c.tallied-tally.ensures c.loop-take.invariant.served c.in_ok-came.ensures.ok;
  others = others_then c.args.name.now _ _ _ c.loop-take.invariant.others c.serve_next.ensures.others;
  faults = c.in_ok-came.ensures.cause.never (λ is. absurd (cc is)) ∙ c.loop-take.invariant.faults;
}

pub returns-in_err-came-clause-err : goal.returns-in_err-came-clause-err
returns-in_err-came-clause-err g c = on_err _ _ _ _ (front _ _ _ _ _ _ _ _ _ c.loop-take-test.true c.loop-take.invariant.served c.in_err-came.ensures.err)

pub tallied-tally-requires : goal.tallied-tally-requires
tallied-tally-requires g c =
    let fit : (c.loop-take.tally.frames < 65536) × (c.loop-take.tally.faults < 65536) = fits _ _ _ _ _ (omega (arith, c.loop-take-test.true, c.requires)) c.loop-take.invariant.served.port in
    record { frames = fit.0; faults = fit.1 }

pub returns-after-loop-take-clause-ok : goal.returns-after-loop-take-clause-ok
returns-after-loop-take-clause-ok g c =
    let full : c.loop-take._take ≡ c.args.count = omega (arith, c.loop-take-test.false, c.loop-take.auto._take-end) in
    all_made _ _ _ _ _ _ _ _ full c.loop-take.invariant.served

pub returns-in-NoConnection-clause-ok : goal.returns-in-NoConnection-clause-ok
returns-in-NoConnection-clause-ok g c =
    let few : c.loop-take._take ≤ c.args.count = omega (arith, c.loop-take-test.true) in
    all_came _ _ _ _ _ _ _ _ _ _ _ _ few c.in-NoConnection.is c.loop-take.invariant.served c.in_ok-came.ensures.ok
