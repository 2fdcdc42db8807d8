use Rattle.std.proofs.Common.{sym, subst, ℕ}
use Rattle.client_drill.specs.Ending.{DrillEnds}
use Rattle.client_drill.proofs.Telling.{untold}
use Rattle.client_drill.proofs.drilling.drill.Goals as goal

pub returns-in_default : goal.returns-in_default
returns-in_default g c =
    let a = g.O.Sink.written c.args.output.now in
    let p = g.O.Sink.faults c.args.output.now in
    subst (λ (status : ℕ). DrillEnds c.args.seed c.args.count status a a p p) (sym c.code.ensures) (untold c.args.seed c.args.count a p)

pub returns-in_default-network : goal.returns-in_default-network
returns-in_default-network g c =
    let a = g.O.Sink.written c.args.output.now in
    let p = g.O.Sink.faults c.args.output.now in
    subst (λ (status : ℕ). DrillEnds c.args.seed c.args.count status a a p p) (sym c.code-in_default-network.ensures) (untold c.args.seed c.args.count a p)
