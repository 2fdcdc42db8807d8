use Rattle.std.proofs.Common.{◌∙◌, sym, subst, ℕ}
use Rattle.client_drill.specs.Ending.{DrillEnds}
use Rattle.client_drill.proofs.Telling.{untold, told_so}
use Rattle.client_drill.proofs.drilling.drill_on.Goals as goal

pub returns-in-Ok-clause-ends : goal.returns-in-Ok-clause-ends
returns-in-Ok-clause-ends g c =
    let a = g.O.Sink.written c.args.output.now in
    let b = g.O.Sink.written c.write_all.new.output in
    let p = g.O.Sink.faults c.args.output.now in
    let q = g.O.Sink.faults c.write_all.new.output in
    let told = c.in-Ok.ensures in
    subst (λ (status : ℕ). DrillEnds c.args.seed c.args.count status a b p q) (sym (c.code.ensures ∙ c.status_of.ensures))
    (told_so c.args.seed c.args.count c.deref.result.now told.0 told.1.counted (c.deref.ensures.value ∙ told.2) a b p q c.write_all.result c.write_all.ensures.all
    c.write_all.ensures.front c.write_all.ensures.cause)

pub returns-in-Err-clause-ends : goal.returns-in-Err-clause-ends
returns-in-Err-clause-ends g c =
    let a = g.O.Sink.written c.args.output.now in
    let p = g.O.Sink.faults c.args.output.now in
    subst (λ (status : ℕ). DrillEnds c.args.seed c.args.count status a a p p) (sym c.code-in-Err.ensures) (untold c.args.seed c.args.count a p)
