use Rattle.client_drill.specs.declared.summary.Summary.{Summary}
use Rattle.client_drill.specs.Drilled.{summary_text, Drilled}
use Rattle.client_drill.proofs.Telling.{with_summary}
use Rattle.client_drill.proofs.drilling.told.Goals as goal

pub returns : goal.returns
returns c =
    with_summary c.text.result (λ text. text.items)
    (λ (summary : Summary). Drilled c.args.seed c.args.count c.args.runner.now c.summary.new.runner c.args.net.now c.summary.new.net summary)
    (λ (summary : Summary). summary_text c.args.seed c.args.count summary) c.in_ok-summary.summary c.in_ok-summary.ensures c.text.ensures
