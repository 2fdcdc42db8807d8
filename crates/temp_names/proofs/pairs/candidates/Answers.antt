use Rattle.std.proofs.Common.{◌∙◌, ap}
use Rattle.temp_names.specs.Candidates.{client_candidates, replay_candidates}
use Rattle.temp_names.proofs.Found.{clients_same, replays_same}
use Rattle.temp_names.proofs.pairs.candidates.Goals as goal

pub returns-clause-clients : goal.returns-clause-clients
returns-clause-clients c =
    c.in_ok-clients.ensures
    ∙ (λ i. client_candidates c.args.templates.now c.args.effects.now (c.deref-2.ensures.value i) (c.deref-3.ensures.value i))
    ∙ clients_same c.args.templates.now c.args.effects.now c.args.job_rows.now c.in_ok-job.job.items c.args.rows.now c.in_ok-left.left.items
    c.in_ok-job.ensures c.in_ok-left.ensures

pub returns-clause-replays : goal.returns-clause-replays
returns-clause-replays c =
    c.in_ok-replays.ensures
    ∙ ap (λ job. replay_candidates c.args.templates.now job c.args.rows.now) c.deref.ensures.value
    ∙ replays_same c.args.templates.now c.args.job_rows.now c.in_ok-job.job.items c.args.rows.now c.in_ok-job.ensures
