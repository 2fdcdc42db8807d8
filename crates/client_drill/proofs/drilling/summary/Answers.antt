use Rattle.std.proofs.Common.{◌≡◌, ◌∙◌, ◌+◌, ap, length, arith}
use Rattle.tree_values.specs.Tree.{Volume, total_size}
use Rattle.server_core.specs.Holding.{Holding, served}
use Rattle.client_drill.specs.declared.session.Worked.{Worked}
use Rattle.client_drill.proofs.Completing.{commands, complete}
use Rattle.client_drill.proofs.drilling.summary.Goals as goal

pub returns : goal.returns
returns c =
    let seed = c.args.seed in
    let count = c.args.count in
    let worked = c.in_ok-worked.worked in
    let works = c.in_ok-worked.ensures.worked in
    let rule = c.in_ok-worked.ensures.rule in
    let all : worked.logged ≡ count + 2 = omega (arith, c.if-worked-from.false, c.from.ensures) in
    let is = works.worked_is in
    record {
      worked = works;
      counted = record {
        logged = all;
        all = omega (arith, ap (λ (w : Worked). w.logged) is, ap (λ (w : Worked). w.acked) is, ap (λ (w : Worked). w.pending) is);
        commands = c.job_count.ensures;
      };
      commands =
          c.job_count.ensures
          ∙ commands seed count c.requires.count c.args.runner.now c.work_off.new.runner c.args.net.now c.work_off.new.net worked c.requires.net works rule all;
      done = c.in_ok-done_count.ensures;
      troubles = c.troubles.ensures;
      rows = c.count.ensures.count ∙ ap (λ (volume : Volume). length volume) (c.tree.ensures.tree ∙ ap (λ (h : Holding). (served h).volume) c.server.ensures);
      bytes = c.in_ok-size_of_files.ensures ∙ ap (λ (h : Holding). total_size (served h).volume) c.server-2.ensures;
      complete = complete seed count c.requires.count c.args.runner.now c.work_off.new.runner c.args.net.now c.work_off.new.net worked c.requires.net works rule;
    }
