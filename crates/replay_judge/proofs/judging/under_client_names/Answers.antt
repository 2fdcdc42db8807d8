use Rattle.std.proofs.Common.{sym, ◌∙◌, ap, subst}
use Rattle.std.specs.List.{AllByRecursion}
use Rattle.file_paths.specs.Path.{IsPath}
use Rattle.cmd_capture.specs.Rows.{AreJobRows}
use Rattle.mod_log.specs.Sketched.{sketches_touch}
use Rattle.temp_names.specs.Rename.{rename}
use Rattle.temp_names.proofs.Legal.{rows_stay_legal}
use Rattle.replay_judge.proofs.judging.under_client_names.Goals as goal

pub returns-clause-legal : goal.returns-clause-legal
returns-clause-legal c =
    let sketched = c.args.sketched.now in
    let paths = subst (λ effects. AllByRecursion IsPath (sketches_touch effects)) c.as_slice.ensures.items c.have_paths.ensures in
    subst AreJobRows (sym (c.in_ok-renamed.ensures ∙ ap (λ pairs. rename pairs c.args.rows) (c.deref.ensures.value ∙ c.in_ok-renaming.ensures)))
    (rows_stay_legal sketched.origin.command.templates sketched.effects c.args.job.now.rows c.args.rows paths c.requires)
