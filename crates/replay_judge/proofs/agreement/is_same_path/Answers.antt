use Rattle.std.proofs.Common.{sym, ◌∙◌, ap, true≢false}
use Rattle.std.specs.Ordering.{is_eq}
use Rattle.file_paths.proofs.Order.{tied_path, path_tied}
use Rattle.replay_judge.proofs.agreement.is_same_path.Goals as goal

pub returns-clause-same : goal.returns-clause-same
returns-clause-same c same = tied_path c.args.p.now c.args.q.now (ap is_eq (sym c.cmp.ensures) ∙ sym c.is_eq.ensures ∙ same)

pub returns-clause-other : goal.returns-clause-other
returns-clause-other c other same =
    true≢false (sym (path_tied c.args.p.now c.args.q.now same) ∙ ap is_eq (sym c.cmp.ensures) ∙ sym c.is_eq.ensures ∙ other)
