use Rattle.std.proofs.Common.{true≢false, sym, ◌∙◌, subst}
use Rattle.tree_values.specs.Tree.{Volume}
use Rattle.client_core.specs.Pulling.{IsKeptBase}
use Rattle.client_core.specs.Inside.{MeetsEnds}
use Rattle.client_core.proofs.Pulls.{meets_kept}
use Rattle.client_core.proofs.pulling.take_rows.Goals as goal

pub returns-then-is_kept_base : goal.returns-then-is_kept_base
returns-then-is_kept_base c =
    meets_kept c.args.log.now c.args.rows c.tree.result.now c.count.result c.requires.idle (c.is_kept_base.ensures.0 c.if-is_kept_base.true) c.tree.ensures.tree c.count.ensures.count

pub take_tree-requires-clause-other : goal.take_tree-requires-clause-other
take_tree-requires-clause-other c = λ kept.
    true≢false (sym (c.is_kept_base.ensures.1 (subst (λ (v : Volume). IsKeptBase c.args.log.now v) c.in-Ok.ensures.ok kept)) ∙ c.if-is_kept_base.false)

pub returns-in-Ok : goal.returns-in-Ok
returns-in-Ok c =
    subst (λ (v : Volume). MeetsEnds c.args.log.now c.args.log.now.acked v c.take_tree.result c.take_tree.new.log) c.in-Ok.ensures.ok c.take_tree.ensures
