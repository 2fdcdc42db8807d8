use Rattle.std.proofs.Common.{◌≡◌, ◌∙◌, Some, None, sym, ap, subst}
use Rattle.tree_values.specs.Tree.{Volume, IsTree}
use Rattle.client_core.specs.Inside.{first_lower}
use Rattle.client_core.proofs.Pulls.{meets_older, meets_newer}
use Rattle.client_core.proofs.pulling.take_tree.Goals as goal

pub returns-in-Some : goal.returns-in-Some
returns-in-Some c =
    let log = c.args.log.now in
    let found : first_lower log.base c.args.seen ≡ Some c.in-Some.row.now =
    sym (c.in-Some.ensures ∙ ap (λ (base : Volume). first_lower base c.args.seen) (c.as_slice.ensures.items ∙ c.requires.base)) in
    meets_older log c.args.seen c.in-Some.row.now c.older_at.result (subst IsTree c.requires.base c.requires.tree).in_order found c.older_at.ensures

pub returns-in-None : goal.returns-in-None
returns-in-None c =
    let log = c.args.log.now in
    let found : first_lower log.base c.args.seen ≡ None =
    sym (c.in-None.ensures ∙ ap (λ (base : Volume). first_lower base c.args.seen) (c.as_slice.ensures.items ∙ c.requires.base)) in
    meets_newer log c.replace.new.self c.args.seen c.count-count.result c.requires.other found c.count-count.ensures.count c.replace.ensures.pulled
