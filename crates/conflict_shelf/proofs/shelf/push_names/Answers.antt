use Rattle.std.proofs.Common.{◌∙◌, ◌++◌, map, take, ap}
use Rattle.std.specs.Option.{option_to_list}
use Rattle.conflict_shelf.specs.Shelf.{puts_from}
use Rattle.conflict_shelf.proofs.Shelving.{names_more}
use Rattle.conflict_shelf.proofs.shelf.push_names.Goals as goal

pub loop-index-preserved : goal.loop-index-preserved
loop-index-preserved c =
    c.in_ok-push_found.ensures.ok
    ∙ ap (λ names. names ++ option_to_list c.in_ok-found.found) c.loop-index.invariant
    ∙ ap (λ found. (c.args.names.now ++ map (λ put. put.name) (puts_from c.args.seq 0 (take c.loop-index.index c.args.effects.now))) ++ option_to_list found) c.in_ok-found.ensures
    ∙ names_more c.args.names.now c.args.seq c.args.effects.now c.loop-index.index c.index-effects-index.result c.loop-index-test.true c.index-effects-index.is
