use Rattle.std.proofs.Common.{◌∙◌, Ok, sym, ap}
use Rattle.std.specs.Option.{option_to_list}
use Rattle.conflict_shelf.proofs.Shelving.{effect_more, effect_stop}
use Rattle.conflict_shelf.proofs.shelf.effects_of.Goals as goal

pub returns-in-Err-clause-err : goal.returns-in-Err-clause-err
returns-in-Err-clause-err c =
    λ other. effect_stop c.args.folder.now c.args.seq c.args.effects.now c.loop-index.index c.index-effects-index.result c.loop-index.shelved c.in-Err.refusal
    c.loop-index-test.true c.index-effects-index.is c.loop-index.invariant (c.in-Err.ensures.err other)

pub loop-index-preserved : goal.loop-index-preserved
loop-index-preserved c =
    effect_more c.args.folder.now c.args.seq c.args.effects.now c.loop-index.index c.index-effects-index.result c.loop-index.shelved (option_to_list c.in-Ok.found)
    c.loop-index-test.true c.index-effects-index.is c.loop-index.invariant c.in-Ok.ensures.ok
    ∙ ap (λ effects. Ok effects) (sym c.in_ok-push_found-in-Ok.ensures.ok)
