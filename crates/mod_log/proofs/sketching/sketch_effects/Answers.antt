use Rattle.std.proofs.Common.{◌∙◌, [], ◌∷◌, ◌++◌, take, sym, ap}
use Rattle.std.proofs.lemmas.List.{take_more}
use Rattle.mod_log.proofs.Sketches.{sketched_more}
use Rattle.mod_log.proofs.sketching.sketch_effects.Goals as goal

pub loop-effect-preserved : goal.loop-effect-preserved
loop-effect-preserved c =
    let effects = c.args.effects.now in
    let i = c.loop-effect.effect-index in
    let effect = c.effect-item.result in
    let one_more = take_more effects i effect c.loop-effect-test.true ∙ ap (λ e. take i effects ++ e ∷ []) (sym c.effect-item.is) in
    rw (one_more, c.in_ok-push.ensures.ok)
    (sketched_more (take i effects) c.loop-effect.sketched effect c.in_ok-sketch_effect.field-0 c.loop-effect.invariant c.in_ok-sketch_effect.ensures)
