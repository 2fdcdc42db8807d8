use Rattle.std.proofs.Common.{◌∙◌, ◌+◌, ◌-◌, ◌*◌, ◌∷◌, ◌++◌, [], ap, List, arith}
use Rattle.mem_wires.specs.declared.fate.Fate.{Fate}
use Rattle.client_drill.specs.Drill.{fates_from}
use Rattle.client_drill.proofs.Fating.{number_more, fate_more}
use Rattle.client_drill.proofs.fates.fates.Goals as goal

pub loop-k-preserved : goal.loop-k-preserved
loop-k-preserved c =
    let seed = c.args.seed in
    let count = c.args.count in
    let k = c.loop-k.k in
    let fates = c.loop-k.fates.items in
    record {
      value = c.next-x.ensures.value ∙ number_more seed count k c.loop-k.x c.loop-k.invariant.value;
      below = c.next-x.ensures.below;
      rest =
          ap (λ (items : List Fate). items ++ fates_from seed count (k + 1) (4 * count - (k + 1)))
          (c.in_ok-push.ensures.items ∙ ap (λ (fate : Fate). fates ++ fate ∷ []) (c.fate_at.ensures seed count c.loop-k.invariant.value))
          ∙ fate_more seed count k fates (omega (arith, c.loop-k-test.true)) c.loop-k.invariant.rest;
    }
