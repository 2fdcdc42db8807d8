use Rattle.std.proofs.Common.{◌≡◌, ◌<◌, ◌≤◌, length, get_or, sym, ap, ◌∙◌, Ok, Err, arith, subst}
use Rattle.std.specs.List.{AllByRecursion}
use Rattle.std.proofs.lemmas.List.{take_all}
use Rattle.tree_values.specs.Tree.{IsLegalEffect}
use Rattle.vol_tree.proofs.Steps.{undone_more, can_undo_more, apply_all-next, apply_all-refused, refusal_of, all_next}
use Rattle.vol_tree.proofs.effects.apply_all.Goals as goal

pub returns-in-Err-clause-err : goal.returns-in-Err-clause-err
returns-in-Err-clause-err c =
    let all = c.as_slice-effect-items.ensures.items in
    let within = subst (λ items. c.loop-effect.effect-index < length items) all c.loop-effect-test.true in
    let item = subst (λ items. c.effect-item.result ≡ get_or items c.loop-effect.effect-index c.effect-item.result) all c.effect-item.is in
    refusal_of c.args.effects.now c.args.tree.now c.loop-effect.i c.in-Err.refusal c.refused_at.result c.refused_at.ensures (λ no_memory.
    apply_all-refused c.args.effects.now c.loop-effect.effect-index c.effect-item.result c.args.tree.now c.loop-effect.tree c.in-Err.refusal
    within item c.loop-effect.invariant.applied (c.in-Err.ensures.err no_memory)
    ∙ ap (λ n. Err (n, c.in-Err.refusal)) (sym c.loop-effect.invariant.counted))

pub loop-effect-preserved : goal.loop-effect-preserved
loop-effect-preserved c =
    let all = c.as_slice-effect-items.ensures.items in
    let within = subst (λ items. c.loop-effect.effect-index < length items) all c.loop-effect-test.true in
    let item = subst (λ items. c.effect-item.result ≡ get_or items c.loop-effect.effect-index c.effect-item.result) all c.effect-item.is in
    record {
      applied = apply_all-next c.args.effects.now c.loop-effect.effect-index c.effect-item.result c.args.tree.now c.loop-effect.tree (Ok c.apply_one.new.tree)
          within item c.loop-effect.invariant.applied c.in_default.ensures.ok;
      same = undone_more c.loop-effect.undos.items c.apply_one.new.undos.items c.loop-effect.tree c.apply_one.new.tree c.args.tree.now c.in_default.ensures.kept c.loop-effect.invariant.same;
      possible = can_undo_more c.loop-effect.undos.items c.apply_one.new.undos.items c.loop-effect.tree c.apply_one.new.tree c.in_default.ensures.kept c.loop-effect.invariant.possible;
      legal = all_next IsLegalEffect c.args.effects.now c.loop-effect.effect-index c.effect-item.result within item c.loop-effect.invariant.legal c.apply_one.ensures.legal;
      counted = omega (arith, c.loop-effect.invariant.counted);
    }

pub overflow_add-i : goal.overflow_add-i
overflow_add-i c =
    let within = subst (λ items. c.loop-effect.effect-index < length items) c.as_slice-effect-items.ensures.items c.loop-effect-test.true in
    omega (arith, c.loop-effect.invariant.counted, within, c.as_slice-effect-items.ensures.bound)

pub returns-clause-legal : goal.returns-clause-legal
returns-clause-legal c =
    let past = subst (λ items. length items ≤ c.loop-effect.effect-index) c.as_slice-effect-items.ensures.items c.loop-effect-test.false in
    subst (AllByRecursion IsLegalEffect) (take_all c.loop-effect.effect-index c.args.effects.now past) c.loop-effect.invariant.legal
