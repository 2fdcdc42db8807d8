use Rattle.std.proofs.Common.{◌≡◌, ◌∙◌, ◌<◌, length, get_or, List, Ok, Err, None, subst}
use Rattle.tree_values.specs.declared.node.Effect.{Effect}
use Rattle.mod_log.specs.Append.{appended}
use Rattle.client_shelf.proofs.Logged.{one_more, one_refused}
use Rattle.client_shelf.proofs.logging.log_all.Goals as goal

pub returns-in-Err-clause-err : goal.returns-in-Err-clause-err
returns-in-Err-clause-err c =
    let all = c.as_slice-effects-items.ensures.items in
    let within = subst (λ items. c.loop-effects.effects-index < length items) all c.loop-effects-test.true in
    let item = subst (λ items. c.effects-item.result ≡ get_or items c.loop-effects.effects-index c.effects-item.result) all c.effects-item.is in
    let log = c.loop-effects.client.log in
    λ other. one_refused c.args.lists.now c.loop-effects.effects-index c.effects-item.result c.args.client.now.log log within item c.loop-effects.invariant.logged c.in-Err.refusal
    (subst (λ (effects : List Effect). appended None effects log ≡ Err c.in-Err.refusal) c.in_ok-copy.ensures (c.in-Err.ensures.err other))

pub loop-effects-preserved : goal.loop-effects-preserved
loop-effects-preserved c =
    let all = c.as_slice-effects-items.ensures.items in
    let within = subst (λ items. c.loop-effects.effects-index < length items) all c.loop-effects-test.true in
    let item = subst (λ items. c.effects-item.result ≡ get_or items c.loop-effects.effects-index c.effects-item.result) all c.effects-item.is in
    let log = c.loop-effects.client.log in
    let next = c.local_all.new.self.log in
    record {
      logged = one_more c.args.lists.now c.loop-effects.effects-index c.effects-item.result c.args.client.now.log log within item c.loop-effects.invariant.logged next
          (subst (λ (effects : List Effect). appended None effects log ≡ Ok next) c.in_ok-copy.ensures c.in_default.ensures.ok);
      number = c.local_all.ensures.number ∙ c.loop-effects.invariant.number;
      journal = c.local_all.ensures.journal ∙ c.loop-effects.invariant.journal;
      ready = λ images name ready. c.local_all.ensures.ready images name (c.loop-effects.invariant.ready images name ready);
    }
