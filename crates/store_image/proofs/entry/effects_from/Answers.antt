use Rattle.std.proofs.Common.{◌≡◌, ◌∙◌, ◌-◌, sym, ap, arith}
use Rattle.std.proofs.lemmas.Result.{err_from_is_err_and}
use Rattle.byte_fields.proofs.Loop.{goes_on, breaks_off, is_done}
use Rattle.tree_values.specs.Tree.{changed}
use Rattle.tree_values.specs.Effects.{content_size}
use Rattle.store_image.specs.Reading.{growing_effect_at, grown}
use Rattle.store_image.proofs.Growing.{changed_all-push}
use Rattle.store_image.proofs.entry.effects_from.Goals as goal

pub returns-in_err-effect-clause-read : goal.returns-in_err-effect-clause-read
returns-in_err-effect-clause-read c =
    let p = err_from_is_err_and c.from_residual.result c.from_residual.ensures.1 in
    rw (p.1, p.2) (breaks_off (growing_effect_at c.args.format) grown c.args.bytes.now _ c.in_err-effect.field-0.0 c.loop.effects c.args.count c.loop.counter (record { tree = c.loop.tree; room = c.loop.room }) c.loop.at c.loop-test.true c.in_err-effect.ensures.read c.loop.invariant.so_far)

pub loop-preserved : goal.loop-preserved
loop-preserved c =
    let e = c.in_ok-effect.effect in
    let step = goes_on (growing_effect_at c.args.format) grown c.args.bytes.now _ c.loop.effects c.args.count c.loop.counter (record { tree = c.loop.tree; room = c.loop.room }) c.loop.at e c.in_ok-effect.next c.loop-test.true c.in_ok-effect.ensures.read c.loop.invariant.so_far in
    let applied = c.in_ok-effect.ensures.applied ∙ ap (changed e) c.loop.invariant.applied ∙ sym (changed_all-push c.loop.effects e c.args.tree.now) in
    let room : c.saturating_sub-room.result ≡ c.loop.room - content_size e = omega (arith, c.saturating_sub-room.ensures, c.content_size.ensures) in
    record {
      so_far = rw (c.in_ok-push.ensures.ok, c.in_ok-effect.ensures.applied, room) step;
      applied = rw c.in_ok-push.ensures.ok applied;
    }

pub returns-clause-read : goal.returns-clause-read
returns-clause-read c = is_done (growing_effect_at c.args.format) grown c.args.bytes.now _ c.loop.effects c.args.count c.loop.counter (record { tree = c.loop.tree; room = c.loop.room }) c.loop.at c.loop-test.false c.loop.invariant.so_far
