use Rattle.std.proofs.Common.{◌≡◌, List, ℕ, ◌+◌, ◌++◌, ◌∷◌, [], length, ap, ◌∙◌, arith}
use Rattle.std.specs.Int.{w32, w64}
use Rattle.std.specs.List.{sum_by}
use Rattle.byte_fields.specs.Field.{digits}
use Rattle.byte_fields.specs.Numbers.{as_u64}
use Rattle.tree_values.specs.declared.node.Effect.{Effect}
use Rattle.tree_values.specs.Spelling.{effect, effects}
use Rattle.store_image.proofs.Spelled.{effects_sum, taken_record}
use Rattle.store_image.proofs.appending.put_taken.Goals as goal

pub overflow_cast-size : goal.overflow_cast-size
overflow_cast-size c =
    let sum = effects_sum c.args.effects.now c.requires in
    let size = c.effects_size.ensures ∙ ap (λ (es : List Effect). as_u64 (sum_by (λ e. length (effect e)) es)) c.as_slice.ensures.items in
    omega (arith, size, sum.0, sum.1)

pub overflow_add-size : goal.overflow_add-size
overflow_add-size c =
    let sum = effects_sum c.args.effects.now c.requires in
    let size = c.effects_size.ensures ∙ ap (λ (es : List Effect). as_u64 (sum_by (λ e. length (effect e)) es)) c.as_slice.ensures.items in
    omega (arith, size, sum.0, sum.1)

pub overflow_cast-size-2 : goal.overflow_cast-size-2
overflow_cast-size-2 c =
    let sum = effects_sum c.args.effects.now c.requires in
    let size = c.effects_size.ensures ∙ ap (λ (es : List Effect). as_u64 (sum_by (λ e. length (effect e)) es)) c.as_slice.ensures.items in
    omega (arith, size, sum.0, sum.1)

pub returns : goal.returns
returns c =
    let sum = effects_sum c.args.effects.now c.requires in
    let size = c.effects_size.ensures ∙ ap (λ (es : List Effect). as_u64 (sum_by (λ e. length (effect e)) es)) c.as_slice.ensures.items in
    let count = 14 + c.effects_size.result in
    let is : count ≡ 10 + length (effects c.args.effects.now) = omega (arith, size, sum.0) in
    let number = c.in_ok-put_u32.ensures.ok ∙ ap (λ (out : List ℕ). out ++ digits w32 count) c.in_ok-reserve.ensures.items in
    let kind = c.in_ok-push.ensures.items ∙ ap (λ (out : List ℕ). out ++ 3 ∷ []) number in
    let client = c.in_ok-push-2.ensures.items ∙ ap (λ (out : List ℕ). out ++ c.args.client ∷ []) kind in
    let last = c.in_ok-put_u64.ensures.ok ∙ ap (λ (out : List ℕ). out ++ digits w64 c.args.last) client in
    c.in_ok-spell.ensures.ok ∙ ap (λ (out : List ℕ). out ++ effects c.args.effects.now) last ∙ taken_record c.args.out.now.items count c.args.client c.args.last c.args.effects.now is
