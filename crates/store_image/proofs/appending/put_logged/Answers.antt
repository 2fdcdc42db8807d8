use Rattle.std.proofs.Common.{◌≡◌, List, ℕ, ◌++◌, ◌∷◌, [], length, ap, ◌∙◌, append_assoc, arith, length-append}
use Rattle.std.specs.Int.{w32}
use Rattle.byte_fields.specs.Field.{digits}
use Rattle.byte_fields.proofs.Facts.{four_bytes}
use Rattle.mod_log.specs.Log.{entry}
use Rattle.store_image.proofs.Framing.{patched}
use Rattle.store_image.proofs.appending.put_logged.Goals as goal

pub put_size-requires-clause-within : goal.put_size-requires-clause-within
put_size-requires-clause-within c =
    let old = c.args.out.now.items in
    let four = digits w32 0 in
    let kind = c.in_ok-push.ensures.items ∙ ap (λ (out : List ℕ). out ++ 1 ∷ []) (c.in_ok-put_u32.ensures.ok ∙ ap (λ (out : List ℕ). out ++ four) c.in_ok-reserve.ensures.items) in
    let all = c.in_ok-spell.ensures.ok ∙ ap (λ (out : List ℕ). out ++ entry c.args.entry.now) kind ∙ append_assoc (old ++ four) (1 ∷ []) (entry c.args.entry.now) in
    omega (arith, c.len-place.ensures, ap length c.in_ok-reserve.ensures.items, ap length all, length-append (old ++ four) (1 ∷ entry c.args.entry.now), length-append old four, four_bytes 0)

pub put_size-requires-clause-small : goal.put_size-requires-clause-small
put_size-requires-clause-small c =
    let old = c.args.out.now.items in
    let four = digits w32 0 in
    let kind = c.in_ok-push.ensures.items ∙ ap (λ (out : List ℕ). out ++ 1 ∷ []) (c.in_ok-put_u32.ensures.ok ∙ ap (λ (out : List ℕ). out ++ four) c.in_ok-reserve.ensures.items) in
    let all = c.in_ok-spell.ensures.ok ∙ ap (λ (out : List ℕ). out ++ entry c.args.entry.now) kind ∙ append_assoc (old ++ four) (1 ∷ []) (entry c.args.entry.now) in
    omega (arith, c.requires.1, c.len-place.ensures, ap length c.in_ok-reserve.ensures.items, ap length all, length-append (old ++ four) (1 ∷ entry c.args.entry.now), length-append old four, four_bytes 0)

pub returns : goal.returns
returns c =
    let old = c.args.out.now.items in
    let four = digits w32 0 in
    let kind = c.in_ok-push.ensures.items ∙ ap (λ (out : List ℕ). out ++ 1 ∷ []) (c.in_ok-put_u32.ensures.ok ∙ ap (λ (out : List ℕ). out ++ four) c.in_ok-reserve.ensures.items) in
    let all = c.in_ok-spell.ensures.ok ∙ ap (λ (out : List ℕ). out ++ entry c.args.entry.now) kind ∙ append_assoc (old ++ four) (1 ∷ []) (entry c.args.entry.now) in
    let place : c.len-place.result ≡ length old = omega (arith, c.len-place.ensures, ap length c.in_ok-reserve.ensures.items) in
    c.put_size.ensures ∙ patched c.len-place.result old four (1 ∷ entry c.args.entry.now) c.spell.new.out.items place (four_bytes 0) all
