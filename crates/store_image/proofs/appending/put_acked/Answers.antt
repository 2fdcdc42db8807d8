use Rattle.std.proofs.Common.{List, ℕ, ◌++◌, ◌∷◌, [], ap, ◌∙◌}
use Rattle.std.specs.Int.{w64}
use Rattle.byte_fields.specs.Field.{digits}
use Rattle.store_image.proofs.Spelled.{acked_record}
use Rattle.store_image.proofs.appending.put_acked.Goals as goal

pub returns : goal.returns
returns c =
    let number = c.args.number in
    let kind = c.in_ok-push.ensures.items ∙ ap (λ (out : List ℕ). out ++ 2 ∷ []) c.in_ok-put_u32.ensures.ok in
    c.in_ok-put_u64.ensures.ok ∙ ap (λ (out : List ℕ). out ++ digits w64 number) kind ∙ acked_record c.args.out.now.items number
