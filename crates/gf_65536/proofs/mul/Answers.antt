use Rattle.std.proofs.Common.{◌<◌, ◌/◌, ◌^◌, ◌∙◌, ap, sym, subst, arith}
use Rattle.std.proofs.lemmas.Nat.{and_mask}
use Rattle.gf_65536.specs.Field.{remainder}
use Rattle.gf_65536.proofs.Windows.{mul_is, product_below, joined_windows}
use Rattle.gf_65536.proofs.mul.Goals as goal

pub reduced-requires : goal.reduced-requires
reduced-requires c =
    let a = c.args.a in
    let b = c.args.b in
    subst (λ p. p < 2 ^ 31)
    (sym (joined_windows a b _ _ _ _ c.multiples_of-multiples.result (omega arith) (omega arith) c.multiples_of-multiples.ensures
    c.from.ensures (c.from-2.ensures ∙ and_mask (b / 2 ^ 8) 4) (c.from-3.ensures ∙ and_mask (b / 2 ^ 4) 4) (c.from-4.ensures ∙ and_mask b 4)))
    (product_below a b (omega arith) (omega arith))

pub returns : goal.returns
returns c =
    let a = c.args.a in
    let b = c.args.b in
    c.reduced.ensures
    ∙ ap (remainder 15)
    (joined_windows a b _ _ _ _ c.multiples_of-multiples.result (omega arith) (omega arith) c.multiples_of-multiples.ensures
    c.from.ensures (c.from-2.ensures ∙ and_mask (b / 2 ^ 8) 4) (c.from-3.ensures ∙ and_mask (b / 2 ^ 4) 4) (c.from-4.ensures ∙ and_mask b 4))
    ∙ sym (mul_is a b (omega arith) (omega arith))
