use Rattle.std.proofs.Common.{get_or, take, ap, sym, ◌∙◌, arith}
use Rattle.std.proofs.lemmas.List.{take_more}
use Rattle.std.specs.Int.Bits.{bit_xor}
use Rattle.gf_65536.specs.Field.{gf_mul}
use Rattle.rs_parity.specs.CodeWord.{sum_at}
use Rattle.rs_parity.proofs.Sums.{sum_nil, sum-push}
use Rattle.rs_repair.proofs.errors.sum_of.Goals as goal

pub loop-s-init : goal.loop-s-init
loop-s-init c = sym (sum_nil c.args.j)

pub loop-s-preserved : goal.loop-s-preserved
loop-s-preserved c =
    let word = c.args.word.now in
    let s = c.loop-s.s in
    let w = get_or word s 0 in
    c.add-total.ensures ∙ ap (λ t. bit_xor t w) (c.mul.ensures ∙ (λ i. gf_mul (c.loop-s.invariant i) (c.pow-x.ensures i)))
    ∙ sym (sum-push c.args.j (take s word) w (c.fits-word s)) ∙ ap (sum_at c.args.j) (sym (take_more word s 0 (omega arith)))
