use Rattle.std.proofs.Common.{◌+◌, ◌<◌, ◌^◌, get_or, drop, ap, sym, subst, ◌∙◌, arith, lit<}
use Rattle.std.proofs.lemmas.List.{drop_all, drop_more}
use Rattle.std.specs.Int.Bits.{bit_xor}
use Rattle.gf_65536.specs.Field.{gf_mul}
use Rattle.gf_65536.proofs.Product.{mul_assoc, mul_comm, mul_one, mul_below}
use Rattle.rs_repair.specs.Inside.{gap}
use Rattle.rs_repair.proofs.Values.{gap_below, gap_cons, gap_nil}
use Rattle.rs_repair.proofs.errors.gap_of.Goals as goal

pub loop-i-init : goal.loop-i-init
loop-i-init c = record { same = mul_one (gap c.args.x c.args.powers.now) (gap_below c.args.x c.args.powers.now); fits = lit< tt }

pub loop-i-preserved : goal.loop-i-preserved
loop-i-preserved c =
    let x = c.args.x in
    let powers = c.args.powers.now in
    let i = c.loop-i.i in
    let r = get_or powers i 0 in
    let rest = gap x (drop (i + 1) powers) in
    let factor = c.mul-product.ensures ∙ ap (gf_mul c.loop-i.product) c.add.ensures in
    record {
      same =
          ap (λ p. gf_mul p rest) factor ∙ mul_assoc c.loop-i.product (bit_xor x r) rest
          ∙ ap (gf_mul c.loop-i.product) (sym (ap (gap x) (drop_more powers i 0 (omega arith)) ∙ gap_cons x r (drop (i + 1) powers))) ∙ c.loop-i.invariant.same;
      fits = subst (λ p. p < 2 ^ 16) (sym factor) (mul_below c.loop-i.product (bit_xor x r));
    }

pub returns : goal.returns
returns c =
    let p = c.loop-i.product in
    let none = drop_all c.loop-i.i c.args.powers.now (omega arith) in
    sym (ap (gf_mul p) (ap (gap c.args.x) none ∙ gap_nil c.args.x) ∙ mul_comm p 1 ∙ mul_one p c.loop-i.invariant.fits) ∙ c.loop-i.invariant.same
