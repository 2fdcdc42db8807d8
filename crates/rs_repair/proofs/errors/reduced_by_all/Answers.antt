use Rattle.std.proofs.Common.{ℕ, suc, ◌+◌, get_or, drop, ap, sym, ◌∙◌, arith}
use Rattle.std.proofs.Math.Numerals.{add-one}
use Rattle.std.proofs.lemmas.List.{drop_all, drop_more}
use Rattle.std.specs.Int.Bits.{bit_xor}
use Rattle.gf_65536.specs.Field.{gf_mul}
use Rattle.rs_repair.specs.Inside.{reduced}
use Rattle.rs_repair.proofs.Values.{reduced_same, reduced_cons, reduced_nil}
use Rattle.rs_repair.proofs.errors.reduced_by_all.Goals as goal

pub loop-i-preserved : goal.loop-i-preserved
loop-i-preserved c j =
    let powers = c.args.powers.now in
    let i = c.loop-i.i in
    let r = get_or powers i 0 in
    let f = λ (k : ℕ). get_or c.loop-i.left k 0 in
    let each = c.reduced_by-left.ensures.each in
    reduced_same (drop (i + 1) powers) _ (λ k. bit_xor (f (suc k)) (gf_mul r (f k))) (λ k. each k ∙ ap (λ n. bit_xor (f n) (gf_mul r (f k))) (add-one k)) j
    ∙ sym (ap (λ ps. reduced ps f j) (drop_more powers i 0 (omega arith)) ∙ reduced_cons r (drop (i + 1) powers) f j) ∙ c.loop-i.invariant j

pub returns : goal.returns
returns c j =
    let none = drop_all c.loop-i.i c.args.powers.now (omega arith) in
    let f = λ (k : ℕ). get_or c.loop-i.left k 0 in
    sym (ap (λ ps. reduced ps f j) none ∙ reduced_nil f j) ∙ c.loop-i.invariant j
