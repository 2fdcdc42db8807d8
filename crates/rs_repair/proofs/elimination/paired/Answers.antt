use Rattle.std.proofs.Common.{◌≡◌, ◌+◌, ⊎_elim, drop, ap, sym, ◌∙◌, arith}
use Rattle.std.proofs.lemmas.Bool.{cases_lt}
use Rattle.std.proofs.lemmas.List.{drop_all}
use Rattle.std.specs.Int.Bits.{bit_xor, xor_zero_r}
use Rattle.rs_repair.specs.Inside.{pairing}
use Rattle.rs_repair.proofs.Pairings.{pairing_turn, pairing_none, pairing_short}
use Rattle.rs_repair.proofs.elimination.paired.Goals as goal

pub loop-i-preserved : goal.loop-i-preserved
loop-i-preserved c =
    let row = c.args.row.now in
    let sums = c.args.sums.now in
    let i = c.loop-i.i in
    let p = c.args.place + i in
    let next : c.args.place + (i + 1) ≡ p + 1 = omega arith in
    ap (λ n. bit_xor c.add-total.result (pairing (drop (i + 1) row) (drop n sums))) next
    ∙ ap (λ t. bit_xor t (pairing (drop (i + 1) row) (drop (p + 1) sums))) (c.add-total.ensures ∙ ap (bit_xor c.loop-i.total) c.mul.ensures)
    ∙ pairing_turn row sums i p c.loop-i.total (omega arith) (omega arith)
    ∙ c.loop-i.invariant

pub returns : goal.returns
returns c =
    let row = c.args.row.now in
    let sums = c.args.sums.now in
    let i = c.loop-i.i in
    let rest : pairing (drop i row) (drop (c.args.place + i) sums) ≡ 0 = ⊎_elim
    (λ l. ap (pairing (drop i row)) (drop_all (c.args.place + i) sums (omega (arith, c.told-sums))) ∙ pairing_short (drop i row))
    (λ past. ap (λ r. pairing r (drop (c.args.place + i) sums)) (drop_all i row (omega (arith, c.told-row))) ∙ pairing_none (drop (c.args.place + i) sums))
    (cases_lt i 17) in
    sym (ap (bit_xor c.loop-i.total) rest ∙ xor_zero_r c.loop-i.total) ∙ c.loop-i.invariant
