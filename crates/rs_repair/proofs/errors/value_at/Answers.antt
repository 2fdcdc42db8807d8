use Rattle.std.proofs.Common.{◌≡◌, ◌+◌, ◌-◌, get_or, drop, ap, sym, ◌∙◌, arith}
use Rattle.std.proofs.lemmas.List.{get_or-drop}
use Rattle.std.specs.Int.Bits.{bit_xor}
use Rattle.gf_65536.specs.Field.{gf_mul}
use Rattle.rs_repair.specs.Inside.{value}
use Rattle.rs_repair.proofs.Search.{value_more}
use Rattle.rs_repair.proofs.Roots.{value_zeros}
use Rattle.rs_repair.proofs.errors.value_at.Goals as goal

pub loop-i-init : goal.loop-i-init
loop-i-init c =
    let row = c.args.row.now in
    let next = c.args.degree + 1 in
    sym (value_zeros (drop next row) c.args.x (λ k. get_or-drop next row k 0 ∙ c.requires.monic.above (next + k) (omega arith)))

pub loop-i-preserved : goal.loop-i-preserved
loop-i-preserved c =
    let row = c.args.row.now in
    let i = c.loop-i.i - 1 in
    let next : c.loop-i.i ≡ i + 1 = omega arith in
    c.add-total.ensures ∙ ap (bit_xor (get_or row i 0)) (c.mul.ensures ∙ ap (gf_mul c.args.x) (c.loop-i.invariant ∙ ap (λ n. value (drop n row) c.args.x) next))
    ∙ value_more row c.args.x i (omega arith)
