use Rattle.std.proofs.Common.{◌+◌, ⊎_elim, sym, ◌∙◌, arith}
use Rattle.std.proofs.lemmas.Bool.{cases_lt}
use Rattle.std.proofs.lemmas.List.{get_or_past}
use Rattle.std.specs.Int.Bits.{bit_xor}
use Rattle.gf_65536.specs.Field.{gf_mul}
use Rattle.gf_65536.proofs.Product.{mul_zero}
use Rattle.rs_repair.proofs.errors.reduced_by.Goals as goal

pub returns-clause-each : goal.returns-clause-each
returns-clause-each c k =
    let sums = c.args.sums.now in
    ⊎_elim (λ l. c.loop-k.invariant.each k (omega arith))
    (λ past. get_or_past c.loop-k.new k 0 (omega arith)
    ∙ sym ((λ i. bit_xor (get_or_past sums (k + 1) 0 (omega arith) i) (gf_mul c.args.power (get_or_past sums k 0 (omega arith) i))) ∙ mul_zero c.args.power))
    (cases_lt k 32)
