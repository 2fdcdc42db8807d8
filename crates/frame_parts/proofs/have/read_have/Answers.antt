use Rattle.std.proofs.Common.{arith}
use Rattle.frame_parts.proofs.Parts.{found_have}
use Rattle.frame_parts.proofs.have.read_have.Goals as goal

pub returns-clause-read : goal.returns-clause-read
returns-clause-read c =
    found_have c.args.bytes.now _ (λ i. omega (arith, c.type_inv.bytes i)) (c.has_have.ensures.0 c.if-not-has_have.false) (cc c.number_at.ensures)
