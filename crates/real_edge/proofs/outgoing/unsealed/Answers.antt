use Rattle.std.proofs.Common.{arith}
use Rattle.real_edge.proofs.Opening.{long_sealed}
use Rattle.real_edge.proofs.outgoing.unsealed.Goals as goal

pub drop_seal-requires : goal.drop_seal-requires
drop_seal-requires c =
    omega (arith, c.deref.ensures.len, long_sealed c.deref.result.now (c.is_answer.ensures.frame c.if-not-is_answer.false).fits)
