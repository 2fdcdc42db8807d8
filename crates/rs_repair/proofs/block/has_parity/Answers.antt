use Rattle.std.proofs.Common.{List, ℕ, subst}
use Rattle.rs_parity.specs.Blocks.{IsParity}
use Rattle.rs_parity.proofs.Unique.{one_parity_each}
use Rattle.rs_repair.proofs.Check.{same_from_zero, zero_from_same}
use Rattle.rs_repair.proofs.block.has_parity.Goals as goal

pub returns : goal.returns
returns c =
    let block = c.args.block.now in
    let given = c.args.given.now in
    let own = c.parity.result in
    let rest = c.difference.ensures in (
      λ yes. subst (λ (p : List ℕ). IsParity block p) (same_from_zero own given c.difference.result rest (c.is_zero.ensures.0 yes)) c.parity.ensures,
      λ word. c.is_zero.ensures.1 (zero_from_same own given c.difference.result rest (one_parity_each block own given c.parity.ensures word)),
    )
