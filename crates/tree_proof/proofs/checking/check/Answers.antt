use Rattle.std.proofs.Common.{List, sym, subst}
use Rattle.std.specs.List.{AllByRecursion}
use Rattle.tree_proof.specs.declared.certificate.Leaf.{Leaf}
use Rattle.tree_proof.specs.Inside.{HasWay}
use Rattle.tree_proof.proofs.Checked.{ways_read}
use Rattle.tree_proof.proofs.checking.check.Goals as goal

-- each row was read with all digests beside its way
pub judge-judged-requires : goal.judge-judged-requires
judge-judged-requires c =
    subst (λ (ls : List Leaf). AllByRecursion (HasWay c.in-Ok.head.count) ls) (sym c.as_slice.ensures.value)
    (ways_read c.args.certificate.now (record { head = c.in-Ok.head; leaves = c.in-Ok.leaves.items }) c.are_bytes.ensures c.in-Ok.ensures)
