use Rattle.std.proofs.Common.{ℕ, ◌≤◌, ◌++◌, List, [], length, get_or, sym, ap, subst, ◌∙◌}
use Rattle.std.specs.Prelude.{IfSome, IfNone}
use Rattle.rs_parity.specs.Blocks.{block_of}
use Rattle.rs_repair.specs.Inside.{IsRepair, HasNoRepair}
use Rattle.rs_repair.proofs.Blocks.{block_short, block_bytes, place_within, count_within, size_more, each_more, repair_at}
use Rattle.rs_repair.proofs.content.repair.Goals as goal

pub repair_block-requires : goal.repair_block-requires
repair_block-requires c = let e = sym c.block.ensures in subst (λ (b : List ℕ). length b ≤ 131006) e (block_short c.args.content.now c.loop-i.i)

pub returns-in_default-clause-none : goal.returns-in_default-clause-none
returns-in_default-clause-none c x bytes repairs =
    let content = c.args.content.now in
    let i = c.loop-i.i in
    let none = subst (λ o. IfNone o (HasNoRepair c.block.result.now (get_or c.as_slice-parities.result.now c.loop-i.i []))) c.in_default.is c.in_ok-part.ensures.none in
    let whole = subst (λ (p : List ℕ). HasNoRepair (block_of content i) p) (ap (λ ps. get_or ps c.loop-i.i []) c.as_slice-parities.ensures.value) (subst (λ (b : List ℕ). HasNoRepair b (get_or c.as_slice-parities.result.now c.loop-i.i [])) c.block.ensures none) in
    whole (block_of x i) (block_bytes x i bytes) (repair_at content x c.args.sketch.now repairs i (count_within (length content) i c.div_ceil-blocks.result c.div_ceil-blocks.ensures c.loop-i-test.true))

pub loop-i-preserved : goal.loop-i-preserved
loop-i-preserved c =
    let content = c.args.content.now in
    let i = c.loop-i.i in
    let bytes = c.loop-i.bytes.items in
    let part = c.in-Some.part.items in
    let parities = c.args.sketch.now.parities in
    let some = subst (λ o. IfSome o (λ v. IsRepair c.block.result.now (get_or c.as_slice-parities.result.now c.loop-i.i []) v.items)) c.in-Some.is c.in_ok-part.ensures.some in
    let last = subst (λ (p : List ℕ). IsRepair (block_of content i) p part) (ap (λ ps. get_or ps c.loop-i.i []) c.as_slice-parities.ensures.value) (subst (λ (b : List ℕ). IsRepair b (get_or c.as_slice-parities.result.now c.loop-i.i []) part) c.block.ensures some) in
    let within = place_within (length content) i c.div_ceil-blocks.result c.div_ceil-blocks.ensures c.loop-i-test.true in
    let joined = c.in_ok-extend_from_slice.ensures.items ∙ ap (λ p. bytes ++ p) c.deref.ensures.value in
    let kept = c.loop-i.invariant in
    record {
      size = ap length joined ∙ size_more content bytes part parities i within kept.size kept.each last;
      each = λ k h. subst (λ (b : List ℕ). IsRepair (block_of content k) (get_or parities k []) (block_of b k)) (sym joined) (each_more content bytes part parities i within kept.size kept.each last k h);
    }
