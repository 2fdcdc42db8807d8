use Rattle.std.proofs.Common.{◌≡◌, suc, arith, ◌∙◌, ap, ◌+◌, ◌*◌, get_or}
use Rattle.tree_slots.proofs.Heads.{fits_seven, head_next, head_small}
use Rattle.tree_slots.specs.Head.{name_head}
use Rattle.tree_slots.proofs.head.head_of.Goals as goal

pub overflow_mul-head : goal.overflow_mul-head
overflow_mul-head c = omega (arith, fits_seven c.loop-k.k (omega arith))

pub overflow_add-head : goal.overflow_add-head
overflow_add-head c = omega (arith, fits_seven c.loop-k.k (omega arith))

pub loop-k-preserved : goal.loop-k-preserved
loop-k-preserved c =
    let one : c.loop-k.k + 1 ≡ suc c.loop-k.k = omega arith in
    let next : name_head (c.loop-k.k + 1) c.args.name.now ≡ name_head c.loop-k.k c.args.name.now * 256 + get_or c.args.name.now c.loop-k.k 0 = ap (λ n. name_head n c.args.name.now) one ∙ head_next c.loop-k.k c.args.name.now in
    let small = head_small (c.loop-k.k + 1) c.args.name.now c.requires in
    record {
      first = omega (arith, next, c.loop-k.invariant.first, c.byte_of.ensures);
      small = omega (arith, next, small, c.loop-k.invariant.first, c.byte_of.ensures);
    }
