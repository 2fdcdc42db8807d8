use Rattle.std.proofs.Common.{ℕ, ◌+◌, ◌-◌, ◌/◌, ◌<◌, ◌≤◌, length, arith}
use Rattle.std.specs.declared.cmp.Ordering.TheVariants.{Less, Equal, Greater}
use Rattle.tree_slots.proofs.Slots.{halved, lower, higher, is_found, none_at, read_cmp}
use Rattle.tree_slots.proofs.arena.halve.Goals as goal

pub loop-low-preserved-in-Less : goal.loop-low-preserved-in-Less
loop-low-preserved-in-Less c =
    let k : ℕ = c.loop-low.low + (c.loop-low.high - c.loop-low.low) / 2 in
    let inside : k < length c.args.children.now = omega arith in
    let half = halved c.loop-low.left (c.loop-low.high - c.loop-low.low) c.loop-low.invariant.narrow (omega arith) in
    let here = read_cmp c.args.slots.now c.args.children.now c.args.name.now k c.index-slots-get.result Less (c.requires.within k inside) (rw c.get.ensures at c.index-slots-get.is) c.in-Less.ensures in
    record {
      ordered = omega arith;
      within = omega arith;
      few = omega arith;
      narrow = omega (arith, half.2);
      below = lower c.args.slots.now c.args.children.now c.args.name.now k c.requires.ascending inside here;
      above = c.loop-low.invariant.above;
    }

pub loop-low-preserved : goal.loop-low-preserved
loop-low-preserved c =
    let k : ℕ = c.loop-low.low + (c.loop-low.high - c.loop-low.low) / 2 in
    let inside : k < length c.args.children.now = omega arith in
    let half = halved c.loop-low.left (c.loop-low.high - c.loop-low.low) c.loop-low.invariant.narrow (omega arith) in
    let here = read_cmp c.args.slots.now c.args.children.now c.args.name.now k c.index-slots-get.result Greater (c.requires.within k inside) (rw c.get.ensures at c.index-slots-get.is) c.in-Greater.ensures in
    record {
      ordered = omega arith;
      within = omega arith;
      few = omega arith;
      narrow = omega (arith, half.1);
      below = c.loop-low.invariant.below;
      above = higher c.args.slots.now c.args.children.now c.args.name.now k c.requires.ascending here;
    }

pub returns-in-Equal-clause-found : goal.returns-in-Equal-clause-found
returns-in-Equal-clause-found c =
    let k : ℕ = c.loop-low.low + (c.loop-low.high - c.loop-low.low) / 2 in
    let inside : k < length c.args.children.now = omega arith in
    let here = read_cmp c.args.slots.now c.args.children.now c.args.name.now k c.index-slots-get.result Equal (c.requires.within k inside) (rw c.get.ensures at c.index-slots-get.is) c.in-Equal.ensures in
    is_found c.args.slots.now c.args.children.now c.args.name.now k c.requires.ascending inside here

pub returns-clause-missing : goal.returns-clause-missing
returns-clause-missing c =
    let end : c.loop-low.high ≤ c.loop-low.low = omega arith in
    record {
      within = omega arith;
      none = none_at c.args.slots.now c.args.children.now c.args.name.now c.loop-low.low c.loop-low.invariant.below (λ j l w. c.loop-low.invariant.above j (omega arith) w);
      below = c.loop-low.invariant.below;
      above = λ j l w. c.loop-low.invariant.above j (omega arith) w;
    }
