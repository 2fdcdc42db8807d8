use Rattle.std.proofs.Common.{◌∙◌, ◌<◌, ◌/◌, ◌%◌, length, arith, sym}
use Rattle.std.proofs.lemmas.List.{length-set}
use Rattle.parted_list.specs.Parts.{part_size}
use Rattle.parted_list.proofs.Places.{part, located_at, read_part, kept_parted}
use Rattle.parted_list.proofs.Moves.{carried_on, put_in, all_carried, pushed_size}
use Rattle.parted_list.proofs.list.push_through.Goals as goal

pub index_mut-requires : goal.index_mut-requires
index_mut-requires c = omega (arith, (located_at c.args.parts.now.items c.args.k c.requires.parted c.requires.within).there)

pub push_through-carried-requires : goal.push_through-carried-requires
push_through-carried-requires c =
    let at = located_at c.args.parts.now.items c.args.k c.requires.parted c.requires.within in
    let is = read_part c.args.parts.now.items (c.args.k / part_size) c.index_mut.result.now at.there c.index_mut.ensures.value in
    rw is at.within

pub loop-i-init : goal.loop-i-init
loop-i-init c =
    let at = located_at c.args.parts.now.items c.args.k c.requires.parted c.requires.within in
    let is = read_part c.args.parts.now.items (c.args.k / part_size) c.index_mut.result.now at.there c.index_mut.ensures.value in
    let moved = rw is at c.push_through-carried.ensures in
    record {
      parted = kept_parted c.args.parts.now.items (c.args.k / part_size) c.push_through-carried.new.self c.requires.parted at.there (pushed_size c.push_through-carried.new.self (part c.args.parts.now.items (c.args.k / part_size)) (c.args.k % part_size) c.args.number c.push_through-carried.result (omega (arith, at.within)) moved);
      same = length-set c.args.parts.now.items (c.args.k / part_size) c.push_through-carried.new.self;
      carried = put_in c.args.parts.now.items c.args.k c.push_through-carried.new.self c.args.number c.push_through-carried.result at moved;
    }

pub loop-i-preserved : goal.loop-i-preserved
loop-i-preserved c =
    let there : c.loop-i.i < length c.loop-i.parts.items = omega (arith, c.loop-i.invariant.same) in
    let is = read_part c.loop-i.parts.items c.loop-i.i c.index_mut-in-loop-i.result.now there c.index_mut-in-loop-i.ensures.value in
    let moved = rw is at c.push_through-carried-in-loop-i.ensures in
    record {
      parted = kept_parted c.loop-i.parts.items c.loop-i.i c.push_through-carried-in-loop-i.new.self c.loop-i.invariant.parted there (pushed_size c.push_through-carried-in-loop-i.new.self (part c.loop-i.parts.items c.loop-i.i) 0 c.loop-i.carried c.push_through-carried-in-loop-i.result (omega arith) moved);
      same = length-set c.loop-i.parts.items c.loop-i.i c.push_through-carried-in-loop-i.new.self ∙ c.loop-i.invariant.same;
      carried = carried_on c.loop-i.parts.items c.loop-i.i c.push_through-carried-in-loop-i.new.self c.loop-i.carried c.push_through-carried-in-loop-i.result there moved ∙ c.loop-i.invariant.carried;
    }

pub returns-clause-numbers : goal.returns-clause-numbers
returns-clause-numbers c = sym (all_carried c.loop-i.parts.items c.loop-i.i c.loop-i.carried (omega (arith, c.loop-i.invariant.same))) ∙ c.loop-i.invariant.carried
