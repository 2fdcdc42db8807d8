use Rattle.std.proofs.Common.{◌≡◌, ◌≤◌, ◌++◌, ◌∷◌, [], length, vec_capacity, arith, refl}
use Rattle.tree_slots.specs.Arena.{no_place}
use Rattle.tree_slots.proofs.Pool.{fresh_taken}
use Rattle.tree_slots.proofs.arena.take_slot.Goals as goal

pub returns-clause-ok : goal.returns-clause-ok
returns-clause-ok c =
    let none : length c.args.free.now.items ≡ 0 = grind arith in
    let empty : length c.reserve.new.self.items ≡ 0 = grind arith in
    let room : length c.args.slots.now.items ≤ vec_capacity c.reserve.new.self = grind arith in
    let pushed : c.push.new.self.items ≡ c.args.slots.now.items ++ no_place ∷ [] = rw (c.in_ok-push.ensures.items, c.blank.ensures) refl in
    fresh_taken c.args.slots.now.items c.push.new.self.items c.args.free.now.items c.reserve.new.self.items (vec_capacity c.args.free.now) (vec_capacity c.reserve.new.self) c.len-j.result c.requires.linked c.requires.root c.requires.pool none empty (grind arith) room pushed
