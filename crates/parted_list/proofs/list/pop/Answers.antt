use Rattle.std.proofs.Common.{◌≡◌, ◌∙◌, ◌-◌, ◌<◌, length, arith, sym, ap, take}
use Rattle.std.proofs.lemmas.List.{length-take-le}
use Rattle.parted_list.proofs.Places.{part, some_parts, read_part, last_parted}
use Rattle.parted_list.proofs.Moves.{gone_last, gone_part}
use Rattle.parted_list.proofs.list.pop.Goals as goal

pub returns-then-len-eq1-clause-rest : goal.returns-then-len-eq1-clause-rest
returns-then-len-eq1-clause-rest c =
    let more = some_parts c.args.parts.now.items c.requires.some in
    let is = read_part c.args.parts.now.items (c.len-last.result - 1) c.index.result.now (omega arith) c.index.ensures in
    let one : length (part c.args.parts.now.items (c.len-last.result - 1)) ≡ 1 = ap length (sym is) ∙ omega arith in
    rw c.truncate.ensures.items (gone_part c.args.parts.now.items (c.len-last.result - 1) (omega arith) one)

pub returns-else-len-eq1-clause-parted : goal.returns-else-len-eq1-clause-parted
returns-else-len-eq1-clause-parted c =
    let more = some_parts c.args.parts.now.items c.requires.some in
    let there : c.len-last.result - 1 < length c.args.parts.now.items = omega arith in
    let seen = read_part c.args.parts.now.items (c.len-last.result - 1) c.index.result.now there c.index.ensures in
    let is = read_part c.args.parts.now.items (c.len-last.result - 1) c.index_mut.result.now there c.index_mut.ensures.value in
    let some = c.requires.parted.some (c.len-last.result - 1) there in
    let fits = c.requires.parted.fitting (c.len-last.result - 1) in
    let other : length (part c.args.parts.now.items (c.len-last.result - 1)) ≡ c.len.result = ap length (sym seen) ∙ sym c.len.ensures in
    let gone = rw is at c.pop.ensures in
    let size = length-take-le (length (part c.args.parts.now.items (c.len-last.result - 1)) - 1) (part c.args.parts.now.items (c.len-last.result - 1)) (omega arith) in
    rw gone (last_parted c.args.parts.now.items (c.len-last.result - 1) (take (length (part c.args.parts.now.items (c.len-last.result - 1)) - 1) (part c.args.parts.now.items (c.len-last.result - 1))) c.requires.parted (omega arith) (omega (arith, size, other, some)) (omega (arith, size, fits)))

pub returns-else-len-eq1-clause-rest : goal.returns-else-len-eq1-clause-rest
returns-else-len-eq1-clause-rest c =
    let more = some_parts c.args.parts.now.items c.requires.some in
    let there : c.len-last.result - 1 < length c.args.parts.now.items = omega arith in
    let is = read_part c.args.parts.now.items (c.len-last.result - 1) c.index_mut.result.now there c.index_mut.ensures.value in
    let gone = rw is at c.pop.ensures in
    rw gone (gone_last c.args.parts.now.items (c.len-last.result - 1) (omega arith) (c.requires.parted.some (c.len-last.result - 1) there))
