use Rattle.std.proofs.Common.{◌≡◌, ◌∙◌, ◌-◌, length, arith, ap}
use Rattle.parted_list.proofs.Places.{counted, read_part, part}
use Rattle.parted_list.proofs.list.count.Goals as goal

pub overflow_mul-result : goal.overflow_mul-result
overflow_mul-result c =
    let whole = counted c.args.parts.now (length c.args.parts.now - 1) c.requires.parted (omega arith) in
    omega (arith, whole)

pub overflow_add-result : goal.overflow_add-result
overflow_add-result c =
    let whole = counted c.args.parts.now (length c.args.parts.now - 1) c.requires.parted (omega arith) in
    let last = read_part c.args.parts.now (length c.args.parts.now - 1) c.index-parts-n.result (omega arith) c.index-parts-n.is in
    let size : c.len.result ≡ length (part c.args.parts.now (length c.args.parts.now - 1)) = c.len.ensures ∙ ap length last in
    omega (arith, whole, size)

pub returns : goal.returns
returns c =
    let whole = counted c.args.parts.now (length c.args.parts.now - 1) c.requires.parted (omega arith) in
    let last = read_part c.args.parts.now (length c.args.parts.now - 1) c.index-parts-n.result (omega arith) c.index-parts-n.is in
    let size : c.len.result ≡ length (part c.args.parts.now (length c.args.parts.now - 1)) = c.len.ensures ∙ ap length last in
    omega (arith, whole, size)
