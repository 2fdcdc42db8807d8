use Rattle.std.proofs.Common.{◌-◌, arith}
use Rattle.parted_list.proofs.Places.{read_part}
use Rattle.parted_list.proofs.Moves.{added_last, added_part}
use Rattle.parted_list.proofs.list.push.Goals as goal

pub returns-then-is_filled-clause-ok : goal.returns-then-is_filled-clause-ok
returns-then-is_filled-clause-ok c = rw (c.in_ok-push.ensures.items, c.in_ok-part.ensures) (added_part c.args.parts.now.items c.args.number)

pub returns-clause-ok : goal.returns-clause-ok
returns-clause-ok c =
    let more = c.is_filled.ensures.some c.if-is_filled.false in
    let is = read_part c.args.parts.now.items (c.len-last.result - 1) c.index_mut.result.now (omega arith) c.index_mut.ensures.value in
    let pushed = rw is at c.in_ok-push-2.ensures.ok in
    rw pushed (added_last c.args.parts.now.items (c.len-last.result - 1) c.args.number (omega arith))
