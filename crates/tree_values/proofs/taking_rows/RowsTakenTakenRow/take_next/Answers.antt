use Rattle.std.proofs.Common.{◌≡◌, Ok, ap, arith}
use Rattle.tree_values.specs.Reading.{next_row_at}
use Rattle.tree_values.specs.Tree.{node_size}
use Rattle.tree_values.proofs.RowsTaken.{order_with_next, room_with_next}
use Rattle.tree_values.proofs.taking_rows.RowsTakenTakenRow.take_next.Goals as goal

pub invariant_of-self-2 : goal.invariant_of-self-2
invariant_of-self-2 c =
    let read : next_row_at c.self.inside.format c.self.inside.rows c.args.bytes.now c.args.at ≡ Ok (c.in_ok-row.row, c.in_ok-row.next) = rw (← c.as_slice-behind.ensures.items) c.in_ok-row.ensures in
    record {
      in_order = rw c.in_ok-push.ensures.ok (order_with_next c.self.inside.format c.self.inside.rows c.args.bytes.now c.args.at c.in_ok-row.row c.in_ok-row.next read c.self.invariant.in_order);
      left = rw c.in_ok-push.ensures.ok (omega (arith, c.saturating_sub-self-inside.ensures, c.size_of-size.ensures.value, ap node_size c.as_ref.ensures.value, c.self.invariant.left, room_with_next c.self.inside.rows c.in_ok-row.row));
    }
