use Rattle.std.proofs.Common.{◌∙◌, ap, length, sym}
use Rattle.std.specs.Ordering.{is_lt}
use Rattle.byte_fields.proofs.Facts.{lt_of}
use Rattle.tree_values.proofs.RowsTaken.{last_tells}
use Rattle.tree_values.proofs.rows.is_behind.Goals as goal

pub returns-in-Some : goal.returns-in-Some
returns-in-Some c =
    let h = c.in-Some.ensures.item in
    c.is_lt.ensures ∙ ap is_lt c.cmp.ensures ∙ last_tells c.args.rows.now c.in-Some.last.now c.args.path.now c.requires (lt_of 0 (length c.args.rows.now) (sym h.0)) h.1
