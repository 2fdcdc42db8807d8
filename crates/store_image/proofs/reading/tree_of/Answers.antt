use Rattle.std.proofs.Common.{◌+◌, take, drop}
use Rattle.std.proofs.lemmas.List.{take-append-drop}
use Rattle.tree_laws.proofs.Fronts.{front_is_tree}
use Rattle.store_image.proofs.reading.tree_of.Goals as goal

pub unreachable-requires : goal.unreachable-requires
unreachable-requires c =
    let i = c.in-Err-BadRow.field-0-0 + 1 in
    let refused = rw c.in-Err-BadRow.field-0-is at c.in-Err-BadRow.ensures.err in
    refused.2 (front_is_tree (take i c.args.rows) (drop i c.args.rows) (rw (take-append-drop i c.args.rows) c.requires))
