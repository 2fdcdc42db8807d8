-- The bytes of rows, of which there is one more.
use Rattle.std.proofs.Common.{◌≡◌, ◌+◌, List, [], ◌∷◌, ◌++◌, Some, arith, refl}
use Rattle.std.proofs.lemmas.List.Sums.{sum_by-append, sum_by-cons}
use Rattle.tree_values.specs.Tree.{node_size}
use Rattle.cmd_capture.specs.declared.job.RawRow.{RawRow}
use Rattle.folder_reading.specs.Found.{raw_size}

pub raw_size_more : (rows : List RawRow) (row : RawRow) → raw_size (rows ++ row ∷ []) ≡ raw_size rows + node_size (Some row.node)
raw_size_more rows row =
    let both : raw_size (rows ++ row ∷ []) ≡ raw_size rows + raw_size (row ∷ []) =
    sum_by-append (λ (r : RawRow). node_size (Some r.node)) rows (row ∷ []) in
    let one : raw_size (row ∷ []) ≡ node_size (Some row.node) + raw_size [] =
    sum_by-cons (λ (r : RawRow). node_size (Some r.node)) row [] in
    let none : raw_size [] ≡ 0 = refl in
    omega (arith, both, one, none)
