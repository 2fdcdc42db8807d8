-- The bytes of rows, of which there is one more.
use Rattle.std.proofs.Common.{◌≡◌, ℕ, ◌+◌, ◌<◌, List, [], ◌∷◌, ◌++◌, length, take, Some, arith, ap, sym, ◌∙◌}
use Rattle.std.specs.Prelude.{get_or, sum_by}
use Rattle.std.proofs.lemmas.List.{take_more}
use Rattle.std.proofs.lemmas.List.Sums.{sum_by-append}
use Rattle.tree_values.specs.Tree.{node_size}
use Rattle.cmd_capture.specs.declared.job.JobRow.{JobRow}
use Rattle.child_runner.specs.Judging.{file_bytes}

pub files_next : (rows : List JobRow) (i : ℕ) (row : JobRow) → i < length rows → row ≡ get_or rows i row
    → file_bytes (take (i + 1) rows) ≡ file_bytes (take i rows) + node_size (Some row.node)
files_next rows i row within is =
    let size = λ (row : JobRow). node_size (Some row.node) in
    let one : sum_by size (row ∷ []) ≡ size row = omega arith in
    ap (sum_by size) (take_more rows i row within ∙ ap (λ y. take i rows ++ y ∷ []) (sym is)) ∙ sum_by-append size (take i rows) (row ∷ [])
    ∙ ap (λ n. sum_by size (take i rows) + n) one
