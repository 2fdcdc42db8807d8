use Rattle.std.proofs.Common.{◌≡◌, ◌&&◌, Bool, true, false, List, ◌∷◌, ◌∙◌, sym, ap}
use Rattle.file_paths.specs.Path.{is_same_path}
use Rattle.cmd_capture.specs.declared.job.JobRow.{JobRow}
use Rattle.folder_sides.specs.Sides.{is_same_node}
use Rattle.folder_sides.specs.Taking.{are_same_rows}
use Rattle.folder_sides.proofs.rows.are_same_rows.Goals as goal

-- the first rows decide first
first : (row other : JobRow) (left rest more behind : List JobRow) (b : Bool) → left ≡ row ∷ more → rest ≡ other ∷ behind
    → b ≡ (is_same_path row.path other.path && is_same_node row.node other.node) → are_same_rows left rest ≡ (b && are_same_rows more behind)
first row other left rest more behind b split split' same =
    ap (λ l. are_same_rows l rest) split ∙ ap (are_same_rows (row ∷ more)) split' ∙ ap (λ x. x && are_same_rows more behind) (sym same)

pub returns-then-not-is_same_row : goal.returns-then-not-is_same_row
returns-then-not-is_same_row c =
    let one =
    first c.in-Some.row.now c.in-Some-split_first.other.now c.loop-row.left.now c.loop-row.rest.now c.in-Some.more.now c.in-Some-split_first.behind.now
    c.is_same_row.result c.in-Some.ensures.cases.0 c.in-Some-split_first.ensures.cases.0 c.is_same_row.ensures in
    sym (sym c.loop-row.invariant ∙ one ∙ ap (λ b. b && are_same_rows c.in-Some.more.now c.in-Some-split_first.behind.now) c.if-not-is_same_row.true)

pub loop-row-preserved : goal.loop-row-preserved
loop-row-preserved c =
    let one =
    first c.in-Some.row.now c.in-Some-split_first.other.now c.loop-row.left.now c.loop-row.rest.now c.in-Some.more.now c.in-Some-split_first.behind.now
    c.is_same_row.result c.in-Some.ensures.cases.0 c.in-Some-split_first.ensures.cases.0 c.is_same_row.ensures in
    sym (one ∙ ap (λ b. b && are_same_rows c.in-Some.more.now c.in-Some-split_first.behind.now) c.if-not-is_same_row.false) ∙ c.loop-row.invariant
