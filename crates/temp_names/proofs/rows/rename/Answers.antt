use Rattle.std.proofs.Common.{◌∙◌}
use Rattle.temp_names.specs.Rename.{unrenamed_rows, renamed_rows, with_job_rows}
use Rattle.temp_names.proofs.Found.{kept_same_rows, renamed_same_rows}
use Rattle.temp_names.proofs.rows.rename.Goals as goal

pub returns : goal.returns
returns c =
    let pairs = c.deref.ensures.value in
    let rows = c.into_vec.ensures in
    let kept = c.in_ok-kept.ensures.kept ∙ (λ i. unrenamed_rows (pairs i) (rows i)) ∙ kept_same_rows c.args.renaming.now c.in_ok-pairs.pairs.items c.args.rows c.in_ok-pairs.ensures in
    let renamed =
    c.in_ok-kept.ensures.renamed ∙ (λ i. renamed_rows (pairs i) (rows i))
    ∙ renamed_same_rows c.args.renaming.now c.in_ok-pairs.pairs.items c.args.rows c.in_ok-pairs.ensures in
    c.in_ok-list.ensures ∙ c.in_ok-all.ensures ∙ (λ i. with_job_rows (renamed i) (kept i))
