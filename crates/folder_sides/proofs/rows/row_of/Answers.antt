use Rattle.std.proofs.Common.{◌∙◌, Ok, Err, sym, rules}
use Rattle.std.proofs.lemmas.Fn.{always_returns_same}
use Rattle.file_paths.specs.Path.{path_cmp}
use Rattle.work_area.proofs.Searching.{got, searched}
use Rattle.folder_sides.proofs.rows.row_of.Goals as goal

-- the closure compares a row's path with this one
pub returns-in-Ok : goal.returns-in-Ok
returns-in-Ok c =
    let by_path =
    c.in-Ok.ensures.position (λ row. path_cmp row.path c.args.path.now)
    (always_returns_same _ _ _ (λ a r g called. (search rules, search rules))) in
    got c.args.rows.now c.in-Ok.i c.get.result c.in-Ok.ensures.bound c.get.ensures.lookup.0 c.get.ensures.lookup.1
    ∙ sym (searched c.args.rows.now c.args.path.now c.requires (Ok c.in-Ok.i) c.in-Ok.ensures.bound by_path).0

pub returns-in-Err : goal.returns-in-Err
returns-in-Err c =
    let by_path =
    c.in-Err.ensures.position (λ row. path_cmp row.path c.args.path.now)
    (always_returns_same _ _ _ (λ a r g called. (search rules, search rules))) in
    sym (searched c.args.rows.now c.args.path.now c.requires (Err c.in-Err.field-0) c.in-Err.ensures.bound by_path).1
