use Rattle.std.proofs.Common.{◌∙◌, ◌++◌, ◌∷◌, [], rules}
use Rattle.std.proofs.lemmas.Fn.{always_returns_same}
use Rattle.file_paths.specs.Path.{path_cmp}
use Rattle.work_area.proofs.Searching.{search_tells}
use Rattle.work_area.proofs.changing.has_child.Goals as goal

-- the closure compares a row's path with that of the name in the folder
pub returns : goal.returns
returns c =
    let facts = rw (c.as_slice.ensures.items, c.rows.ensures) at c.binary_search_by.ensures in
    let child = c.args.folder.now ++ c.args.name.now ∷ [] in
    let by_path =
    facts.position (λ row. path_cmp row.path child) (always_returns_same _ _ _ (λ a r g called. (search rules, search rules))) in
    c.is_ok.ensures.value ∙ search_tells c.args.job.now.rows child c.requires _ facts.bound by_path
