use Rattle.std.proofs.Common.{rules}
use Rattle.std.proofs.lemmas.Fn.{always_returns_same}
use Rattle.file_paths.specs.Path.{path_cmp}
use Rattle.tree_values.proofs.Places.{located}
use Rattle.tree_proof.proofs.proving.locate.Goals as goal

-- the closure compares a row's path with this one
pub returns : goal.returns
returns c =
    let facts = c.binary_search_by.ensures in
    let by_path = facts.position (λ row. path_cmp row.path c.args.path.now) (always_returns_same _ _ _ (λ a r g called. (search rules, search rules))) in
    located c.args.rows.now c.args.path.now c.requires _ facts.bound by_path
