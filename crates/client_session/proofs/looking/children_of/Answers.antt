use Rattle.std.proofs.Common.{◌≡◌, ℕ, ◌<◌, List, [], ◌∷◌, ◌++◌, length, get_or, sym, ◌∙◌, subst}
use Rattle.file_paths.specs.Path.{IsPath}
use Rattle.tree_values.specs.Tree.{children}
use Rattle.client_session.proofs.Found.{child_is_path}
use Rattle.client_session.proofs.looking.children_of.Goals as goal

pub child_at-requires : goal.child_at-requires
child_at-requires c =
    let folder = c.args.folder.now in
    let items = c.as_slice-name-items.result.now in
    let i = c.loop-name.name-index in
    let name = c.name-item.result in
    let same : items ≡ children c.args.tree.now folder = c.as_slice-name-items.ensures.items ∙ c.in_ok-names.ensures in
    subst (λ (n : List ℕ). IsPath (folder ++ n ∷ [])) (sym c.name-item.is)
    (subst (λ (l : List (List ℕ)). IsPath (folder ++ get_or l i name ∷ [])) (sym same)
    (child_is_path c.args.tree.now folder i name c.count-rows.ensures.tree.each (subst (λ (l : List (List ℕ)). i < length l) same c.loop-name-test.true)))
