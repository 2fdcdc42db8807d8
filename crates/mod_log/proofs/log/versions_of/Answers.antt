use Rattle.std.proofs.Common.{◌∙◌, [], ◌∷◌, ◌++◌, take, map, sym, ap}
use Rattle.std.proofs.lemmas.List.{take_more, map-append}
use Rattle.file_paths.specs.Path.{FilePath}
use Rattle.tree_values.specs.Tree.{Volume, version_at}
use Rattle.tree_values.specs.declared.node.Base.{Base}
use Rattle.mod_log.proofs.log.versions_of.Goals as goal

abbrev with_version : Volume → FilePath → Base
with_version tree path = record { path = path; version = version_at tree path }

pub loop-path-preserved : goal.loop-path-preserved
loop-path-preserved c =
    let paths = c.args.paths.now in
    let tree = c.args.tree.now in
    let i = c.loop-path.path-index in
    let path = c.path-item.result in
    let one_more = take_more paths i path c.loop-path-test.true ∙ ap (λ p. take i paths ++ p ∷ []) (sym c.path-item.is) in
    c.in_ok-push_version.ensures ∙ ap (λ bases. bases ++ with_version tree path ∷ []) c.loop-path.invariant
    ∙ sym (map-append (with_version tree) (take i paths) (path ∷ [])) ∙ ap (map (with_version tree)) (sym one_more)
