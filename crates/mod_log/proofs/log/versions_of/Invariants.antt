use Rattle.std.proofs.Common.{◌≡◌, take, map}
use Rattle.tree_values.specs.Tree.{version_at}
use Rattle.mod_log.proofs.log.versions_of.Given as goal

abbrev pub invariant-loop-path : goal.invariant-loop-path
invariant-loop-path l = l.bases ≡ map (λ path. record { path = path; version = version_at l.tree path }) (take l.path-index l.paths)
