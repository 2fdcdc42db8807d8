use Rattle.file_paths.proofs.PathLemmas.{front_is_path}
use Rattle.file_paths.proofs.path.Path.folder.Goals as goal

pub invariant_of-result : goal.invariant_of-result
invariant_of-result c = rw c.in_ok-names.ensures (front_is_path _ _ c.self.invariant)
