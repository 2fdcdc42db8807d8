use Rattle.std.proofs.Common.{take}
use Rattle.std.specs.List.{AllByRecursion}
use Rattle.file_paths.specs.Path.{IsPath}
use Rattle.store_parcels.proofs.packing.are_paths.Given as goal

abbrev pub invariant-loop-path : goal.invariant-loop-path
invariant-loop-path l = AllByRecursion IsPath (take l.path-index l.paths)
