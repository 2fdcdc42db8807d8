use Rattle.std.proofs.Common.{◌++◌, drop}
use Rattle.std.specs.List.{flat_map}
use Rattle.file_paths.specs.Spelling.{path}
use Rattle.store_parcels.proofs.Used.{IsPut}
use Rattle.store_parcels.proofs.packing.put_paths.Given as goal

abbrev pub invariant-loop-path : goal.invariant-loop-path
invariant-loop-path l = IsPut (l.fn.out.items ++ flat_map path l.paths) l.out.items (drop l.path-index l.paths)
