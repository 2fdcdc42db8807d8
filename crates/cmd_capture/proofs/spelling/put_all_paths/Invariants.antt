use Rattle.std.specs.Prelude.{◌≡◌, ◌++◌, take}
use Rattle.std.specs.List.{flat_map}
use Rattle.file_paths.specs.Spelling.{path}
use Rattle.cmd_capture.proofs.spelling.put_all_paths.Given as goal

abbrev pub invariant-loop-path : goal.invariant-loop-path
invariant-loop-path l = l.out.items ≡ l.fn.out.items ++ flat_map path (take l.path-index l.paths)
