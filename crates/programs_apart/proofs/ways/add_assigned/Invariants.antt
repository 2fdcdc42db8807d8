use Rattle.std.specs.Prelude.{◌≡◌, ◌++◌, map, take}
use Rattle.std.specs.Process.{command_program, command_args}
use Rattle.programs_apart.specs.Starting.{assigned}
use Rattle.programs_apart.proofs.ways.add_assigned.Given as goal

abbrev pub invariant-loop-i : goal.invariant-loop-i
invariant-loop-i l = record {
  program : command_program l.start ≡ command_program l.fn.start;
  words : command_args l.start ≡ command_args l.fn.start ++ map assigned (take l.i l.variables);
}
