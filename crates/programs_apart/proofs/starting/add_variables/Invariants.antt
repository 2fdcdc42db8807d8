use Rattle.std.specs.Prelude.{◌≡◌, take}
use Rattle.std.specs.Process.{clears_env, SameProgramAndArgs}
use Rattle.programs_apart.specs.Variables.{TellsVariables}
use Rattle.programs_apart.proofs.starting.add_variables.Given as goal

abbrev pub invariant-loop-i : goal.invariant-loop-i
invariant-loop-i l = record {
  tells : TellsVariables l.start (take l.i l.variables);
  call : SameProgramAndArgs l.fn.start l.start;
  clears : clears_env l.start ≡ clears_env l.fn.start;
}
