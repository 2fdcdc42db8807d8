use Rattle.std.specs.Prelude.{◌≡◌, ◌++◌, map, take, string_bytes}
use Rattle.std.specs.Process.{command_program, command_args}
use Rattle.programs_apart.specs.Starting.{places_words}
use Rattle.programs_apart.proofs.ways.add_places.Given as goal

abbrev pub invariant-loop-place : goal.invariant-loop-place
invariant-loop-place l = record {
  program : command_program l.start ≡ command_program l.fn.start;
  words : command_args l.start ≡ command_args l.fn.start ++ places_words l.seen (map string_bytes (take l.place-index l.places));
}
