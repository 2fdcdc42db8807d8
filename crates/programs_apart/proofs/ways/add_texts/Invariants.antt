use Rattle.std.specs.Prelude.{◌≡◌, ◌++◌, map, take}
use Rattle.std.specs.Process.{command_program, command_args}
use Rattle.programs_apart.proofs.ways.add_texts.Given as goal

abbrev pub invariant-loop-word : goal.invariant-loop-word
invariant-loop-word l = record {
  program : command_program l.start ≡ command_program l.fn.start;
  words : command_args l.start ≡ command_args l.fn.start ++ map (λ word. word.now) (take l.word-index l.words);
}
