use Rattle.shell_lang.proofs.Cutting.{joined_parts_are_the_input, parts_are_one_line_each, joined_lines_are_found, ended_lines_are_found}
use Rattle.shell_lang.proofs.laws.inputs_are_cut_at_line_ends.Goals as goal

pub returns : goal.returns
returns c = record {
  joined = joined_parts_are_the_input;
  alone = parts_are_one_line_each;
  only = joined_lines_are_found;
  ended = ended_lines_are_found;
}
