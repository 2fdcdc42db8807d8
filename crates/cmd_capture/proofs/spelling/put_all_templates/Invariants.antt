use Rattle.std.specs.Prelude.{◌≡◌, ◌++◌, take}
use Rattle.std.specs.List.{flat_map}
use Rattle.cmd_capture.specs.Spelling.{template}
use Rattle.cmd_capture.proofs.spelling.put_all_templates.Given as goal

abbrev pub invariant-loop-template : goal.invariant-loop-template
invariant-loop-template l = l.out.items ≡ l.fn.out.items ++ flat_map template (take l.template-index l.templates)
