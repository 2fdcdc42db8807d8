use Rattle.std.proofs.Common.{◌≡◌, ◌++◌, Bool, subst, sym}
use Rattle.std.specs.Prelude.{OnOk}
use Rattle.std.specs.Process.{command_args}
use Rattle.programs_apart.specs.Starting.{rights}
use Rattle.programs_apart.proofs.ways.add_rights.Goals as goal

pub returns-then-is_root-clause-words : goal.returns-then-is_root-clause-words
returns-then-is_root-clause-words c =
    subst (λ (b : Bool). OnOk c.add_texts.result (command_args c.add_texts.new.start ≡ command_args c.args.start.now ++ rights b)) (sym c.if-is_root.true) c.add_texts.ensures.words
