use Rattle.std.proofs.Common.{ℕ, List, ◌∷◌, ◌++◌, ap, ◌∙◌, append_assoc}
use Rattle.std.proofs.lemmas.Result.{on_ok_weaker, on_err_weaker}
use Rattle.byte_fields.proofs.Fronts.{on_error, front_first, front_second}
use Rattle.file_paths.specs.Spelling.{path}
use Rattle.tree_values.specs.Spelling.{bit}
use Rattle.mod_log.proofs.spelling.put_mode.Goals as goal

pub returns-in_err-put_path-clause-err : goal.returns-in_err-put_path-clause-err
returns-in_err-put_path-clause-err c =
    on_error c.from_residual.result
    (front_first c.args.out.now.items c.put_path.new.out.items (5 ∷ path c.args.at.now) (bit c.args.exec) c.in_err-put_path.ensures.err)

pub returns-clause-ok : goal.returns-clause-ok
returns-clause-ok c =
    on_ok_weaker c.spell_bit.result
    (λ all. all ∙ ap (λ (t : List ℕ). t ++ bit c.args.exec) c.in_ok-put_path.ensures.ok ∙ append_assoc c.args.out.now.items (5 ∷ path c.args.at.now) (bit c.args.exec))
    c.spell_bit.ensures.ok

pub returns-clause-err : goal.returns-clause-err
returns-clause-err c =
    on_err_weaker c.spell_bit.result
    (front_second c.args.out.now.items c.put_path.new.out.items c.spell_bit.new.out.items (5 ∷ path c.args.at.now) (bit c.args.exec) c.in_ok-put_path.ensures.ok)
    c.spell_bit.ensures.err
