use Rattle.std.proofs.Common.{◌∷◌}
use Rattle.byte_fields.proofs.Fronts.{front_first, front_second, on_error}
use Rattle.file_paths.specs.Spelling.{path}
use Rattle.tree_values.proofs.spelling.spell_paths.Goals as goal

pub returns-in_err-spell_path-clause-err : goal.returns-in_err-spell_path-clause-err
returns-in_err-spell_path-clause-err c =
    on_error c.from_residual.result
    (front_first c.args.out.now.items c.spell_path.new.out.items (c.args.kind ∷ path c.args.first.now) (path c.args.second.now) c.in_err-spell_path.ensures.err)

pub returns-in_err-spell-clause-err : goal.returns-in_err-spell-clause-err
returns-in_err-spell-clause-err c =
    on_error c.from_residual-in_err-spell.result
    (front_second c.args.out.now.items c.spell_path.new.out.items c.spell.new.out.items (c.args.kind ∷ path c.args.first.now) (path c.args.second.now)
    c.in_ok-spell_path.ensures.ok c.in_err-spell.ensures.err)
