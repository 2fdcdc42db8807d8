use Rattle.byte_fields.proofs.Fronts.{front_at, on_error}
use Rattle.file_paths.specs.Spelling.{path}
use Rattle.cmd_capture.proofs.spelling.put_all_paths.Goals as goal

pub returns-in_err-spell-clause-err : goal.returns-in_err-spell-clause-err
returns-in_err-spell-clause-err c =
    on_error c.from_residual.result
    (front_at path c.args.out.now.items c.loop-path.out.items c.spell.new.out.items c.args.paths.now c.loop-path.path-index
    c.path-item.result c.loop-path-test.true c.path-item.is c.loop-path.invariant c.in_err-spell.ensures.err)
