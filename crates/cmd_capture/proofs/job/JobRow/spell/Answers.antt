use Rattle.byte_fields.proofs.Fronts.{front_first, front_second, on_error}
use Rattle.file_paths.specs.Spelling.{path}
use Rattle.cmd_capture.specs.Spelling.{job_node}
use Rattle.cmd_capture.proofs.job.JobRow.spell.Goals as goal

pub returns-in_err-spell-clause-err : goal.returns-in_err-spell-clause-err
returns-in_err-spell-clause-err c =
    let row = c.args.value.now in
    on_error c.from_residual.result
    (front_first c.args.out.now.items c.spell.new.out.items (path row.path) (job_node row.node) c.in_err-spell.ensures.err)

pub returns-in_err-put_node-clause-err : goal.returns-in_err-put_node-clause-err
returns-in_err-put_node-clause-err c =
    let row = c.args.value.now in
    on_error c.from_residual-in_err-put_node.result
    (front_second c.args.out.now.items c.spell.new.out.items c.put_node.new.out.items (path row.path) (job_node row.node)
    c.in_ok-spell.ensures.ok c.in_err-put_node.ensures.err)
