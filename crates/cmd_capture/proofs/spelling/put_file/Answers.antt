use Rattle.std.proofs.Common.{[], ◌∷◌}
use Rattle.byte_fields.proofs.Fronts.{front_none, front_second, on_error}
use Rattle.file_paths.specs.Spelling.{content}
use Rattle.cmd_capture.proofs.spelling.put_file.Goals as goal

pub returns-in_err-put_kind-clause-err : goal.returns-in_err-put_kind-clause-err
returns-in_err-put_kind-clause-err c =
    on_error c.from_residual.result
    (front_none c.args.out.now.items c.put_kind.new.out.items (c.args.kind ∷ content c.args.file.now) c.in_err-put_kind.ensures.err)

pub returns-in_err-put_text-clause-err : goal.returns-in_err-put_text-clause-err
returns-in_err-put_text-clause-err c =
    on_error c.from_residual-in_err-put_text.result
    (front_second c.args.out.now.items c.put_kind.new.out.items c.put_text.new.out.items (c.args.kind ∷ []) (content c.args.file.now)
    c.in_ok-put_kind.ensures.ok (rw c.bytes.ensures.value at c.in_err-put_text.ensures.err))
