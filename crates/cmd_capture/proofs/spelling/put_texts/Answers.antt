use Rattle.std.proofs.Common.{length}
use Rattle.std.specs.Int.{w16}
use Rattle.std.specs.List.{flat_map}
use Rattle.byte_fields.specs.Field.{digits}
use Rattle.byte_fields.proofs.Fronts.{front_none, front_second, on_error}
use Rattle.file_paths.specs.Spelling.{content}
use Rattle.cmd_capture.specs.Spelling.{counted}
use Rattle.cmd_capture.proofs.spelling.put_texts.Goals as goal

pub returns-in_err-put_count16-clause-err : goal.returns-in_err-put_count16-clause-err
returns-in_err-put_count16-clause-err c =
    on_error c.from_residual.result
    (front_none c.args.out.now.items c.put_count16.new.out.items (counted content c.args.texts.now) c.in_err-put_count16.ensures.err)

pub returns-in_err-put_all_texts-clause-err : goal.returns-in_err-put_all_texts-clause-err
returns-in_err-put_all_texts-clause-err c =
    on_error c.from_residual-in_err-put_all_texts.result
    (front_second c.args.out.now.items c.put_count16.new.out.items c.put_all_texts.new.out.items (digits w16 (length c.args.texts.now))
    (flat_map content c.args.texts.now) c.in_ok-put_count16.ensures.ok c.in_err-put_all_texts.ensures.err)
