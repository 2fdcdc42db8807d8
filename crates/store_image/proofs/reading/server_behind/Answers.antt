use Rattle.store_image.proofs.Opened.{opened_ok, opened_err}
use Rattle.store_image.proofs.reading.server_behind.Goals as goal

pub returns-in-Ok : goal.returns-in-Ok
returns-in-Ok c =
    opened_ok c.args.format c.args.image c.args.bytes.now c.args.start c.in-Ok.ensures.0 c.take_until_end.new.state c.in-Ok.torn c.in-Ok.ensures.1.0 c.in-Ok.ensures.1.1

pub returns-in-Err : goal.returns-in-Err
returns-in-Err c = opened_err c.args.format c.args.image c.args.bytes.now c.args.start c.in-Err.fault c.in-Err.ensures
