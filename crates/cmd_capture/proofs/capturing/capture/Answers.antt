use Rattle.cmd_capture.proofs.Captured.{spelled_ok}
use Rattle.cmd_capture.proofs.capturing.capture.Goals as goal

pub returns-clause-spelled : goal.returns-clause-spelled
returns-clause-spelled c = spelled_ok c.args.words.now c.args.cwd.now c.captured.result c.depth-depth.ensures.path c.captured.ensures.ok
