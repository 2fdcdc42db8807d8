use Rattle.std.proofs.Common.{◌≡◌, ap, arith}
use Rattle.outside.specs.MemoryKeeper.{KeeperInMemory, images_of}
use Rattle.client_drill.specs.Drilled.{no_images}
use Rattle.client_drill.proofs.Working.{works_if}
use Rattle.client_drill.proofs.session.work_through.Goals as goal

pub returns : goal.returns
returns c =
    let images_are : images_of c.new-keeper.result.slots ≡ no_images = ap (λ (k : KeeperInMemory). images_of k.slots) c.new-keeper.ensures in
    works_if c.args.lines.items c.args.runner.now c.session_run-status.new.runner c.args.link.now.net c.session_run-status.new.link.net
    c.session_run-status.new.input.bytes c.session_run-status.new.output.bytes (images_of c.session_run-status.new.keeper.slots) c.session_run-status.result
    c.args.route.now c.new-input.result.bytes c.new-output.result.bytes (images_of c.new-keeper.result.slots)
    c.requires (ap (λ s. s.bytes) c.new-input.ensures) (ap (λ s. s.bytes) c.new-output.ensures) images_are
    (omega (arith, c.if-status-code.false, c.code.ensures)) c.session_run-status.ensures.session c.kept.result c.kept.ensures
