use Rattle.std.proofs.Common.{ℕ, List, subst}
use Rattle.wire_frames.specs.declared.message.Message.TheVariants.{Pull}
use Rattle.world_rules.specs.declared.asking.Peer.TheVariants.{Server}
use Rattle.world_rules.specs.Telling.{LinkTelling}
use Rattle.world_rules.specs.Settling.{Settled}
use Rattle.client_core.proofs.pulling.settle_pull.Goals as goal

pub returns-clause-settled : goal.returns-clause-settled
returns-clause-settled g c =
    let t : LinkTelling = g.L.Link.tells c.args.link.now in
    let u : LinkTelling = g.L.Link.tells c.settle-settled.new.link in
    subst (λ (a : List ℕ). Settled Server a (Pull c.args.client c.args.number) t u c.settle-settled.result) c.bytes.ensures.value c.settle-settled.ensures.settled
