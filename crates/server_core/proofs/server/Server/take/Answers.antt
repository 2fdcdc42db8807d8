use Rattle.std.proofs.Common.{◌≡◌, ◌≤◌, ◌<◌, length, sym, subst, arith}
use Rattle.std.specs.Prelude.{◌^◌}
use Rattle.vol_tree.proofs.Behind.{applied_all-tree}
use Rattle.world_rules.proofs.Replies.{raised-legal}
use Rattle.world_rules.specs.Served.{IsServed}
use Rattle.server_core.specs.Holding.{served}
use Rattle.server_core.proofs.Numbers.{served-raised}
use Rattle.server_core.proofs.server.Server.take.Goals as goal

pub invariant_of-self : goal.invariant_of-self
invariant_of-self c =
    let tree = applied_all-tree c.args.effects.now 0 c.self.inside.tree c.apply_all.new.tree c.self.invariant.tree c.requires.legal c.in-Ok.ensures.ok in
    let all : length c.self.inside.last ≡ 64 = omega arith in
    let high : c.args.client ≤ length c.self.inside.last = omega (arith, c.requires.high) in
    let small : c.args.number < 2 ^ 64 = omega arith in
    subst IsServed (sym (served-raised c.apply_all.new.tree c.self.inside.last c.args.client c.args.number c.requires.low high))
    (raised-legal c.args.client c.args.number c.apply_all.new.tree (served (record { rows = c.self.inside.tree; last = c.self.inside.last })) c.requires.low c.requires.high small tree c.self.invariant)

pub returns-in-Ok-clause-legal : goal.returns-in-Ok-clause-legal
returns-in-Ok-clause-legal c = invariant_of-self c
