use Rattle.std.proofs.Common.{arith, length}
use Rattle.frame_parts.proofs.Places.{front_at, others_at, none_at}
use Rattle.frame_parts.proofs.fronts.place_of.Goals as goal

pub returns-then-fronts-i-clause-front : goal.returns-then-fronts-i-clause-front
returns-then-fronts-i-clause-front c =
    front_at c.args.client c.args.fronts.now c.loop-i.i c.index-fronts-i.result (omega arith) c.if-fronts-i.true c.loop-i.invariant.0

pub returns-then-fronts-i-clause-others : goal.returns-then-fronts-i-clause-others
returns-then-fronts-i-clause-others c =
    others_at c.args.client c.args.fronts.now c.loop-i.i c.index-fronts-i.result (omega arith) c.if-fronts-i.true c.loop-i.invariant.1

pub returns-clause-front : goal.returns-clause-front
returns-clause-front c = none_at c.args.client c.args.fronts.now (length c.args.fronts.now) (omega arith)
    (grind arith)
