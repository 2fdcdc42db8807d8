use Rattle.replay_judge.proofs.Places.{decides_all}
use Rattle.replay_judge.proofs.agreement.compare.Goals as goal

pub returns-in-None-first : goal.returns-in-None-first
returns-in-None-first c =
    decides_all c.args.wanted.now c.loop-want.left.now c.args.found.now c.loop-want.left_found.now c.loop-want.effects
    c.in_default.ensures.cases c.in-None-first.ensures.value c.loop-want.invariant
