use Rattle.temp_names.proofs.Found.{adjacent_rise}
use Rattle.temp_names.proofs.candidate.are_rising.Goals as goal

pub returns : goal.returns
returns c so = adjacent_rise c.args.candidates.now c.loop-i.i c.loop-i.invariant.rising c.loop-i-test.false
