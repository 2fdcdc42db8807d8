use Rattle.server_core.proofs.Cases.{repeats, gaps, knowns, stales, fulls, unfits, takens, pulls, others}
use Rattle.server_core.proofs.laws.messages_are_answered.Goals as goal

pub returns : goal.returns
returns c = record { repeated = repeats; early = gaps; known = knowns; stale = stales; full = fulls; unfit = unfits; taken = takens; pulled = pulls; others = others }
