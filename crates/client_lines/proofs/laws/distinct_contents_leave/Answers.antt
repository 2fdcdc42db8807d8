use Rattle.client_lines.proofs.RunningContents.{contents_never_collide, contents_leave}
use Rattle.client_lines.proofs.laws.distinct_contents_leave.Goals as goal

pub returns : goal.returns
returns c = record { apart = contents_never_collide; leaves = contents_leave }
