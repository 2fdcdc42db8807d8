use Rattle.client_lines.proofs.Completing.{last_syncs_complete}
use Rattle.client_lines.proofs.laws.last_syncs_complete.Goals as goal

pub returns : goal.returns
returns c = last_syncs_complete
