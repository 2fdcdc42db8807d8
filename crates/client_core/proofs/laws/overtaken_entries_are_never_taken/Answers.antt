use Rattle.client_core.proofs.Overtaken.{overtaken_never_taken}
use Rattle.client_core.proofs.laws.overtaken_entries_are_never_taken.Goals as goal

pub returns : goal.returns
returns c = overtaken_never_taken
