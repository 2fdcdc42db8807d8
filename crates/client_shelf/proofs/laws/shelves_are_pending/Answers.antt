use Rattle.client_shelf.proofs.Logged.{logged_on_rows}
use Rattle.client_shelf.proofs.laws.shelves_are_pending.Goals as goal

pub returns : goal.returns
returns c = λ seen lists log logged. logged_on_rows seen lists log logged
