use Rattle.client_core.proofs.Staying.{overtaken_stay, refused_overtaken}
use Rattle.client_core.proofs.laws.overtaken_clients_stay_so.Goals as goal

pub returns-clause-stay : goal.returns-clause-stay
returns-clause-stay c = overtaken_stay

pub returns-clause-refused : goal.returns-clause-refused
returns-clause-refused c = refused_overtaken
