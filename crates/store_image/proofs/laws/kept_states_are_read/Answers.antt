use Rattle.store_image.proofs.Keeping.{client_again, server_again, client_once, server_once}
use Rattle.store_image.proofs.laws.kept_states_are_read.Goals as goal

pub returns-clause-client_read : goal.returns-clause-client_read
returns-clause-client_read c = client_again

pub returns-clause-server_read : goal.returns-clause-server_read
returns-clause-server_read c = server_again

pub returns-clause-client_once : goal.returns-clause-client_once
returns-clause-client_once c = client_once

pub returns-clause-server_once : goal.returns-clause-server_once
returns-clause-server_once c = server_once
