use Rattle.store_image.proofs.Cuts.{client_cut, server_cut}
use Rattle.store_image.proofs.Refused.{client_refused, server_refused}
use Rattle.store_image.proofs.laws.cut_images_name_the_field.Goals as goal

pub returns-clause-clients : goal.returns-clause-clients
returns-clause-clients c = client_cut

pub returns-clause-servers : goal.returns-clause-servers
returns-clause-servers c = server_cut

pub returns-clause-client_refused : goal.returns-clause-client_refused
returns-clause-client_refused c = client_refused

pub returns-clause-server_refused : goal.returns-clause-server_refused
returns-clause-server_refused c = server_refused
