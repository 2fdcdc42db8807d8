use Rattle.store_image.proofs.Images.{client_codec, server_codec}
use Rattle.store_image.proofs.laws.images_are_spelled_once.Goals as goal

pub returns-clause-clients : goal.returns-clause-clients
returns-clause-clients c = client_codec

pub returns-clause-servers : goal.returns-clause-servers
returns-clause-servers c = server_codec
