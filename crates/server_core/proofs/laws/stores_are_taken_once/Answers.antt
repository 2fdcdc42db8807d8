use Rattle.server_core.proofs.Many.{stores_in_order, versions_grow, taken_tell}
use Rattle.server_core.proofs.Frames.{frames_act}
use Rattle.server_core.proofs.laws.stores_are_taken_once.Goals as goal

pub returns : goal.returns
returns c = record { order = stores_in_order; versions = versions_grow; replayed = taken_tell; frames = frames_act }
