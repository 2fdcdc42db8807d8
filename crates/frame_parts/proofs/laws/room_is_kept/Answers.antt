use Rattle.frame_parts.proofs.Coming.{room_kept, later_have_room, lost_have_room}
use Rattle.frame_parts.proofs.laws.room_is_kept.Goals as goal

pub returns-clause-puts : goal.returns-clause-puts
returns-clause-puts c = room_kept

pub returns-clause-later : goal.returns-clause-later
returns-clause-later c = later_have_room

pub returns-clause-lost : goal.returns-clause-lost
returns-clause-lost c = lost_have_room
