use Rattle.tree_slots.proofs.Leading.{slots_lead}
use Rattle.tree_slots.proofs.arena.slots_lead_to_rows.Goals as goal

pub returns : goal.returns
returns c = slots_lead
