use Rattle.folder_sides.proofs.Takes.{own_taken, lay_idle, take_idle}
use Rattle.folder_sides.proofs.laws.one_behind_the_other_is_idle.Goals as goal

pub returns-clause-own : goal.returns-clause-own
returns-clause-own c = own_taken

pub returns-clause-lay : goal.returns-clause-lay
returns-clause-lay c = lay_idle

pub returns-clause-take : goal.returns-clause-take
returns-clause-take c = take_idle
