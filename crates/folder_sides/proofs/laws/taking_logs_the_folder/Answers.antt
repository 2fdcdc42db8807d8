use Rattle.folder_sides.proofs.Takes.{taken_was_laid, taken_is, taken_spares}
use Rattle.folder_sides.proofs.laws.taking_logs_the_folder.Goals as goal

pub returns-clause-laid : goal.returns-clause-laid
returns-clause-laid c = taken_was_laid

pub returns-clause-folder : goal.returns-clause-folder
returns-clause-folder c = taken_is

pub returns-clause-spared : goal.returns-clause-spared
returns-clause-spared c = taken_spares
