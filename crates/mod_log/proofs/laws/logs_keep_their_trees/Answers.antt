use Rattle.mod_log.proofs.Entries.{acknowledged_is_log, acknowledged_keeps, pulled_is_log, pulled_replaces, new_is_log, holds_trees}
use Rattle.mod_log.proofs.Appending.{appended_adds}
use Rattle.mod_log.proofs.Fitting.{fit_is_appended}
use Rattle.mod_log.proofs.EntriesFit.{pending_fit}
use Rattle.mod_log.proofs.laws.logs_keep_their_trees.Goals as goal

pub returns-clause-appending : goal.returns-clause-appending
returns-clause-appending c = appended_adds

pub returns-clause-fitting : goal.returns-clause-fitting
returns-clause-fitting c = fit_is_appended

pub returns-clause-acknowledging : goal.returns-clause-acknowledging
returns-clause-acknowledging c = λ log number is lower upper. (acknowledged_is_log log number is lower upper, acknowledged_keeps log number)

pub returns-clause-pulling : goal.returns-clause-pulling
returns-clause-pulling c = λ log seen is none tree. (pulled_is_log log seen is none tree, pulled_replaces log seen none)

pub returns-clause-new : goal.returns-clause-new
returns-clause-new c = new_is_log

pub returns-clause-trees : goal.returns-clause-trees
returns-clause-trees c = holds_trees

pub returns-clause-entries : goal.returns-clause-entries
returns-clause-entries c = pending_fit
