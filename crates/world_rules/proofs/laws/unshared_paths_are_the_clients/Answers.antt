use Rattle.world_rules.proofs.Runs.{path_is_same, path_is_kept, lone_tree, lone_kept}
use Rattle.world_rules.proofs.Unrefused.{lone_unrefused}
use Rattle.world_rules.proofs.laws.unshared_paths_are_the_clients.Goals as goal

pub returns-clause-spared : goal.returns-clause-spared
returns-clause-spared c = path_is_same

pub returns-clause-alone : goal.returns-clause-alone
returns-clause-alone c = lone_tree

pub returns-clause-spared_kept : goal.returns-clause-spared_kept
returns-clause-spared_kept c = path_is_kept

pub returns-clause-alone_kept : goal.returns-clause-alone_kept
returns-clause-alone_kept c = lone_kept

pub returns-clause-unrefused : goal.returns-clause-unrefused
returns-clause-unrefused c = lone_unrefused
