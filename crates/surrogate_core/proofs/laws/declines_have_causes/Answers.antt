use Rattle.surrogate_core.proofs.Causes.{declines_have_causes}
use Rattle.surrogate_core.proofs.Silent.{silences_are_of_one_request}
use Rattle.surrogate_core.proofs.laws.declines_have_causes.Goals as goal

pub returns-clause-causes : goal.returns-clause-causes
returns-clause-causes c = declines_have_causes

pub returns-clause-silences : goal.returns-clause-silences
returns-clause-silences c = silences_are_of_one_request
