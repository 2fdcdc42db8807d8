use Rattle.surrogate_prog.proofs.Routes.{servings_keep_their_route, broken_servings_keep_their_route}
use Rattle.surrogate_prog.proofs.laws.servings_keep_their_route.Goals as goal

pub returns-clause-whole : goal.returns-clause-whole
returns-clause-whole c = servings_keep_their_route

pub returns-clause-broken : goal.returns-clause-broken
returns-clause-broken c = broken_servings_keep_their_route
