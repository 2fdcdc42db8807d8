use Rattle.client_session.proofs.Contents.{do_not_collide, broken_do_not_collide}
use Rattle.client_session.proofs.laws.distinct_contents_do_not_collide.Goals as goal

pub returns-clause-whole : goal.returns-clause-whole
returns-clause-whole c = do_not_collide

pub returns-clause-broken : goal.returns-clause-broken
returns-clause-broken c = broken_do_not_collide
