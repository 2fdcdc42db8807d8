use Rattle.std.proofs.Common.{◌≡◌, take, map}
use Rattle.client_session.specs.Looking.{child_at}
use Rattle.client_session.proofs.looking.children_of.Given as goal

abbrev pub invariant-loop-name : goal.invariant-loop-name
invariant-loop-name l = l.found ≡ map (child_at l.tree l.folder) (take l.name-index l.name-items)
