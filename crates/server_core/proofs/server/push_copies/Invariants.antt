use Rattle.std.proofs.Common.{◌≡◌, ◌++◌, take}
use Rattle.server_core.proofs.server.push_copies.Given as goal

abbrev pub invariant-loop-effect : goal.invariant-loop-effect
invariant-loop-effect l = l.copies.items ≡ l.fn.copies.items ++ take l.effect-index l.effects
