-- What was made of a client's next entry whose base is current is what is seen of it.
use Rattle.std.proofs.Common.{◌≡◌, ℕ, Result, Ok, Err, refl}
use Rattle.tree_values.specs.declared.node.TreeError.{TreeError}
use Rattle.tree_values.specs.Tree.{Volume}
use Rattle.world_rules.specs.Served.{Served, served_after}
use Rattle.server_core.specs.declared.server.Looked.{Looked}
use Rattle.server_core.specs.declared.server.Looked.TheVariants as looks
use Rattle.server_core.specs.Inside.{IsLookedAs, IsTakenAs, served_with}
use Rattle.server_core.proofs.Cases.{judged_current}

pub taken_looked : (applied : Result Volume (ℕ × TreeError)) (looked : Looked) → IsTakenAs applied looked → IsLookedAs (judged_current applied) looked
taken_looked (Ok volume) looks.Repeated seen = absurd seen
taken_looked (Ok volume) looks.Early seen = absurd seen
taken_looked (Ok volume) (looks.Outdated path theirs ours) seen = absurd seen
taken_looked (Ok volume) (looks.Refused index fault) seen = absurd seen
taken_looked (Ok volume) (looks.Taken undos) seen = seen
taken_looked (Err cause) looks.Repeated seen = absurd seen
taken_looked (Err cause) looks.Early seen = absurd seen
taken_looked (Err cause) (looks.Outdated path theirs ours) seen = absurd seen
taken_looked (Err cause) (looks.Refused index fault) seen = seen
taken_looked (Err cause) (looks.Taken undos) seen = absurd seen

pub served_current : (client number : ℕ) (applied : Result Volume (ℕ × TreeError)) (s : Served) → served_with client number applied s ≡ served_after client number (judged_current applied) s
served_current client number (Ok volume) s = refl
served_current client number (Err cause) s = refl
