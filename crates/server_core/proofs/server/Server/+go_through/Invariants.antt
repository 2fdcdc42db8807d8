use Rattle.std.proofs.Common.{length}
use Rattle.server_core.proofs.server.Server.+go_through.Given as goal

abbrev pub decreases-go_through : goal.decreases-go_through
decreases-go_through l = length l.entries.now
