use Rattle.std.proofs.Common.{add-one}
use Rattle.client_core.proofs.Journal.{entry_put}
use Rattle.client_core.proofs.keeping.put_entries.Goals as goal

pub loop-i-preserved : goal.loop-i-preserved
loop-i-preserved c =
    rw add-one (entry_put c.args.log.now.pending c.args.before c.loop-i.i c.args.out.now.items c.loop-i.out.items c.put_behind.new.out.items c.loop-i.invariant c.in_ok-put_behind.ensures)
