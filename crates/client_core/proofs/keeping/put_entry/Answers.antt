use Rattle.client_core.proofs.Journal.{entry_spelled}
use Rattle.client_core.proofs.keeping.put_entry.Goals as goal

pub put_logged-requires : goal.put_logged-requires
put_logged-requires c = entry_spelled c.args.log.now c.args.i c.in-Some.entry.now c.in-Some.ensures.entry c.in-Some.ensures.log
