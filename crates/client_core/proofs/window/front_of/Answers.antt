use Rattle.std.proofs.Common.{sym, ◌∙◌, arith}
use Rattle.client_core.proofs.Windows.{parts_more, parts_past}
use Rattle.client_core.proofs.window.front_of.Goals as goal

pub loop-i-preserved : goal.loop-i-preserved
loop-i-preserved c = rw (c.in_ok-push.ensures.ok, c.in_ok-part.ensures, c.loop-i.invariant) (sym (parts_more c.args.log.now.pending c.loop-i.i c.in-Some.entry.now c.in-Some.ensures.entry))

pub returns-in_default : goal.returns-in_default
returns-in_default c = c.loop-i.invariant ∙ parts_past c.args.log.now.pending c.loop-i.i c.args.count (omega arith) c.in_default.ensures.entry
