use Rattle.work_area.proofs.Searching.{no_deeper, deeper}
use Rattle.work_area.proofs.changing.order_of_child.Goals as goal

pub returns-in-Some : goal.returns-in-Some
returns-in-Some c =
    rw (c.then-in-Some.ensures, c.then.ensures, c.cmp.ensures, c.cmp-in-Some.ensures, c.cmp-in-Some-2.ensures)
    (deeper c.args.row.now.path c.names-names.result.now c.args.folder.now c.args.name.now c.split_at.result.0.now c.split_at.result.1.now
    c.min.result c.names-names.ensures.names c.min.ensures c.split_at.ensures.front c.split_at.ensures.back c.in-Some.first.now
    c.in-Some.more.now
    c.in-Some.ensures.cases.0)

pub returns-in-None : goal.returns-in-None
returns-in-None c =
    rw (c.then-in-None.ensures, c.cmp-in-None.ensures)
    (no_deeper c.args.row.now.path c.names-names.result.now c.args.folder.now c.args.name.now c.split_at.result.0.now
    c.split_at.result.1.now c.min.result c.names-names.ensures.names c.min.ensures c.split_at.ensures.front c.split_at.ensures.back
    c.in-None.ensures.cases)
