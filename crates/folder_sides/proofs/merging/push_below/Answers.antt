use Rattle.std.proofs.Common.{◌≡◌, ◌∙◌, sym}
use Rattle.folder_sides.proofs.Lists.{stops_equal, stops_greater}
use Rattle.folder_sides.proofs.merging.push_below.Goals as goal

pub returns-in-Equal-clause-rows : goal.returns-in-Equal-clause-rows
returns-in-Equal-clause-rows c =
    (stops_equal c.args.path.now c.loop-other.rows _ _ c.loop-other.rest.now c.in-Some.other.now c.in-Some.more.now c.in-Some.ensures.cases.0
    c.loop-other.invariant (sym c.cmp.ensures ∙ c.in-Equal.is)).0

pub returns-in-Equal-clause-rest : goal.returns-in-Equal-clause-rest
returns-in-Equal-clause-rest c =
    (stops_equal c.args.path.now c.loop-other.rows _ _ c.loop-other.rest.now c.in-Some.other.now c.in-Some.more.now c.in-Some.ensures.cases.0
    c.loop-other.invariant (sym c.cmp.ensures ∙ c.in-Equal.is)).1

pub returns-in-Greater-clause-rows : goal.returns-in-Greater-clause-rows
returns-in-Greater-clause-rows c =
    (stops_greater c.args.path.now c.loop-other.rows _ _ c.loop-other.rest.now c.in-Some.other.now c.in-Some.more.now c.in-Some.ensures.cases.0
    c.loop-other.invariant (sym c.cmp.ensures ∙ c.in-Greater.is)).0

pub returns-in-Greater-clause-rest : goal.returns-in-Greater-clause-rest
returns-in-Greater-clause-rest c =
    (stops_greater c.args.path.now c.loop-other.rows _ _ c.loop-other.rest.now c.in-Some.other.now c.in-Some.more.now c.in-Some.ensures.cases.0
    c.loop-other.invariant (sym c.cmp.ensures ∙ c.in-Greater.is)).1
