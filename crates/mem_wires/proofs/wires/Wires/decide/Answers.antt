use Rattle.std.proofs.Common.{◌∙◌, sym}
use Rattle.mem_wires.proofs.Deciding.{awaits_on, moved_on, rest_on, behind_on}
use Rattle.mem_wires.proofs.wires.Wires.decide.Goals as goal

pub returns-in_err-decided-clause-moved : goal.returns-in_err-decided-clause-moved
returns-in_err-decided-clause-moved c =
    moved_on c.args.self.now c.loop-fate.self c.take_fate.new.self c.befall.new.self c.in-Some.fate c.loop-fate.invariant c.in-Some.ensures.some c.in-Some.ensures.rest c.in_err-decided.ensures.moved c.in_err-decided.ensures.kept

pub returns-in_err-decided-clause-rest : goal.returns-in_err-decided-clause-rest
returns-in_err-decided-clause-rest c =
    rest_on c.args.self.now c.loop-fate.self c.take_fate.new.self c.befall.new.self c.in-Some.fate c.loop-fate.invariant c.in-Some.ensures.some c.in-Some.ensures.rest c.in_err-decided.ensures.moved c.in_err-decided.ensures.kept

pub returns-in_err-decided-clause-behind : goal.returns-in_err-decided-clause-behind
returns-in_err-decided-clause-behind c =
    behind_on c.args.self.now c.loop-fate.self c.take_fate.new.self c.befall.new.self c.in-Some.fate c.loop-fate.invariant c.in-Some.ensures.some c.in-Some.ensures.rest c.in_err-decided.ensures.moved c.in_err-decided.ensures.kept c.in_err-decided.ensures.err

pub returns-in-Some-2-clause-rest : goal.returns-in-Some-2-clause-rest
returns-in-Some-2-clause-rest c =
    rest_on c.args.self.now c.loop-fate.self c.take_fate.new.self c.befall.new.self c.in-Some.fate c.loop-fate.invariant c.in-Some.ensures.some c.in-Some.ensures.rest c.in_ok-decided.ensures.moved c.in_ok-decided.ensures.kept

pub loop-fate-preserved : goal.loop-fate-preserved
loop-fate-preserved c =
    awaits_on c.args.self.now c.loop-fate.self c.take_fate.new.self c.befall.new.self c.in-Some.fate c.loop-fate.invariant c.in-Some.ensures.some c.in-Some.ensures.rest c.in_ok-decided.ensures.moved c.in_ok-decided.ensures.kept
    (sym c.in_default-2.is ∙ c.in_ok-decided.ensures.ok) c.in_ok-decided.ensures.world
