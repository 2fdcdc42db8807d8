use Rattle.surrogate_core.specs.declared.step.NextStep.TheVariants as steps
use Rattle.surrogate_core.proofs.Calls.{calls_then, fetched_once}
use Rattle.surrogate_core.proofs.Served.{first_step, same_step, awaited, waits_again, answered, goes_on, broken_off}
use Rattle.surrogate_core.proofs.machine.Surrogate.serve.Goals as goal

pub asking-init : goal.asking-init
asking-init g c = record {
  serving = first_step c.args.server.now c.args.work.now c.args.self.now.copy c.args.request (record { step = c.on_operate-step.result; after = c.on_operate-step.new.self }) _ _ _ c.on_operate-step.ensures.steps;
  sent = c.on_operate-step.ensures.sent;
  kept = g.met.L.Link.keeps_none c.args.link.now;
  asked = c.on_operate-step.ensures.asked;
  unasked = c.on_operate-step.ensures.unasked;
}

pub returns-in-Answer-clause-idle : goal.returns-in-Answer-clause-idle
returns-in-Answer-clause-idle g c =
    let serving = same_step c.args.server.now c.args.work.now c.args.self.now.copy c.asking.self _ _ _ _ c.args.request c.asking.step (steps.Answer c.in-Answer.reply) c.in-Answer.is c.asking.invariant.serving in
    waits_again c.args.server.now c.args.work.now c.args.self.now.copy c.asking.self _ _ _ _ c.args.request c.in-Answer.reply serving

pub returns-in-Answer-clause-served : goal.returns-in-Answer-clause-served
returns-in-Answer-clause-served g c =
    let serving = same_step c.args.server.now c.args.work.now c.args.self.now.copy c.asking.self _ _ _ _ c.args.request c.asking.step (steps.Answer c.in-Answer.reply) c.in-Answer.is c.asking.invariant.serving in
    answered c.args.server.now c.args.work.now c.args.self.now.copy c.asking.self _ _ _ _ c.args.request c.in-Answer.reply serving

pub follow-followed-requires-clause-awaits : goal.follow-followed-requires-clause-awaits
follow-followed-requires-clause-awaits g c =
    let serving = same_step c.args.server.now c.args.work.now c.args.self.now.copy c.asking.self _ _ _ _ c.args.request c.asking.step (steps.Ask c.in-Ask.asked) c.in-Ask.is c.asking.invariant.serving in
    awaited c.args.server.now c.args.work.now c.args.self.now.copy c.asking.self _ _ _ _ c.args.request c.in-Ask.asked serving

pub returns-in-Err-clause-kept : goal.returns-in-Err-clause-kept
returns-in-Err-clause-kept g c = g.met.L.Link.keeps_then c.args.link.now c.asking.link c.follow-followed.new.link c.asking.invariant.kept c.follow-followed.ensures.kept

pub returns-in-Err-clause-served : goal.returns-in-Err-clause-served
returns-in-Err-clause-served g c =
    let serving = same_step c.args.server.now c.args.work.now c.args.self.now.copy c.asking.self _ _ _ _ c.args.request c.asking.step (steps.Ask c.in-Ask.asked) c.in-Ask.is c.asking.invariant.serving in
    broken_off c.args.server.now c.args.work.now c.args.self.now.copy c.asking.self _ _ _ _ c.args.request c.in-Ask.asked serving _ c.in-Err.refused c.follow-followed.new.self _ c.in-Err.ensures.breaks c.in-Err.ensures.taken_back c.in-Err.ensures.unrun

pub returns-in-Err-clause-asked : goal.returns-in-Err-clause-asked
returns-in-Err-clause-asked g c =
    calls_then c.asking.self.phase _ _ _ c.asking.invariant.asked c.asking.invariant.unasked c.follow-followed.ensures.asked c.follow-followed.ensures.unasked

pub asking-preserved : goal.asking-preserved
asking-preserved g c =
    let serving = same_step c.args.server.now c.args.work.now c.args.self.now.copy c.asking.self _ _ _ _ c.args.request c.asking.step (steps.Ask c.in-Ask.asked) c.in-Ask.is c.asking.invariant.serving in
    record {
      serving = goes_on c.args.server.now c.args.work.now c.args.self.now.copy c.asking.self _ _ _ _ c.args.request c.in-Ask.asked serving _ (record { step = c.in-Ok.next; after = c.follow-followed.new.self }) _ c.in-Ok.ensures.follows;
      sent = c.in-Ok.ensures.sent;
      kept = g.met.L.Link.keeps_then c.args.link.now c.asking.link c.follow-followed.new.link c.asking.invariant.kept c.follow-followed.ensures.kept;
      asked = calls_then c.asking.self.phase _ _ _ c.asking.invariant.asked c.asking.invariant.unasked c.follow-followed.ensures.asked c.follow-followed.ensures.unasked;
      unasked = fetched_once c.asking.self.phase c.follow-followed.new.self.phase _ _ c.in-Ok.ensures.fewer;
    }
