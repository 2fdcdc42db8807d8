use Rattle.std.proofs.Common.{◌∙◌, sym, subst}
use Rattle.byte_fields.proofs.Fronts.{on_error}
use Rattle.cmd_capture.specs.Runs.{telling}
use Rattle.mem_wires.specs.declared.fate.Fate.{Fate}
use Rattle.mem_wires.specs.declared.fate.Fate.TheVariants.{Pass}
use Rattle.mem_net.specs.Scenes.{Scene, scene_of, Befalls, IsReached, BefallsInPart}
use Rattle.mem_wires.proofs.Deciding.{undecided, decided_by, gone_waiting}
use Rattle.mem_net.proofs.Reaching.{goes_on, taken_scene, untaken_scene, nears_on, reached_by, fewer_left, cut_on, reached_end}
use Rattle.mem_net.proofs.parts.NetworkParts.decide.Goals as goal

pub returns-in_err-decided-clause-goes : goal.returns-in_err-decided-clause-goes
returns-in_err-decided-clause-goes g c =
    let scene = scene_of g.R.Runner.runs g.R.Runner.faults in
    goes_on (scene c.args.self.now) (scene c.loop-fate.self) c.args.self.now.wires c.loop-fate.self.wires c.take_fate.new.self c.befall.new.self.wires c.in-Some.fate
    c.loop-fate.invariant.nears c.in-Some.ensures.some c.in-Some.ensures.rest c.in_err-decided.ensures.goes

pub returns-in_err-decided-clause-cut : goal.returns-in_err-decided-clause-cut
returns-in_err-decided-clause-cut g c =
    let runs = g.R.Runner.runs in
    let faults = g.R.Runner.faults in
    let mid = c.loop-fate.self in
    let taken = c.take_fate.new.self in
    let fate = c.in-Some.fate in
    let next = scene_of runs faults c.befall.new.self in
    on_error c.from_residual.result
    (cut_on (scene_of runs faults c.args.self.now) (scene_of runs faults mid) next c.args.self.now.wires mid.wires fate taken.fates c.loop-fate.invariant.nears
    (gone_waiting fate mid.wires.fates taken.fates c.in-Some.ensures.some c.in_err-decided.ensures.err) c.in_err-decided.ensures.err
    (subst (λ (s : Scene). BefallsInPart fate s next) (taken_scene mid.wires taken mid.surrogate.copy (telling (runs mid.runner) (faults mid.runner)) c.in-Some.ensures.rest)
    c.in_err-decided.ensures.cut))

pub returns-in-Some-2-clause-goes : goal.returns-in-Some-2-clause-goes
returns-in-Some-2-clause-goes g c =
    let scene = scene_of g.R.Runner.runs g.R.Runner.faults in
    goes_on (scene c.args.self.now) (scene c.loop-fate.self) c.args.self.now.wires c.loop-fate.self.wires c.take_fate.new.self c.befall.new.self.wires c.in-Some.fate
    c.loop-fate.invariant.nears c.in-Some.ensures.some c.in-Some.ensures.rest c.in_ok-decided.ensures.goes

pub returns-in-Some-2-clause-reaches : goal.returns-in-Some-2-clause-reaches
returns-in-Some-2-clause-reaches g c =
    let runs = g.R.Runner.runs in
    let faults = g.R.Runner.faults in
    let mid = c.loop-fate.self in
    let taken = c.take_fate.new.self in
    let fate = c.in-Some.fate in
    let start = scene_of runs faults c.args.self.now in
    let next = scene_of runs faults c.befall.new.self in
    let befell = subst (λ (s : Scene). Befalls fate s next) (taken_scene mid.wires taken mid.surrogate.copy (telling (runs mid.runner) (faults mid.runner)) c.in-Some.ensures.rest)
    c.in_ok-decided.ensures.befalls in
    let by = decided_by fate c.in-Some-2.decided (sym c.in-Some-2.is ∙ c.in_ok-decided.ensures.ok) in
    subst (λ (f : Fate). IsReached start f next) (sym by.1)
    (reached_by start (scene_of runs faults mid) next c.args.self.now.wires mid.wires taken c.befall.new.self.wires fate c.loop-fate.invariant.nears
    c.in-Some.ensures.some c.in-Some.ensures.some c.in-Some.ensures.rest befell c.in_ok-decided.ensures.goes by.0)

pub loop-fate-preserved : goal.loop-fate-preserved
loop-fate-preserved g c =
    let runs = g.R.Runner.runs in
    let faults = g.R.Runner.faults in
    let mid = c.loop-fate.self in
    let taken = c.take_fate.new.self in
    let fate = c.in-Some.fate in
    let start = scene_of runs faults c.args.self.now in
    let next = scene_of runs faults c.befall.new.self in
    let befell = subst (λ (s : Scene). Befalls fate s next) (taken_scene mid.wires taken mid.surrogate.copy (telling (runs mid.runner) (faults mid.runner)) c.in-Some.ensures.rest)
    c.in_ok-decided.ensures.befalls in
    record {
      nears = nears_on start (scene_of runs faults mid) next c.args.self.now.wires mid.wires taken c.befall.new.self.wires fate c.loop-fate.invariant.nears
          c.in-Some.ensures.some c.in-Some.ensures.some c.in-Some.ensures.rest befell c.in_ok-decided.ensures.goes
          (undecided fate (sym c.in_default-2.is ∙ c.in_ok-decided.ensures.ok));
      idle = c.in_ok-decided.ensures.idle;
    }

pub loop-fate-smaller : goal.loop-fate-smaller
loop-fate-smaller g c =
    let mid = c.loop-fate.self.wires in
    let taken = c.take_fate.new.self in
    let fate = c.in-Some.fate in
    let later = c.in_ok-decided.ensures.goes.takes in
    fewer_left fate later.taken mid.fates taken.fates c.befall.new.self.wires.fates
    (gone_waiting fate mid.fates taken.fates c.in-Some.ensures.some (undecided fate (sym c.in_default-2.is ∙ c.in_ok-decided.ensures.ok))) later.split

pub returns-clause-reaches : goal.returns-clause-reaches
returns-clause-reaches g c =
    let runs = g.R.Runner.runs in
    let faults = g.R.Runner.faults in
    let mid = c.loop-fate.self in
    let start = scene_of runs faults c.args.self.now in
    let none = c.in_default.ensures.none in
    subst (λ (s : Scene). IsReached start Pass s)
    (sym (untaken_scene mid.wires c.take_fate.new.self mid.surrogate.copy (telling (runs mid.runner) (faults mid.runner)) c.in_default.ensures.rest none.0 none.1))
    (reached_end start (scene_of runs faults mid) c.args.self.now.wires mid.wires c.loop-fate.invariant.nears none.0)
