use Rattle.std.proofs.Common.{sym, subst}
use Rattle.byte_fields.proofs.Fronts.{on_error}
use Rattle.cmd_capture.specs.Runs.{telling}
use Rattle.mem_wires.specs.declared.fate.Fate.{Fate}
use Rattle.mem_net.specs.Scenes.{scene_of, Befalls, BefallsInPart}
use Rattle.mem_net.proofs.Reaching.{kept_in_part}
use Rattle.mem_net.proofs.parts.NetworkParts.befall.Goals as goal

pub returns-in_ok-late-in-Late-clause-befalls : goal.returns-in_ok-late-in-Late-clause-befalls
returns-in_ok-late-in-Late-clause-befalls g c =
    let runs = g.R.Runner.runs in
    let faults = g.R.Runner.faults in
    subst (λ (f : Fate). Befalls f (scene_of runs faults c.args.self.now) (scene_of runs faults c.late.new.self)) (sym c.in-Late.is) c.in_ok-late-in-Late.ensures.befalls

-- ---- memory runs out

pub returns-in_err-late-in-Late-clause-cut : goal.returns-in_err-late-in-Late-clause-cut
returns-in_err-late-in-Late-clause-cut g c =
    let scene = scene_of g.R.Runner.runs g.R.Runner.faults in
    on_error c.from_residual.result
    (subst (λ (f : Fate). BefallsInPart f (scene c.args.self.now) (scene c.late.new.self)) (sym c.in-Late.is) c.in_err-late-in-Late.ensures.cut)

pub returns-in_default-clause-cut : goal.returns-in_default-clause-cut
returns-in_default-clause-cut g c =
    let runs = g.R.Runner.runs in
    let faults = g.R.Runner.faults in
    let a = c.args.self.now in
    kept_in_part c.args.fate a.wires c.befall.new.self a.surrogate.copy (telling (runs a.runner) (faults a.runner)) c.befall.result c.befall.ensures.kept
