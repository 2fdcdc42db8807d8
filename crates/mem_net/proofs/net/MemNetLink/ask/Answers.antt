use Rattle.std.proofs.Common.{◌≡◌, ap, subst}
use Rattle.mem_net.specs.Scenes.{Scene, scene_of, OnMemory, IsCutShort}
use Rattle.mem_net.proofs.net.MemNetLink.ask.Goals as goal

pub returns-clause-cut : goal.returns-clause-cut
returns-clause-cut g c = λ request spells.
    let scene = scene_of g.R.Runner.runs g.R.Runner.faults in
    let same : scene c.self.inside.parts ≡ scene c.args.self.now = ap scene c.self.view_is in
    subst (λ (s : Scene). OnMemory c.ask.result (IsCutShort c.args.to request s (scene c.ask.new.self))) same (c.ask.ensures.cut request spells)
