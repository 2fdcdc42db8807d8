use Rattle.std.proofs.Common.{◌≡◌, ◌∙◌, ℕ, false, ap, subst, sym}
use Rattle.std.specs.Prelude.{◌↔◌}
use Rattle.server_core.specs.Holding.{Holding, served}
use Rattle.mem_wires.specs.Wire.{Wire, world_of}
use Rattle.world_rules.specs.Asking.{AsksOnce}
use Rattle.mem_net.specs.Scenes.{Scene, scene_of, OnMemory, IsCutShort}
use Rattle.mem_net.specs.Handed.{HasNoOthers}
use Rattle.mem_net.proofs.Ruling.{kept_rule, client_kept, net_of, wanted_of}
use Rattle.mem_net.proofs.handed.HandedLink.ask.Goals as goal

pub returns-clause-world : goal.returns-clause-world
returns-clause-world g c = λ request spells.
    let same : c.self.inside.net.wires ≡ c.args.self.now.net.wires = ap (λ h. (net_of h).wires) c.self.view_is in
    subst (λ (w : Wire). AsksOnce c.args.to c.args.address.now request (world_of w) (world_of c.ask-came.new.self.wires) c.ask-came.result) same
    (c.ask-came.ensures.world request spells)

pub returns-clause-cut : goal.returns-clause-cut
returns-clause-cut g c = λ request spells.
    let scene = scene_of g.R.Runner.runs g.R.Runner.faults in
    let same : scene c.self.inside.net ≡ scene c.args.self.now.net = ap (λ h. scene (net_of h)) c.self.view_is in
    subst (λ (s : Scene). OnMemory c.ask-came.result (IsCutShort c.args.to request s (scene c.ask-came.new.self))) same (c.ask-came.ensures.cut request spells)

-- ---- the rule

pub invariant_of-self : goal.invariant_of-self
invariant_of-self g c =
    let net = c.self.inside.net.wires in
    let after = c.ask-came.new.self.wires in
    let request = c.requires.0 in
    let asks = c.ask-came.ensures.world request c.requires.1 in
    let own : c.self.inside.client ≡ after.client =
    c.self.invariant.0 ∙ sym (client_kept c.args.to c.args.address.now request (world_of net) (world_of after) c.ask-came.result asks) in (
      own,
      λ unwanted.
          let none = c.is_wanted-self-inside.ensures.0 unwanted in
          let others : HasNoOthers c.self.inside.client (served after.server) =
          subst (λ (h : Holding). HasNoOthers c.self.inside.client (served h)) c.server.ensures (c.has_others-others.ensures.0 none.2) in
          kept_rule c.args.address.now request (world_of net) (world_of after) net.fates after.fates net.troubles after.troubles (c.self.invariant.1 none.0)
          (subst (λ (client : ℕ). HasNoOthers client (served after.server)) own others) c.args.to c.ask-came.result none.1 asks c.ask-came.ensures.fates,
    )

pub returns-clause-wanted : goal.returns-clause-wanted
returns-clause-wanted g c =
    let net = c.self.inside.net.wires in
    let after = c.ask-came.new.self.wires in
    let request = c.requires.0 in
    let asks = c.ask-came.ensures.world request c.requires.1 in
    let own : c.self.inside.client ≡ after.client =
    c.self.invariant.0 ∙ sym (client_kept c.args.to c.args.address.now request (world_of net) (world_of after) c.ask-came.result asks) in
    let was : c.self.inside.wanted ≡ c.args.self.now.wanted = ap (λ h. wanted_of h) c.self.view_is in
    let others : (c.has_others-others.result ≡ false) ↔ HasNoOthers after.client (served after.server) =
    subst (λ (client : ℕ). (c.has_others-others.result ≡ false) ↔ HasNoOthers client (served after.server)) own
    (subst (λ (h : Holding). (c.has_others-others.result ≡ false) ↔ HasNoOthers c.self.inside.client (served h)) c.server.ensures c.has_others-others.ensures) in (
      λ unwanted. let none = c.is_wanted-self-inside.ensures.0 unwanted in (sym was ∙ none.0, none.1, others.0 none.2),
      λ all. c.is_wanted-self-inside.ensures.1 (was ∙ all.0, all.1, others.1 all.2),
    )
