use Rattle.std.proofs.Common.{◌∙◌, ap, subst, sym, List, ℕ, IfOk}
use Rattle.mem_wires.specs.Wire.{world_of, new_world}
use Rattle.mem_wires.specs.declared.fate.Fate.{Fate}
use Rattle.world_rules.specs.Served.{new_served}
use Rattle.world_rules.specs.World.{World}
use Rattle.mem_net.specs.declared.parts.NetworkParts.{NetworkParts}
use Rattle.mem_net.specs.Drill.{InDrill}
use Rattle.mem_net.specs.Handed.{IsByRule, Handing}
use Rattle.client_drill.specs.Drill.{script}
use Rattle.client_drill.specs.Drilled.{WorksOff}
use Rattle.client_drill.proofs.Fating.{drills_begin_by_rule}
use Rattle.client_drill.proofs.session.work_off.Goals as goal

pub new-link-requires-clause-rule : goal.new-link-requires-clause-rule
new-link-requires-clause-rule c =
    let net = c.requires.net in
    subst (λ (parts : NetworkParts InDrill). IsByRule (world_of parts.wires) parts.wires.fates) (sym c.replace.ensures.value)
    (subst (λ (world : World). IsByRule world c.args.net.now.wires.fates) (sym net.world)
    (subst (λ (fates : List Fate). IsByRule (new_world 1 new_served) fates) (sym net.fates) (drills_begin_by_rule 1 c.args.seed c.args.count)))

pub returns-clause-worked : goal.returns-clause-worked
returns-clause-worked c =
    let result = c.work_through-worked.result in
    let lines = script c.args.seed c.args.count in
    let before = c.args.runner.now in
    let after = c.work_through-worked.new.runner in
    let link = c.work_through-worked.new.link in
    let old_is = ap (λ (h : Handing InDrill). h.net) c.new-link.ensures ∙ c.replace.ensures.value in
    let new_is = c.replace-2.ensures.after ∙ c.into_net-used.ensures.net in
    subst (λ (net : NetworkParts InDrill). IfOk result (WorksOff lines before after c.args.net.now net)) (sym new_is)
    (subst (λ (net : NetworkParts InDrill). IfOk result (WorksOff lines before after net link.net)) old_is
    (subst (λ (text : List ℕ). IfOk result (WorksOff text before after c.new-link.result.net link.net)) c.in_ok-lines.ensures c.work_through-worked.ensures))
