use Rattle.std.proofs.Common.{rules, ◌≡◌, List, get_or, ◌∙◌, ap, subst}
use Rattle.tree_values.specs.declared.node.Effect.{Effect}
use Rattle.vol_tree.specs.declared.effects.ApplyAllError.{ApplyAllError}
use Rattle.vol_tree.specs.Applying.{IsAllRefusal}
use Rattle.wire_frames.specs.declared.parts.Part.{Part}
use Rattle.surrogate_core.proofs.Faults.{refused_fits}
use Rattle.surrogate_core.proofs.replaying.take.Goals as goal

pub returns-in-Err-At-clause-fits : goal.returns-in-Err-At-clause-fits
returns-in-Err-At-clause-fits c =
    let lent : (get_or c.as_slice.result.now 0 c.index-as_slice-0.result).effects ≡ c.args.effects =
    ap (λ (parts : List Part). (get_or parts 0 c.index-as_slice-0.result).effects) (c.as_slice.ensures.items ∙ c.in_ok-entries.ensures) in
    let refused = subst (λ (es : List Effect). IsAllRefusal es c.args.copy.now c.in-Err-At.field-0) lent c.in-Err-At.ensures.err in
    let is = subst (λ (e : ApplyAllError). IsAllRefusal c.args.effects c.args.copy.now e) c.in-Err-At.field-0-is refused in
    (search rules, refused_fits c.args.effects c.args.copy.now c.in-Err-At.index c.in-Err-At.fault c.requires.effects c.count.ensures.tree is)
