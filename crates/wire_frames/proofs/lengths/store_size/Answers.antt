use Rattle.std.proofs.Common.{length, arith, ap, ◌∙◌}
use Rattle.std.specs.List.{sum_by}
use Rattle.byte_fields.specs.Numbers.{as_u64}
use Rattle.tree_values.specs.Spelling.{effect, base}
use Rattle.wire_frames.proofs.OperationSizes.{store_length}
use Rattle.wire_frames.proofs.lengths.store_size.Goals as goal

pub returns : goal.returns
returns c = λ client number.
    let changes = c.effects_size.ensures ∙ ap (λ all. as_u64 (sum_by (λ e. length (effect e)) all)) c.as_slice.ensures.items in
    let versions = c.bases_size.ensures ∙ ap (λ all. as_u64 (sum_by (λ b. length (base b)) all)) c.as_slice-2.ensures.items in
    omega (arith, changes, versions, c.saturating_add.ensures, c.saturating_add-2.ensures, store_length client number c.args.effects.now c.args.base.now)
