use Rattle.std.proofs.Common.{length, arith, ap, ◌∙◌}
use Rattle.std.specs.List.{sum_by}
use Rattle.byte_fields.specs.Numbers.{as_u64}
use Rattle.tree_values.specs.Spelling.{base}
use Rattle.wire_frames.specs.Inside.{sketched_length}
use Rattle.wire_frames.proofs.OperationSizes.{operation_length}
use Rattle.wire_frames.proofs.lengths.operation_size.Goals as goal

pub returns : goal.returns
returns c = λ client sketched is.
    let changes = c.sketched_sizes.ensures ∙ ap (λ all. as_u64 (sum_by sketched_length all)) c.as_slice.ensures.items in
    let versions = c.bases_size.ensures ∙ ap (λ all. as_u64 (sum_by (λ b. length (base b)) all)) c.as_slice-2.ensures.items in
    let whole = operation_length client c.args.entry.now sketched c.in-Some.origin c.requires.sizes c.in-Some.is is in
    omega (arith, changes, versions, c.in_ok-origin-in-Some.ensures, c.saturating_add.ensures, c.saturating_add-2.ensures, c.saturating_add-3.ensures, whole)
