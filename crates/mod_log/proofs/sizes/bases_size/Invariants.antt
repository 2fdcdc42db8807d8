use Rattle.std.proofs.Common.{◌≡◌, length, take}
use Rattle.std.specs.List.{sum_by}
use Rattle.byte_fields.specs.Numbers.{as_u64}
use Rattle.tree_values.specs.Spelling.{base}
use Rattle.mod_log.proofs.sizes.bases_size.Given as goal

abbrev pub invariant-loop-base : goal.invariant-loop-base
invariant-loop-base l = l.size ≡ as_u64 (sum_by (λ b. length (base b)) (take l.base-index l.bases))
