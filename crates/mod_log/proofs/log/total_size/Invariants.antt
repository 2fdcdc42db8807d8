use Rattle.std.proofs.Common.{◌≡◌, take}
use Rattle.std.specs.List.{sum_by}
use Rattle.byte_fields.specs.Numbers.{as_u64}
use Rattle.mod_log.proofs.log.total_size.Given as goal

abbrev pub invariant-loop-kept : goal.invariant-loop-kept
invariant-loop-kept l = l.size ≡ as_u64 (sum_by (λ kept. kept.size) (take l.kept-index l.pending))
