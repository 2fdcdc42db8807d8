use Rattle.std.proofs.Common.{arith}
use Rattle.byte_fields.proofs.Tails.{span_ends}
use Rattle.store_parcels.proofs.Fronts.{sources_are_within}
use Rattle.store_parcels.proofs.front.front_at.Goals as goal

pub returns-clause-within : goal.returns-clause-within
returns-clause-within c =
    let span = span_ends 32 c.args.bytes.now c.args.at c.in_ok-span.span.now c.in_ok-span.paths_at c.in_ok-span.ensures.exact in
    sources_are_within c.args.bytes.now c.in_ok-span.paths_at c.in_ok-sources.sources c.in_ok-sources.next (λ i. omega (arith, c.type_inv.bytes i)) span.1 c.in_ok-sources.ensures
