use Rattle.std.proofs.Common.{◌≤◌, ℕ, List, length, sym, subst, arith, rules}
use Rattle.delta_pieces.specs.Making.{StandFor}
use Rattle.store_parcels.specs.Limits.{max_sources, max_steps}
use Rattle.store_parcels.proofs.Opens.{StoreFits, set_keeps, spelled_opens}
use Rattle.store_parcels.proofs.packing.parcel_over.Goals as goal

pub returns-clause-shorter : goal.returns-clause-shorter
returns-clause-shorter c = omega (arith, set_keeps _ _ _ c.in_ok-parcel.ensures c.set_length.ensures)

pub returns-clause-opens : goal.returns-clause-opens
returns-clause-opens c =
    let known_is = rw c.in-Some.is at c.in_ok-known.ensures.exact in
    let few_known = rw c.in-Some.is at c.in_ok-known.ensures.few in
    let fits : StoreFits c.args.store =
    record { client = c.is_in_range.ensures.client; number = c.is_in_range.ensures.number; entries = c.is_in_range.ensures.entries } in
    let stand : StandFor c.in-Some.known.items c.args.frame.now c.in_ok-pieces.pieces =
    subst (λ (l : List ℕ). StandFor l c.args.frame.now c.in_ok-pieces.pieces) c.as_slice.ensures.value c.in_ok-pieces.ensures.stand in
    let few_paths : length c.args.sources.now ≤ max_sources = omega arith in
    let few_steps : length c.in_ok-pieces.pieces.steps.items ≤ max_steps = omega arith in
    spelled_opens c.steps_are_read.ensures c.found_steps_have_a_spelling.ensures c.args.tree.now c.args.store c.args.sources.now c.in-Some.known.items c.args.frame.now
    c.in_ok-parcel.parcel.items c.set_length.new.frame.items c.digest-print.result c.len-2.result c.in_ok-pieces.pieces
    c.digest-print.ensures (search rules) c.in_ok-parcel.ensures fits (few_paths, c.are_paths.ensures) (sym known_is) few_known stand c.in_ok-pieces.ensures.counts
    few_steps c.requires.few c.requires.told (omega arith) c.set_length.ensures
