use Rattle.std.proofs.Common.{◌∙◌, sym, subst, arith}
use Rattle.std.proofs.lemmas.Result.{err_from_is_err_and}
use Rattle.byte_fields.specs.Field.{Fails, ruled}
use Rattle.byte_fields.proofs.Facts.{le_holds}
use Rattle.store_parcels.specs.Limits.{max_sources}
use Rattle.store_parcels.specs.Front.{paths_at, sources_at}
use Rattle.store_parcels.proofs.Alike.{alike_from}
use Rattle.store_parcels.proofs.front.sources_at.Goals as goal

pub returns-in_err-items : goal.returns-in_err-items
unfolding sources_at ruled
returns-in_err-items c =
    let p = err_from_is_err_and c.from_residual-in_err-items.result c.from_residual-in_err-items.ensures.1 in
    let fault : Fails c.in_err-items.field-0.0 (paths_at c.in_ok-count.count c.args.bytes.now c.in_ok-count.start) =
    subst (λ read. Fails c.in_err-items.field-0.0 read)
    (alike_from c.in_ok-count.count _ c.args.bytes.now c.in_ok-count.start) c.in_err-items.ensures.exact in
    let few = le_holds c.in_ok-count.count max_sources (omega (arith, c.if-count-gt-MAX_SOURCES.false)) in
    rw (p.1, p.2, c.in_ok-count.ensures, few) fault

pub returns : goal.returns
unfolding sources_at ruled
returns c =
    let found = sym (alike_from c.in_ok-count.count _ c.args.bytes.now c.in_ok-count.start) ∙ c.in_ok-items.ensures.exact in
    let few = le_holds c.in_ok-count.count max_sources (omega (arith, c.if-count-gt-MAX_SOURCES.false)) in
    rw (c.in_ok-count.ensures, few, c.from_vec.ensures) found
