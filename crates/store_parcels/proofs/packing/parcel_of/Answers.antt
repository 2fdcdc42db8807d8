use Rattle.std.proofs.Common.{List, sym, subst}
use Rattle.file_paths.specs.Path.{FilePath}
use Rattle.store_parcels.specs.Packing.{OpensTo}
use Rattle.store_parcels.proofs.Used.{IsKept, found_weaker}
use Rattle.store_parcels.proofs.packing.parcel_of.Goals as goal

pub returns-clause-opens : goal.returns-clause-opens
returns-clause-opens c =
    let kept : IsKept c.args.tree.now c.args.sources.now c.as_slice.result.now =
    subst (λ (l : List FilePath). IsKept c.args.tree.now c.args.sources.now l) (sym c.as_slice.ensures.value) c.in_ok-used.ensures in
    found_weaker (λ parcel. OpensTo c.args.tree.now c.as_slice.result.now parcel.items c.args.frame.now)
    (λ parcel. OpensTo c.args.tree.now c.args.sources.now parcel.items c.args.frame.now)
    (λ parcel opens other alike. opens other (kept other alike)) c.parcel_over.result c.parcel_over.ensures.opens
