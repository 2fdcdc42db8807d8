use Rattle.std.proofs.Common.{◌∙◌, List, sym, ap}
use Rattle.std.specs.Prelude.{slice_get}
use Rattle.file_paths.specs.Path.{is_same_path}
use Rattle.temp_names.specs.declared.pairs.Renamed.{Renamed}
use Rattle.temp_names.proofs.Sorting.{first_passing}
use Rattle.temp_names.proofs.rows.pair_of.Goals as goal

pub returns : goal.returns
returns c =
    c.first.ensures.value ∙ ap (λ (ys : List Renamed). slice_get ys 0) c.pairs_at.ensures
    ∙ sym (first_passing (λ (r : Renamed). is_same_path r.from c.args.path.now) c.args.sorted.now)
