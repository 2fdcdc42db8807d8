use Rattle.std.proofs.Common.{◌∙◌, ap}
use Rattle.temp_names.specs.Renaming.{without_paths}
use Rattle.temp_names.proofs.Both.{without_same}
use Rattle.temp_names.proofs.pairs.without_paths.Goals as goal

pub returns : goal.returns
returns c =
    c.in_ok-kept.ensures ∙ ap (without_paths c.args.these.now) c.deref.ensures.value
    ∙ without_same c.args.these.now c.args.others.now c.in_ok-sorted.sorted.items c.in_ok-sorted.ensures
