use Rattle.std.proofs.Common.{◌∙◌, ◌==◌, List, length, not, sym, ap}
use Rattle.temp_names.specs.declared.candidate.Candidate.{Candidate}
use Rattle.temp_names.specs.Renaming.{has_path}
use Rattle.temp_names.proofs.Both.{any_of_filter}
use Rattle.temp_names.proofs.pairs.has_path.Goals as goal

pub returns : goal.returns
returns c =
    ap not (c.is_empty.ensures ∙ ap (λ (ys : List Candidate). length ys == 0) c.candidates_at.ensures)
    ∙ sym (any_of_filter (has_path c.args.path.now) c.args.sorted.now)
