use Rattle.std.proofs.Common.{◌≡◌, take}
use Rattle.std.specs.List.{filter_map}
use Rattle.temp_names.specs.Candidates.{candidate_of_effect}
use Rattle.temp_names.proofs.candidate.effect_candidates.Given as goal

abbrev pub invariant-loop-effect : goal.invariant-loop-effect
invariant-loop-effect l = l.candidates.items ≡ filter_map (candidate_of_effect l.templates l.job_rows l.rows) (take l.effect-index l.effects)
