use Rattle.std.proofs.Common.{◌≡◌, take}
use Rattle.std.specs.List.{filter_map}
use Rattle.temp_names.specs.Candidates.{candidate_of_row}
use Rattle.temp_names.proofs.candidate.replay_candidates.Given as goal

abbrev pub invariant-loop-row : goal.invariant-loop-row
invariant-loop-row l = l.candidates.items ≡ filter_map (candidate_of_row l.templates l.job_rows) (take l.row-index l.rows)
