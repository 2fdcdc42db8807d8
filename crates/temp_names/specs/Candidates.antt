-- The paths that a renaming may pair: new files of the replay, and new files of the client.
use Rattle.std.specs.Prelude.{ℕ, ◌||◌, List, [], ◌∷◌, ◌++◌, Option, None, option_map, is_some, filter, if◌then◌else◌}
use Rattle.std.specs.List.{filter_map}
use Rattle.std.specs.Ordering.{is_lt, is_gt}
use Rattle.sha2.specs.Sha256.{sha256}
use Rattle.file_paths.specs.Path.{FilePath, path_cmp, last_name}
use Rattle.tree_values.specs.declared.node.Node.{Node}
use Rattle.tree_values.specs.declared.node.Node.TheVariants.{Folder, File}
use Rattle.cmd_capture.specs.declared.job.JobRow.{JobRow}
use Rattle.cmd_capture.specs.Rows.{node_in, is_folder_in}
use Rattle.mod_log.specs.declared.sketched.SketchEffect.{SketchEffect}
use Rattle.mod_log.specs.declared.sketched.SketchEffect.TheVariants.{Make, Put, Remove, Move, Mode}
use Rattle.temp_names.specs.declared.candidate.Candidate.{Candidate}
use Rattle.temp_names.specs.Fits.{first_fitting}

-- the path with its first template and its content's print, where its last name fits a template
abbrev pub candidate : List (List ℕ) → FilePath → List ℕ → Option Candidate
candidate templates path print =
    option_map (λ i. record { path = path; template = i; print = print }) (first_fitting templates (last_name path))

-- the path of a file that is not in the job
abbrev pub candidate_of_node : List (List ℕ) → List JobRow → FilePath → Node → Option Candidate
candidate_of_node templates job_rows path Folder = None
candidate_of_node templates job_rows path (File content exec) =
    (if is_some (node_in job_rows path) then None else candidate templates path (sha256 content))

abbrev pub candidate_of_row : List (List ℕ) → List JobRow → JobRow → Option Candidate
candidate_of_row templates job_rows row = candidate_of_node templates job_rows row.path row.node

-- a `Put` whose path is not in the job, and where the replay left no folder
abbrev pub candidate_of_effect : List (List ℕ) → List JobRow → List JobRow → SketchEffect → Option Candidate
candidate_of_effect templates job_rows rows (Make p) = None
candidate_of_effect templates job_rows rows (Put p sketch) =
    (if is_some (node_in job_rows p) || is_folder_in rows p then None else candidate templates p sketch.print)
candidate_of_effect templates job_rows rows (Remove p) = None
candidate_of_effect templates job_rows rows (Move p q) = None
candidate_of_effect templates job_rows rows (Mode p exec) = None

-- at its place, instead of one with the same path
abbrev pub with_candidate : Candidate → List Candidate → List Candidate
with_candidate new candidates =
    filter (λ c. is_lt (path_cmp c.path new.path)) candidates ++ new ∷ filter (λ c. is_gt (path_cmp c.path new.path)) candidates

-- in path order, and of those with equal paths the first
abbrev pub in_path_order : List Candidate → List Candidate
in_path_order [] = []
in_path_order (c ∷ cs) = with_candidate c (in_path_order cs)

-- of the replay: the files of `rows`
abbrev pub replay_candidates : List (List ℕ) → List JobRow → List JobRow → List Candidate
replay_candidates templates job_rows rows = filter_map (candidate_of_row templates job_rows) rows

-- of the client: the contents that its effects put
abbrev pub client_candidates : List (List ℕ) → List SketchEffect → List JobRow → List JobRow → List Candidate
client_candidates templates effects job_rows rows =
    in_path_order (filter_map (candidate_of_effect templates job_rows rows) effects)
