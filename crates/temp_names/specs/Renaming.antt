-- Which path of the replay becomes which path of the client. A path belongs to the group of its folder and of the first
-- template that fits its last name; pairs are made within a group, in three passes.
use Rattle.std.specs.Prelude.{ℕ, Bool, ◌&&◌, ◌==◌, not, List, Option, None, option_map, is_none, filter, count_by, slice_get, if◌then◌else◌}
use Rattle.std.specs.List.{filter_map, list_any}
use Rattle.std.specs.Option.{option_or}
use Rattle.std.specs.Str.{bytes_eq}
use Rattle.std.specs.Ordering.{is_lt}
use Rattle.file_paths.specs.Path.{FilePath, path_cmp, is_same_path, folder_of}
use Rattle.cmd_capture.specs.declared.job.JobRow.{JobRow}
use Rattle.mod_log.specs.declared.sketched.SketchEffect.{SketchEffect}
use Rattle.temp_names.specs.declared.candidate.Candidate.{Candidate}
use Rattle.temp_names.specs.declared.candidate.Likeness.{Likeness}
use Rattle.temp_names.specs.declared.candidate.Likeness.TheVariants.{Group, GroupAndPrint}
use Rattle.temp_names.specs.declared.pairs.Renamed.{Renamed}
use Rattle.temp_names.specs.Candidates.{replay_candidates, client_candidates}

abbrev pub has_path : FilePath → Candidate → Bool
has_path path c = is_same_path c.path path

-- in one folder, with one first template
abbrev pub is_same_group : Candidate → Candidate → Bool
is_same_group c d = c.template == d.template && is_same_path (folder_of c.path) (folder_of d.path)

abbrev pub is_alike : Likeness → Candidate → Candidate → Bool
is_alike Group c d = is_same_group c d
is_alike GroupAndPrint c d = is_same_group c d && bytes_eq c.print d.print

-- how many of these are like `c`, and have a smaller path
abbrev pub rank : Likeness → List Candidate → Candidate → ℕ
rank likeness clients c = count_by (λ d. is_alike likeness c d && is_lt (path_cmp d.path c.path)) clients

-- Of the replay's candidates like `c`, the one with the place that `c` has among the client's. So it is where each of the
-- client's, in path order, takes the first of the replay's like it that is left.
unfoldable pub counterpart : Likeness → List Candidate → List Candidate → Candidate → Option Candidate
counterpart likeness clients replays c = slice_get (filter (is_alike likeness c) replays) (rank likeness clients c)

-- these, without those whose path stands among the others
abbrev pub without_paths : List Candidate → List Candidate → List Candidate
without_paths these others = filter (λ c. not (list_any (has_path c.path) others)) these

-- the first pass pairs equal paths, which stay; what it leaves of the client's candidates, and of the replay's
abbrev pub new_clients : List (List ℕ) → List SketchEffect → List JobRow → List JobRow → List Candidate
new_clients templates effects job_rows rows =
    without_paths (client_candidates templates effects job_rows rows) (replay_candidates templates job_rows rows)

abbrev pub new_replays : List (List ℕ) → List SketchEffect → List JobRow → List JobRow → List Candidate
new_replays templates effects job_rows rows =
    without_paths (replay_candidates templates job_rows rows) (client_candidates templates effects job_rows rows)

-- the second pass pairs equal prints; what it leaves of both
abbrev pub clients_left : List Candidate → List Candidate → List Candidate
clients_left clients replays = filter (λ c. is_none (counterpart GroupAndPrint clients replays c)) clients

abbrev pub replays_left : List Candidate → List Candidate → List Candidate
replays_left clients replays = without_paths replays (filter_map (counterpart GroupAndPrint clients replays) clients)

-- the third pass pairs by place, where a group has equally many on both sides
abbrev pub by_place : List Candidate → List Candidate → Candidate → Option Candidate
by_place clients replays c =
    (if count_by (is_same_group c) clients == count_by (is_same_group c) replays then counterpart Group clients replays c else None)

-- the replay's candidate that one of the client's is paired with
unfoldable pub partner : List Candidate → List Candidate → Candidate → Option Candidate
partner clients replays c =
    option_or (counterpart GroupAndPrint clients replays c)
    (by_place (clients_left clients replays) (replays_left clients replays) c)

abbrev pub renamed : Candidate → Candidate → Renamed
renamed c r = record { from = r.path; to = c.path }

abbrev pub pairs : List Candidate → List Candidate → List Renamed
pairs clients replays = filter_map (λ c. option_map (renamed c) (partner clients replays c)) clients

-- the pairs of unequal paths, in the order of the client's
abbrev pub renaming : List (List ℕ) → List SketchEffect → List JobRow → List JobRow → List Renamed
renaming templates effects job_rows rows =
    pairs (new_clients templates effects job_rows rows) (new_replays templates effects job_rows rows)
