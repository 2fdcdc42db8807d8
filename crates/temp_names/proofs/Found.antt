-- What sorted rows, candidates and pairs say of the lists that they were made of.
use Rattle.std.proofs.Common.{◌≡◌, ◌∙◌, ℕ, suc, ◌+◌, ◌≤◌, ◌||◌, cond, List, [], ◌∷◌, ◌++◌, length, filter, get_or, None, option_map, is_some, is_none, refl, sym, ap, subst, arith}
use Rattle.std.specs.Prelude.{slice_get}
use Rattle.std.specs.List.{AllByRecursion, AllAdjacentBelow, filter_map}
use Rattle.std.specs.Ordering.{is_lt, is_gt, ordering_reverse}
use Rattle.std.specs.declared.cmp.Ordering.TheVariants.{Less}
use Rattle.file_paths.specs.Path.{FilePath, path_cmp, is_same_path}
use Rattle.file_paths.proofs.Order.{paths_total}
use Rattle.tree_values.specs.Tree.{is_root, is_folder_node}
use Rattle.tree_values.specs.declared.node.Node.{Node}
use Rattle.tree_values.specs.declared.node.Node.TheVariants.{Folder, File}
use Rattle.cmd_capture.specs.declared.job.JobRow.{JobRow}
use Rattle.cmd_capture.specs.Rows.{is_job_row_at, node_in}
use Rattle.mod_log.specs.declared.sketched.SketchEffect.{SketchEffect}
use Rattle.mod_log.specs.declared.sketched.SketchEffect.TheVariants.{Make, Put, Remove, Move, Mode}
use Rattle.sha2.specs.Sha256.{sha256}
use Rattle.temp_names.specs.declared.candidate.Candidate.{Candidate}
use Rattle.temp_names.specs.declared.pairs.Renamed.{Renamed}
use Rattle.temp_names.specs.Candidates.{candidate, candidate_of_node, candidate_of_effect, with_candidate, in_path_order, client_candidates, replay_candidates}
use Rattle.temp_names.specs.Rename.{new_path, row_under, unrenamed_rows, renamed_rows}
use Rattle.temp_names.specs.Renaming.{new_clients}
use Rattle.temp_names.specs.Laws.{RisesBy}
use Rattle.temp_names.specs.Inside.{AreSorted, path_of_candidate, path_of_row, path_of_pair}
use Rattle.temp_names.proofs.Sorting.{first_passing, turned}
use Rattle.temp_names.proofs.Rising.{all_map, rises_filter, in_path_order_rises}

-- ---- rows

found_same : (rows sorted : List JobRow) → AreSorted path_of_row rows sorted → (p : FilePath) → node_in sorted p ≡ node_in rows p
found_same rows sorted are p =
    ap (option_map (λ (row : JobRow). row.node))
    (first_passing (is_job_row_at p) sorted
    ∙ ap (λ (ys : List JobRow). slice_get ys 0) (are.same (record { path = p; node = Folder }))
    ∙ sym (first_passing (is_job_row_at p) rows))

node_same : (templates : List (List ℕ)) (job_rows job : List JobRow) → AreSorted path_of_row job_rows job → (path : FilePath) (node : Node)
    → candidate_of_node templates job path node ≡ candidate_of_node templates job_rows path node
node_same templates job_rows job are path Folder = refl
node_same templates job_rows job are path (File content exec) =
    λ i. cond (is_some (found_same job_rows job are path i)) None (candidate templates path (sha256 content))

effect_same : (templates : List (List ℕ)) (job_rows job rows left : List JobRow) → AreSorted path_of_row job_rows job → AreSorted path_of_row rows left → (effect : SketchEffect)
    → candidate_of_effect templates job left effect ≡ candidate_of_effect templates job_rows rows effect
effect_same templates job_rows job rows left are too (Make p) = refl
effect_same templates job_rows job rows left are too (Put p sketch) =
    λ i. cond (is_some (found_same job_rows job are p i) || (is_root p || is_folder_node (found_same rows left too p i))) None (candidate templates p sketch.print)
effect_same templates job_rows job rows left are too (Remove p) = refl
effect_same templates job_rows job rows left are too (Move p q) = refl
effect_same templates job_rows job rows left are too (Mode p exec) = refl

pub replays_same : (templates : List (List ℕ)) (job_rows job rows : List JobRow) → AreSorted path_of_row job_rows job
    → replay_candidates templates job rows ≡ replay_candidates templates job_rows rows
replays_same templates job_rows job rows are = λ i. filter_map (λ row. node_same templates job_rows job are row.path row.node i) rows

pub clients_same : (templates : List (List ℕ)) (effects : List SketchEffect) (job_rows job rows left : List JobRow) → AreSorted path_of_row job_rows job
    → AreSorted path_of_row rows left → client_candidates templates effects job left ≡ client_candidates templates effects job_rows rows
clients_same templates effects job_rows job rows left are too =
    λ i. in_path_order (filter_map (λ effect. effect_same templates job_rows job rows left are too effect i) effects)

-- ---- candidates that are in path order already

rise_each : (c d : Candidate) (cs : List Candidate) → path_cmp c.path d.path ≡ Less → AllByRecursion (λ e. path_cmp d.path e.path ≡ Less) cs
    → AllByRecursion (λ e. path_cmp c.path e.path ≡ Less) cs
rise_each c d cs less all = all_map _ _ (λ e more. paths_total.trans c.path d.path e.path less more) cs all

-- each path is above the one before
pub adjacent_rise : (cs : List Candidate) (n : ℕ) → AllAdjacentBelow (λ (c d : Candidate). path_cmp c.path d.path ≡ Less) cs n → length cs ≤ n → RisesBy path_of_candidate cs
adjacent_rise [] n next all = tt
adjacent_rise (c ∷ []) n next all = (tt, tt)
adjacent_rise (c ∷ d ∷ cs) n next all =
    let less : path_cmp c.path d.path ≡ Less = next 0 c (omega (arith, all)) in
    let more : RisesBy path_of_candidate (d ∷ cs) =
    adjacent_rise (d ∷ cs) (length (d ∷ cs))
    (λ k e within.
    let on : suc k + 1 ≡ suc (k + 1) = omega (arith) in
    subst (λ n. path_cmp (get_or (d ∷ cs) k e).path (get_or (c ∷ d ∷ cs) n e).path ≡ Less) on (next (suc k) e (omega (arith, all, within)))) (omega (arith))
    in ((less, rise_each c d cs less more.0), more)

none_below : (c : Candidate) (cs : List Candidate) → AllByRecursion (λ d. path_cmp c.path d.path ≡ Less) cs → filter (λ d. is_lt (path_cmp d.path c.path)) cs ≡ []
none_below c [] all = refl
none_below c (d ∷ cs) all =
    ap (λ b. cond b (d ∷ filter (λ e. is_lt (path_cmp e.path c.path)) cs) (filter (λ e. is_lt (path_cmp e.path c.path)) cs))
    (ap is_lt (turned d.path c.path ∙ ap ordering_reverse all.0))
    ∙ none_below c cs all.1

all_above : (c : Candidate) (cs : List Candidate) → AllByRecursion (λ d. path_cmp c.path d.path ≡ Less) cs → filter (λ d. is_gt (path_cmp d.path c.path)) cs ≡ cs
all_above c [] all = refl
all_above c (d ∷ cs) all =
    ap (λ b. cond b (d ∷ filter (λ e. is_gt (path_cmp e.path c.path)) cs) (filter (λ e. is_gt (path_cmp e.path c.path)) cs))
    (ap is_gt (turned d.path c.path ∙ ap ordering_reverse all.0))
    ∙ ap (λ es. d ∷ es) (all_above c cs all.1)

pub in_order_already : (cs : List Candidate) → RisesBy path_of_candidate cs → in_path_order cs ≡ cs
in_order_already [] up = refl
in_order_already (c ∷ cs) up =
    ap (with_candidate c) (in_order_already cs up.1)
    ∙ (λ i. none_below c cs up.0 i ++ c ∷ all_above c cs up.0 i)

pub new_clients_rise : (templates : List (List ℕ)) (effects : List SketchEffect) (job_rows rows : List JobRow)
    → RisesBy path_of_candidate (new_clients templates effects job_rows rows)
new_clients_rise templates effects job_rows rows =
    rises_filter path_of_candidate _ (client_candidates templates effects job_rows rows) (in_path_order_rises (filter_map (candidate_of_effect templates job_rows rows) effects))

-- ---- pairs

new_path_same : (renaming sorted : List Renamed) → AreSorted path_of_pair renaming sorted → (p : FilePath) → new_path sorted p ≡ new_path renaming p
unfolding new_path
new_path_same renaming sorted are p =
    ap (option_map (λ (r : Renamed). r.to))
    (first_passing (λ r. is_same_path r.from p) sorted
    ∙ ap (λ (ys : List Renamed). slice_get ys 0) (are.same (record { from = p; to = p }))
    ∙ sym (first_passing (λ r. is_same_path r.from p) renaming))

pub kept_same_rows : (renaming sorted : List Renamed) (rows : List JobRow) → AreSorted path_of_pair renaming sorted → unrenamed_rows sorted rows ≡ unrenamed_rows renaming rows
kept_same_rows renaming sorted rows are = λ i. filter (λ row. is_none (new_path_same renaming sorted are row.path i)) rows

pub renamed_same_rows : (renaming sorted : List Renamed) (rows : List JobRow) → AreSorted path_of_pair renaming sorted → renamed_rows sorted rows ≡ renamed_rows renaming rows
renamed_same_rows renaming sorted rows are =
    λ i. filter_map (λ row. option_map (λ to. row_under to row) (new_path_same renaming sorted are row.path i)) rows
