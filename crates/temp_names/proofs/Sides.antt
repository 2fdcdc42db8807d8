-- What is known of the candidates of either side, and which paths are candidates.
use Rattle.std.proofs.Common.{◌≡◌, ◌∙◌, ℕ, Bool, true, false, ◌||◌, List, [], ◌∷◌, filter, Option, Some, None, is_some, option_map, find, inl, inr, refl, sym, ap, subst, cond}
use Rattle.std.specs.List.{AllByRecursion, list_any}
use Rattle.std.proofs.lemmas.Option.{none-some}
use Rattle.std.specs.declared.cmp.Ordering.{Ordering}
use Rattle.std.specs.declared.cmp.Ordering.TheVariants.{Less, Equal, Greater}
use Rattle.std.specs.Ordering.{is_lt, is_gt, is_eq}
use Rattle.sha2.specs.Sha256.{sha256}
use Rattle.byte_fields.proofs.Facts.{or_false_of, or_true}
use Rattle.file_paths.specs.Path.{FilePath, path_cmp, last_name}
use Rattle.file_paths.proofs.Order.{own_path, tied_path, path_tied, same_path}
use Rattle.tree_values.specs.Lists.{IsIn}
use Rattle.tree_values.specs.declared.node.Node.{Node}
use Rattle.tree_values.specs.declared.node.Node.TheVariants.{Folder, File}
use Rattle.cmd_capture.specs.declared.job.JobRow.{JobRow}
use Rattle.cmd_capture.specs.Rows.{node_in, is_job_row_at, is_folder_in, JobRowsAreInOrder}
use Rattle.mod_log.specs.declared.sketched.SketchEffect.{SketchEffect}
use Rattle.mod_log.specs.declared.sketched.SketchEffect.TheVariants.{Make, Put, Remove, Move, Mode}
use Rattle.temp_names.specs.declared.candidate.Candidate.{Candidate}
use Rattle.temp_names.specs.Fits.{first_fitting}
use Rattle.temp_names.specs.Candidates.{candidate, candidate_of_node, candidate_of_row, candidate_of_effect, with_candidate, in_path_order, replay_candidates, client_candidates}
use Rattle.temp_names.specs.Renaming.{has_path}
use Rattle.temp_names.specs.Laws.{IsNewFile, IsNewPut}
use Rattle.temp_names.proofs.Rising.{some_same, all_append, all_filter, all_map, all_both, all_found, all_in, holds_in, in_filter, in_found}
use Rattle.vol_tree.proofs.Behind.{IsIn-left, IsIn-right}

-- ---- lists

pub none_of : {X : Type 0} (o : Option X) → is_some o ≡ false → o ≡ None
none_of None e = refl
none_of (Some x) e = absurd cc

pub any_in : (path : FilePath) (cs : List Candidate) (c : Candidate) → IsIn c cs → c.path ≡ path → list_any (has_path path) cs ≡ true
any_in path [] c among same = absurd among
any_in path (d ∷ cs) c (inl e) same = rw (path_tied d.path path (ap (λ (x : Candidate). x.path) (sym e) ∙ same)) refl
any_in path (d ∷ cs) c (inr among) same = or_true (has_path path d) _ (any_in path cs c among same)

-- ---- rows

-- a row in order is what stands at its path
standing : (rows : List JobRow) → JobRowsAreInOrder rows → AllByRecursion (λ row. node_in rows row.path ≡ Some row.node) rows
standing [] up = tt
standing (row ∷ rows) up = (
  rw (own_path row.path) refl,
  all_map (λ next. (path_cmp row.path next.path ≡ Less) × (node_in rows next.path ≡ Some next.node)) (λ next. node_in (row ∷ rows) next.path ≡ Some next.node)
      (λ next so. rw (ap is_eq so.0) so.1) rows (all_both (λ next. path_cmp row.path next.path ≡ Less) (λ next. node_in rows next.path ≡ Some next.node) rows up.0 (standing rows up.1)),
)

pub stands : (rows : List JobRow) (row : JobRow) → JobRowsAreInOrder rows → IsIn row rows → node_in rows row.path ≡ Some row.node
stands rows row up among = holds_in (λ r. node_in rows r.path ≡ Some r.node) rows row (standing rows up) among

abbrev pub row_of : FilePath → Node → JobRow
row_of path node = record { path = path; node = node }

pub row_there : (rows : List JobRow) (path : FilePath) (node : Node) → node_in rows path ≡ Some node → IsIn (row_of path node) rows
row_there [] path node e = absurd (none-some node e)
row_there (row ∷ rows) path node e =
    elim (is_job_row_at path row) as (λ b. is_job_row_at path row ≡ b → option_map (λ r. r.node) (cond b (Some row) (find (is_job_row_at path) rows)) ≡ Some node
    → IsIn (row_of path node) (row ∷ rows)) [
      | true ↦ λ so f. inl (λ i. row_of (sym (tied_path row.path path so) i) (sym (some_same row.node node f) i))
      | false ↦ λ so f. inr (row_there rows path node f)
    ] refl e

-- ---- candidates

abbrev pub IsNamed : List (List ℕ) → Candidate → Type 0
IsNamed templates c = first_fitting templates (last_name c.path) ≡ Some c.template

abbrev made : FilePath → List ℕ → ℕ → Candidate
made path print i = record { path = path; template = i; print = print }

candidate_named : (templates : List (List ℕ)) (path : FilePath) (print : List ℕ) (c : Candidate) → candidate templates path print ≡ Some c
    → IsNamed templates c × (c.path ≡ path)
candidate_named templates path print c e =
    elim (first_fitting templates (last_name path)) as (λ o. first_fitting templates (last_name path) ≡ o → option_map (made path print) o ≡ Some c
    → IsNamed templates c × (c.path ≡ path)) [
      | None ↦ λ so f. absurd (none-some c f)
      | Some i ↦ λ so f. subst (λ d. IsNamed templates d × (d.path ≡ path)) (some_same (made path print i) c f) (so, refl)
    ] refl e

-- what is found of a row has its path
pub row_path : (templates : List (List ℕ)) (job_rows : List JobRow) (path : FilePath) (node : Node) (c : Candidate)
    → candidate_of_node templates job_rows path node ≡ Some c → c.path ≡ path
row_path templates job_rows path Folder c e = absurd (none-some c e)
row_path templates job_rows path (File content exec) c e =
    elim (is_some (node_in job_rows path)) as (λ b. cond b None (candidate templates path (sha256 content)) ≡ Some c → c.path ≡ path) [
      | true ↦ λ f. absurd (none-some c f)
      | false ↦ λ f. (candidate_named templates path (sha256 content) c f).1
    ] e

module _ (templates : List (List ℕ)) (effects : List SketchEffect) (job_rows rows : List JobRow) where
  pub record IsOfClient (c : Candidate) : Type 0 where
    pub named : IsNamed templates c
    pub put : IsNewPut effects job_rows rows c.path

  pub record IsOfReplay (c : Candidate) : Type 0 where
    pub named : IsNamed templates c
    pub is_new : node_in job_rows c.path ≡ None
    pub is_row : (content : List ℕ) × (exec : Bool) × IsIn (row_of c.path (File content exec)) rows

  put_found : (effect : SketchEffect) → IsIn effect effects → (c : Candidate) → candidate_of_effect templates job_rows rows effect ≡ Some c → IsOfClient c
  put_found (Make p) among c e = absurd (none-some c e)
  put_found (Remove p) among c e = absurd (none-some c e)
  put_found (Move p q) among c e = absurd (none-some c e)
  put_found (Mode p exec) among c e = absurd (none-some c e)
  put_found (Put p sketch) among c e =
      elim (is_some (node_in job_rows p) || is_folder_in rows p) as (λ b. (is_some (node_in job_rows p) || is_folder_in rows p) ≡ b
      → cond b None (candidate templates p sketch.print) ≡ Some c → IsOfClient c) [
        | true ↦ λ so f. absurd (none-some c f)
        | false ↦ λ so f. record {
          named = (candidate_named templates p sketch.print c f).0;
          put = subst (IsNewPut effects job_rows rows) (sym (candidate_named templates p sketch.print c f).1)
              (record {
                is_new = none_of _ (or_false_of _ _ so).0;
                is_put = (sketch, among);
                no_folder = (or_false_of _ _ so).1;
              });
        }
      ] refl e

  node_found : (path : FilePath) (node : Node) → IsIn (row_of path node) rows → (c : Candidate)
      → candidate_of_node templates job_rows path node ≡ Some c → IsOfReplay c
  node_found path Folder among c e = absurd (none-some c e)
  node_found path (File content exec) among c e =
      elim (is_some (node_in job_rows path)) as (λ b. is_some (node_in job_rows path) ≡ b
      → cond b None (candidate templates path (sha256 content)) ≡ Some c → IsOfReplay c) [
        | true ↦ λ so f. absurd (none-some c f)
        | false ↦ λ so f. record {
          named = (candidate_named templates path (sha256 content) c f).0;
          is_new = subst (λ p. node_in job_rows p ≡ None) (sym (candidate_named templates path (sha256 content) c f).1) (none_of _ so);
          is_row = (content, exec, subst (λ p. IsIn (row_of p (File content exec)) rows) (sym (candidate_named templates path (sha256 content) c f).1) among);
        }
      ] refl e

  all_ordered : (P : Candidate → Type 0) (cs : List Candidate) → AllByRecursion P cs → AllByRecursion P (in_path_order cs)
  all_ordered P [] all = tt
  all_ordered P (c ∷ cs) all =
      all_append P _ _ (all_filter P _ (in_path_order cs) (all_ordered P cs all.1)) (all.0, all_filter P _ (in_path_order cs) (all_ordered P cs all.1))

  pub clients_are : AllByRecursion IsOfClient (client_candidates templates effects job_rows rows)
  clients_are =
      all_ordered IsOfClient _
      (all_found (λ effect. IsIn effect effects) IsOfClient (candidate_of_effect templates job_rows rows) (λ effect c so among. put_found effect among c so) effects (all_in effects))

  pub replays_are : AllByRecursion IsOfReplay (replay_candidates templates job_rows rows)
  replays_are =
      all_found (λ row. IsIn row rows) IsOfReplay (candidate_of_row templates job_rows) (λ row c so among. node_found row.path row.node among c so) rows (all_in rows)

  -- ---- which paths are candidates

  abbrev Has : FilePath → List Candidate → Type 0
  Has path cs = (c : Candidate) × IsIn c cs × (c.path ≡ path)

  kept_or_tied : (new : Candidate) (cs : List Candidate) (c : Candidate) → IsIn c cs → Has c.path (with_candidate new cs)
  kept_or_tied new cs c among = by (path_cmp c.path new.path) refl
    where
      by : (o : Ordering) → path_cmp c.path new.path ≡ o → Has c.path (with_candidate new cs)
      by Less e = (c, IsIn-left c _ _ (in_filter (λ d. is_lt (path_cmp d.path new.path)) cs c among (ap is_lt e)), refl)
      by Equal e = (new, IsIn-right new (filter (λ d. is_lt (path_cmp d.path new.path)) cs) _ (inl refl), sym (same_path c.path new.path e))
      by Greater e = (
        c,
        IsIn-right c (filter (λ d. is_lt (path_cmp d.path new.path)) cs) _
            (inr (in_filter (λ d. is_gt (path_cmp d.path new.path)) cs c among (ap is_gt e))),
        refl,
      )

  ordered_has : (cs : List Candidate) (c : Candidate) → IsIn c cs → Has c.path (in_path_order cs)
  ordered_has [] c among = absurd among
  ordered_has (d ∷ cs) c (inl same) =
      (d, IsIn-right d (filter (λ x. is_lt (path_cmp x.path d.path)) (in_path_order cs)) _ (inl refl), ap (λ (x : Candidate). x.path) (sym same))
  ordered_has (d ∷ cs) c (inr among) =
      let there = ordered_has cs c among in
      let kept = kept_or_tied d (in_path_order cs) there.0 there.1 in
      (kept.0, kept.1, kept.2 ∙ there.2)

  pub puts_are_candidates : (path : FilePath) (i : ℕ) → IsNewPut effects job_rows rows path → first_fitting templates (last_name path) ≡ Some i
      → list_any (has_path path) (client_candidates templates effects job_rows rows) ≡ true
  puts_are_candidates path i new fits =
      let found : candidate_of_effect templates job_rows rows (Put path new.is_put.0) ≡ Some (made path new.is_put.0.print i) =
      rw new.is_new (rw new.no_folder (rw fits refl)) in
      let there = ordered_has _ (made path new.is_put.0.print i)
      (in_found (candidate_of_effect templates job_rows rows) effects (Put path new.is_put.0) _ new.is_put.1 found) in
      any_in path _ there.0 there.1 there.2

  pub files_are_candidates : (path : FilePath) (i : ℕ) → IsNewFile job_rows rows path → first_fitting templates (last_name path) ≡ Some i
      → list_any (has_path path) (replay_candidates templates job_rows rows) ≡ true
  files_are_candidates path i new fits =
      let found : candidate_of_row templates job_rows (row_of path (File new.is_file.0 new.is_file.1)) ≡ Some (made path (sha256 new.is_file.0) i) =
      rw new.is_new (rw fits refl) in
      any_in path _ (made path (sha256 new.is_file.0) i)
      (in_found (candidate_of_row templates job_rows) rows (row_of path (File new.is_file.0 new.is_file.1)) _ (row_there rows path (File new.is_file.0 new.is_file.1) new.is_file.2) found) refl
