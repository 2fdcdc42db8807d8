-- The rows of a job are what the tree has at the job's paths.
use Rattle.std.proofs.Common.{◌≡◌, Bool, true, false, List, [], ◌∷◌}
use Rattle.std.proofs.Common.{Option, Some, None, option_map, Ok, cond, refl, sym, ap, ◌∙◌}
use Rattle.std.proofs.Common.{subst}
use Rattle.std.specs.List.{filter_map, cons_option, AllByRecursion}
use Rattle.std.specs.Option.{option_and_then}
use Rattle.std.specs.declared.cmp.Ordering.TheVariants.{Less}
use Rattle.file_paths.specs.Path.{FilePath, path_cmp, is_same_path}
use Rattle.tree_values.specs.Tree.{Volume, AreInOrder, node_at}
use Rattle.tree_values.specs.declared.node.Node.{Node}
use Rattle.tree_values.specs.declared.node.Row.{Row}
use Rattle.tree_values.proofs.Ordered.{find_none}
use Rattle.byte_fields.proofs.Facts.{not_true}
use Rattle.file_paths.proofs.Order.{paths_differ, paths_apart, tied_path, own_path}
use Rattle.file_paths.proofs.Refusals.{value_unrefused}
use Rattle.cmd_capture.specs.declared.command.Command.{Command}
use Rattle.cmd_capture.specs.declared.job.Job.{Job}
use Rattle.cmd_capture.specs.declared.job.JobRow.{JobRow}
use Rattle.cmd_capture.specs.Rows.{is_job_row_at, node_in}
use Rattle.work_area.specs.Jobs.{is_of_job, job_row_of, job_refusals, job_of}
use Rattle.work_area.specs.Laws.{JobsHoldTheTree}

-- ---- one row

-- a row of the job stands at the path of the tree's
pub made_there : (c : Command) (row : Row) (r : JobRow) → job_row_of c row ≡ Some r → (r.path ≡ row.path) × (row.node ≡ Some r.node)
made_there c row r h = by (is_of_job c row.path) row.node refl h
  where
    by : (b : Bool) (o : Option Node) → row.node ≡ o
        → cond b (option_map (λ node. record { path = row.path; node = node }) o) None ≡ Some r
        → (r.path ≡ row.path) × (row.node ≡ Some r.node)
    by true (Some n) e h =
        let path : row.path ≡ r.path = cc in
        let node : n ≡ r.node = cc in
        (sym path, e ∙ ap (λ m. Some m) node)
    by true None e h = absurd cc
    by false o e h = absurd cc

unlike : (p : FilePath) (row : Row) → path_cmp p row.path ≡ Less → is_same_path row.path p ≡ false
unlike p row less = paths_apart row.path p (paths_differ p row.path Less less (λ equal. absurd cc))

none_above : (p : FilePath) (rows : Volume) → AllByRecursion (λ next. path_cmp p next.path ≡ Less) rows → node_at rows p ≡ None
none_above p rows all = ap (option_and_then (λ row. row.node)) (find_none (λ row. is_same_path row.path p) rows (each rows all))
  where
    each : (xs : Volume) → AllByRecursion (λ next. path_cmp p next.path ≡ Less) xs
        → AllByRecursion (λ row. is_same_path row.path p ≡ false) xs
    each [] all = tt
    each (x ∷ xs) all = (unlike p x all.0, each xs all.1)

-- ---- what stands at a path

module _ (c : Command) where
  skipped : (row : Row) (rows : List JobRow) (path : FilePath) → is_same_path row.path path ≡ false
      → node_in (cons_option (job_row_of c row) rows) path ≡ node_in rows path
  skipped row rows path e = by (job_row_of c row) refl
    where
      by : (o : Option JobRow) → job_row_of c row ≡ o → node_in (cons_option o rows) path ≡ node_in rows path
      by None h = refl
      by (Some r) h =
          let other : is_job_row_at path r ≡ false = ap (λ p. is_same_path p path) (made_there c row r h).0 ∙ e in
          rw other refl

  -- the first row stands at the path
  first_there : (row : Row) (rows : Volume) (path : FilePath) → row.path ≡ path
      → AllByRecursion (λ next. path_cmp row.path next.path ≡ Less) rows
      → node_in (filter_map (job_row_of c) rows) path ≡ cond (is_of_job c path) (node_at rows path) None
      → (b : Bool) (o : Option Node) → is_of_job c row.path ≡ b → row.node ≡ o
      → node_in (cons_option (job_row_of c row) (filter_map (job_row_of c) rows)) path ≡ cond b o None
  first_there row rows path there above more true (Some n) eb eo =
      let made : job_row_of c row ≡ Some (record { path = row.path; node = n }) = rw (eb, eo) refl in
      let here : is_same_path row.path path ≡ true = subst (λ q. is_same_path row.path q ≡ true) there (own_path row.path) in
      rw (made, here) refl
  first_there row rows path there above more true None eb eo =
      let made : job_row_of c row ≡ None = rw (eb, eo) refl in
      let none : node_at rows path ≡ None = subst (λ q. node_at rows q ≡ None) there (none_above row.path rows above) in
      rw made (more ∙ rw (← there, eb) (subst (λ q. node_at rows q ≡ None) (sym there) none))
  first_there row rows path there above more false o eb eo =
      let made : job_row_of c row ≡ None = rw eb refl in
      rw made (more ∙ rw (← there, eb) refl)

  pub job_nodes : (rows : Volume) → AreInOrder rows → (path : FilePath)
      → node_in (filter_map (job_row_of c) rows) path ≡ cond (is_of_job c path) (node_at rows path) None
  job_nodes [] order path = by (is_of_job c path)
    where
      by : (b : Bool) → node_in [] path ≡ cond b (node_at [] path) None
      by true = refl
      by false = refl
  job_nodes (row ∷ rows) order path = by (is_same_path row.path path) refl (job_nodes rows order.1 path)
    where
      by : (t : Bool) → is_same_path row.path path ≡ t
          → node_in (filter_map (job_row_of c) rows) path ≡ cond (is_of_job c path) (node_at rows path) None
          → node_in (cons_option (job_row_of c row) (filter_map (job_row_of c) rows)) path
          ≡ cond (is_of_job c path) (node_at (row ∷ rows) path) None
      by true e more =
          let there = tied_path row.path path e in
          let node : node_at (row ∷ rows) path ≡ row.node = rw e refl in
          first_there row rows path there order.0 more (is_of_job c row.path) row.node refl refl
          ∙ ap (λ n. cond (is_of_job c row.path) n None) (sym node) ∙ ap (λ p. cond (is_of_job c p) (node_at (row ∷ rows) path) None) there
      by false e more =
          let node : node_at (row ∷ rows) path ≡ node_at rows path = rw e refl in
          skipped row (filter_map (job_row_of c) rows) path e ∙ more ∙ ap (λ n. cond (is_of_job c path) n None) (sym node)

-- ---- the job

pub rows_are : (tree : Volume) (command : Command) (j : Job) → job_of tree command ≡ Ok j → filter_map (job_row_of command) tree ≡ j.rows
rows_are tree command j h =
    ap (λ (k : Job). k.rows)
    (sym (value_unrefused (job_refusals tree command) (record { command = command; rows = filter_map (job_row_of command) tree }) j h))

pub hold : JobsHoldTheTree
hold tree command j is h path =
    let nodes : node_in j.rows path ≡ cond (is_of_job command path) (node_at tree path) None =
    subst (λ rows. node_in rows path ≡ cond (is_of_job command path) (node_at tree path) None) (rows_are tree command j h)
    (job_nodes command tree is.in_order path) in (
      (λ of. nodes ∙ ap (λ b. cond b (node_at tree path) None) of),
      (λ never. nodes ∙ ap (λ b. cond b (node_at tree path) None) (not_true (is_of_job command path) never)),
    )
