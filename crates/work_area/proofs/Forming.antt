-- The rows of a job are in order, each in a folder of theirs or in the root, and the job has a spelling.
use Rattle.std.proofs.Common.{◌≡◌, ◌-◌, ◌≤◌, Bool, true, false, ◌||◌, List, [], ◌∷◌, length, take, Option}
use Rattle.std.proofs.Common.{Some, None, is_some, cond, refl, sym, ap, ◌∙◌, subst, true≢false, arith, inl, inr, length-take}
use Rattle.std.specs.List.{list_any, filter_map, cons_option, AllByRecursion}
use Rattle.std.specs.Cmp.Lexicographic.{pointwise_decides, bytes_decides}
use Rattle.std.specs.declared.cmp.Ordering.TheVariants.{Less}
use Rattle.std.proofs.lemmas.Bool.{cases_lt}
use Rattle.std.proofs.lemmas.List.{take-take}
use Rattle.byte_fields.proofs.Facts.{or_true}
use Rattle.file_paths.specs.Limits.{max_file}
use Rattle.file_paths.specs.Path.{FilePath, IsPath, path_cmp, folder_of}
use Rattle.byte_fields.specs.Codec.{IsBytes}
use Rattle.tree_values.specs.Tree.{Volume, IsRow, IsTree, AreInOrder, is_root, is_folder_node, node_at, node_size, file_bytes}
use Rattle.tree_values.specs.declared.node.Row.{Row}
use Rattle.cmd_capture.specs.declared.command.Command.{Command}
use Rattle.cmd_capture.specs.declared.job.JobRow.{JobRow}
use Rattle.cmd_capture.specs.Rows.{node_in, is_folder_in, JobRowsAreInOrder as JobsInOrder, IsJobRow, AreJobRows}
use Rattle.cmd_capture.specs.Spelling.{RowFits, IsCommand, IsJob}
use Rattle.work_area.specs.Jobs.{is_within, roots, is_related, is_of_job, job_row_of}
use Rattle.work_area.specs.Laws.{JobsHaveJobRows}
use Rattle.work_area.proofs.Holding.{made_there, job_nodes, rows_are}

-- ---- the folder of a path of the job is of the job

begins : (p f : FilePath) → is_within p f ≡ true → f ≡ take (length f) p
begins p f h = (pointwise_decides bytes_decides f (take (length f) p)).0 h

within : (p f : FilePath) → f ≡ take (length f) p → is_within p f ≡ true
within p f h = (pointwise_decides bytes_decides f (take (length f) p)).1 h

folder_len : (p : FilePath) → length (folder_of p) ≡ length p - 1
folder_len p = omega (arith, length-take (length p - 1) p)

up_within : (r p : FilePath) → is_within r p ≡ true → is_within r (folder_of p) ≡ true
up_within r p h =
    let fits : length p - 1 ≤ length p = omega arith in
    within r (folder_of p)
    (ap (take (length p - 1)) (begins r p h) ∙ take-take (length p - 1) (length p) r fits ∙ ap (λ n. take n r) (sym (folder_len p)))

up_related : (p r : FilePath) → is_within p r ≡ true → is_related (folder_of p) r ≡ true
up_related p r h =
    elim (cases_lt (length p - 1) (length r)) [
      | inl lt ↦
          let fits : length p - 1 ≤ length r = omega (arith, lt) in
          let front : folder_of p ≡ take (length p - 1) r =
          sym (take-take (length p - 1) (length r) p fits) ∙ ap (take (length p - 1)) (sym (begins p r h)) in
          or_true (is_within (folder_of p) r) (is_within r (folder_of p))
          (within r (folder_of p) (front ∙ ap (λ n. take n r) (sym (folder_len p))))
      | inr ge ↦
          let there : is_within (folder_of p) r ≡ true =
          within (folder_of p) r (begins p r h ∙ sym (take-take (length r) (length p - 1) p ge)) in
          rw there refl
    ]

related_up : (p r : FilePath) → is_related p r ≡ true → is_related (folder_of p) r ≡ true
related_up p r h = by (is_within p r) refl h
  where
    by : (b : Bool) → is_within p r ≡ b → (b || is_within r p) ≡ true → is_related (folder_of p) r ≡ true
    by true e h = up_related p r e
    by false e h = or_true (is_within (folder_of p) r) (is_within r (folder_of p)) (up_within r p h)

any_up : (p : FilePath) (rs : List FilePath) → list_any (is_related p) rs ≡ true → list_any (is_related (folder_of p)) rs ≡ true
any_up p [] h = h
any_up p (r ∷ rs) h = by (is_related p r) refl h (any_up p rs)
  where
    by : (b : Bool) → is_related p r ≡ b → (b || list_any (is_related p) rs) ≡ true
        → (list_any (is_related p) rs ≡ true → list_any (is_related (folder_of p)) rs ≡ true)
        → list_any (is_related (folder_of p)) (r ∷ rs) ≡ true
    by true e h more = rw (related_up p r e) refl
    by false e h more = or_true (is_related (folder_of p) r) (list_any (is_related (folder_of p)) rs) (more h)

of_job_up : (c : Command) (p : FilePath) → is_of_job c p ≡ true → is_of_job c (folder_of p) ≡ true
of_job_up c p h = by (list_any (is_related p) (roots c)) refl h
  where
    by : (b : Bool) → list_any (is_related p) (roots c) ≡ b → (b || is_within c.cwd p) ≡ true → is_of_job c (folder_of p) ≡ true
    by true e h = rw (any_up p (roots c) e) refl
    by false e h = or_true (list_any (is_related (folder_of p)) (roots c)) (is_within c.cwd (folder_of p)) (up_within c.cwd p h)

-- ---- rows

module _ (c : Command) where
  -- what holds of a row of the tree and its row of the job
  all_made : (P : Row → Type 0) (Q : JobRow → Type 0)
      → ((row : Row) (r : JobRow) → P row → job_row_of c row ≡ Some r → Q r) → (rows : Volume) → AllByRecursion P rows
      → AllByRecursion Q (filter_map (job_row_of c) rows)
  all_made P Q each [] all = tt
  all_made P Q each (row ∷ rows) all = by (job_row_of c row) refl (all_made P Q each rows all.1)
    where
      by : (o : Option JobRow) → job_row_of c row ≡ o → AllByRecursion Q (filter_map (job_row_of c) rows)
          → AllByRecursion Q (cons_option o (filter_map (job_row_of c) rows))
      by None e more = more
      by (Some r) e more = (each row r all.0 e, more)

  in_order : (rows : Volume) → AreInOrder rows → JobsInOrder (filter_map (job_row_of c) rows)
  in_order [] order = tt
  in_order (row ∷ rows) order = by (job_row_of c row) refl (in_order rows order.1)
    where
      by : (o : Option JobRow) → job_row_of c row ≡ o → JobsInOrder (filter_map (job_row_of c) rows)
          → JobsInOrder (cons_option o (filter_map (job_row_of c) rows))
      by None e more = more
      by (Some r) e more =
          let here = (made_there c row r e).0 in (
            all_made (λ next. path_cmp row.path next.path ≡ Less) (λ next. path_cmp r.path next.path ≡ Less)
                (λ other s less made. ap (λ p. path_cmp p s.path) here ∙ ap (path_cmp row.path) (made_there c other s made).0
                ∙ less) rows order.0,
            more,
          )

  few : (rows : Volume) → length (filter_map (job_row_of c) rows) ≤ length rows
  few [] = omega arith
  few (row ∷ rows) = by (job_row_of c row) (few rows)
    where
      by : (o : Option JobRow) → length (filter_map (job_row_of c) rows) ≤ length rows
          → length (cons_option o (filter_map (job_row_of c) rows)) ≤ length (row ∷ rows)
      by None more = omega (arith, more)
      by (Some r) more = omega (arith, more)

  is_job_row : (row : Row) (r : JobRow) → IsRow row → job_row_of c row ≡ Some r → IsJobRow r
  is_job_row row r is e =
      let there = (made_there c row r e).0 in
      record { is_path = subst (λ p. IsPath p) (sym there) is.is_path; below_root = ap is_root there ∙ is.below_root }

  row_fits : (row : Row) (r : JobRow) → IsRow row → job_row_of c row ≡ Some r → RowFits r
  row_fits row r is e =
      let there = made_there c row r e in
      record {
        is_path = subst (λ p. IsPath p) (sym there.0) is.is_path;
        small = subst (λ n. node_size n ≤ max_file) there.1 is.small;
        bytes = subst (λ n. IsBytes (file_bytes n)) there.1 is.bytes;
      }

  pub job_rows_formed : (tree : Volume) → IsTree tree → AreJobRows (filter_map (job_row_of c) tree)
  job_rows_formed tree is = record {
    in_order = in_order tree is.in_order;
    each = all_made IsRow IsJobRow is_job_row tree is.each;
    in_folders = λ path some. by path (is_of_job c path) refl some;
  }
    where
      by : (path : FilePath) (b : Bool) → is_of_job c path ≡ b
          → is_some (node_in (filter_map (job_row_of c) tree) path) ≡ true
          → is_folder_in (filter_map (job_row_of c) tree) (folder_of path) ≡ true
      by path false e some =
          let none : node_in (filter_map (job_row_of c) tree) path ≡ None =
          job_nodes c tree is.in_order path ∙ ap (λ b. cond b (node_at tree path) None) e in
          absurd (true≢false (sym some ∙ ap is_some none))
      by path true e some =
          let here : node_in (filter_map (job_row_of c) tree) path ≡ node_at tree path =
          job_nodes c tree is.in_order path ∙ ap (λ b. cond b (node_at tree path) None) e in
          let above : node_in (filter_map (job_row_of c) tree) (folder_of path) ≡ node_at tree (folder_of path) =
          job_nodes c tree is.in_order (folder_of path) ∙ ap (λ b. cond b (node_at tree (folder_of path)) None) (of_job_up c path e) in
          ap (λ n. is_root (folder_of path) || is_folder_node n) above ∙ is.in_folders path (sym (ap is_some here) ∙ some)

  pub job_fits : (tree : Volume) → IsTree tree → IsCommand c → IsJob (record { command = c; rows = filter_map (job_row_of c) tree })
  job_fits tree is fits = record {
    command_is = fits;
    rows = all_made IsRow RowFits row_fits tree is.each;
    few = omega (arith, few tree, is.few);
  }

pub formed : JobsHaveJobRows
formed tree command j is h = subst AreJobRows (rows_are tree command j h) (job_rows_formed command tree is)
