-- What stands at a path behind steps.
use Rattle.std.proofs.Common.{◌≡◌, ◌⊎◌, inl, inr, ℕ, zero, suc, Bool, true, false, not, List, [], ◌∷◌, ◌++◌, reverse, take, find, Option, Some, None, option_map, cond, refl, sym, ap, ◌∙◌}
use Rattle.std.proofs.Common.{subst}
use Rattle.std.specs.List.{filter_map, cons_option, AllByRecursion}
use Rattle.std.proofs.lemmas.List.{reverse-append}
use Rattle.std.proofs.lemmas.List.Elements.{filter_map-append}
use Rattle.byte_fields.proofs.Facts.{not_of}
use Rattle.file_paths.specs.Path.{FilePath, is_same_path}
use Rattle.file_paths.proofs.Order.{tied_path}
use Rattle.tree_values.specs.declared.node.Node.{Node}
use Rattle.cmd_capture.specs.declared.job.JobRow.{JobRow}
use Rattle.cmd_capture.specs.Rows.{is_job_row_at, node_in, AreJobRows}
use Rattle.work_area.specs.Changes.{has_kind, is_gone}
use Rattle.work_area.proofs.JobRows.{AreDistinct, are_distinct}
use Rattle.work_area.proofs.Unchanged.{are_found, kind_stays}
use Rattle.work_area.proofs.Applying.{all_reverse, all_map}
use Rattle.folder_sides.specs.declared.steps.Step.{Step}
use Rattle.folder_sides.specs.Sides.{is_same}
use Rattle.folder_sides.specs.Laws.{StepsLead}
use Rattle.folder_sides.proofs.EndCases.{same_is}
use Rattle.folder_sides.specs.Steps.{removal, putting, kept_for, steps, behind_step, node_behind}

pub all_joined : {X : Type 0} (P : X → Type 0) (xs ys : List X) → AllByRecursion P xs → AllByRecursion P ys → AllByRecursion P (xs ++ ys)
all_joined P [] ys all more = more
all_joined P (x ∷ xs) ys all more = (all.0, all_joined P xs ys all.1 more)

pub all_taken : {X : Type 0} (P : X → Type 0) (n : ℕ) (xs : List X) → AllByRecursion P xs → AllByRecursion P (take n xs)
all_taken P zero xs all = tt
all_taken P (suc n) [] all = tt
all_taken P (suc n) (x ∷ xs) all = (all.0, all_taken P n xs all.1)

all_found : (f : JobRow → Option Step) (P : Step → Type 0) (rows : List JobRow) → AllByRecursion (λ row. (step : Step) → f row ≡ Some step → P step) rows
    → AllByRecursion P (filter_map f rows)
all_found f P [] all = tt
all_found f P (row ∷ rows) all = by (f row) refl (all_found f P rows all.1)
  where
    by : (o : Option Step) → f row ≡ o → AllByRecursion P (filter_map f rows) → AllByRecursion P (cons_option o (filter_map f rows))
    by None e more = more
    by (Some step) e more = (all.0 step e, more)

-- what each step leaves holds behind all of them
pub holds_behind : (path : FilePath) (P : Option Node → Type 0) (steps : List Step)
    → AllByRecursion (λ step. is_same_path step.path path ≡ true → P step.after) steps → (node : Option Node) → P node → P (node_behind path node steps)
holds_behind path P [] all old holds = holds
holds_behind path P (step ∷ more) all old holds =
    holds_behind path P more all.1 (behind_step path old step)
    (elim (is_same_path step.path path) as (λ b. is_same_path step.path path ≡ b → P (cond b step.after old)) [
      | true ↦ λ e. all.0 e
      | false ↦ λ e. holds
    ] refl)

-- something stood there, and nothing of its kind is left
pub record IsTakenAway (before after : List JobRow) (path : FilePath) : Type 0 where
  pub node : Node
  pub stood : node_in before path ≡ Some node
  pub left : has_kind node (node_in after path) ≡ false

-- what stood there, what is to stand there, or nothing between the two
abbrev pub IsBetween : List JobRow → List JobRow → FilePath → Option Node → Type 0
IsBetween before after path node =
    (node ≡ node_in before path) ⊎ (node ≡ node_in after path) ⊎ ((node ≡ None) × IsTakenAway before after path)

module _ (before after : List JobRow) (path : FilePath) where
  abbrev Leaves : Step → Type 0
  Leaves step = is_same_path step.path path ≡ true → IsBetween before after path step.after

  removal_leaves : (row : JobRow) → node_in before row.path ≡ Some row.node → (step : Step) → removal after row ≡ Some step → Leaves step
  removal_leaves row found step h = by (is_gone after row) refl h
    where
      by : (b : Bool) → is_gone after row ≡ b
          → cond b (Some (record { path = row.path; before = Some row.node; after = None })) None ≡ Some step → Leaves step
      by true e h at =
          let paths : row.path ≡ step.path = cc in
          let none : None ≡ step.after = cc in
          let same : row.path ≡ path = paths ∙ tied_path step.path path at in
          inr (inr (
            sym none,
            record {
              node = row.node;
              stood = ap (node_in before) (sym same) ∙ found;
              left = ap (λ p. has_kind row.node (node_in after p)) (sym same) ∙ not_of (has_kind row.node (node_in after row.path)) e;
            },
          ))
      by false e h at = absurd cc

  putting_leaves : (row : JobRow) → node_in after row.path ≡ Some row.node → (step : Step) → putting before row ≡ Some step → Leaves step
  putting_leaves row found step h = by (is_same (Some row.node) (node_in before row.path)) h
    where
      by : (b : Bool)
          → cond b None (Some (record { path = row.path; before = kept_for row.node (node_in before row.path); after = Some row.node })) ≡ Some step → Leaves step
      by true h at = absurd cc
      by false h at =
          let paths : row.path ≡ step.path = cc in
          let node : Some row.node ≡ step.after = cc in
          let same : row.path ≡ path = paths ∙ tied_path step.path path at in
          inr (inl (sym node ∙ sym found ∙ ap (node_in after) same))

  each_leaves : AreJobRows before → AreJobRows after → AllByRecursion Leaves (steps before after)
  each_leaves are_before are_after =
      all_joined Leaves (filter_map (removal after) (reverse before)) (filter_map (putting before) after)
      (all_found (removal after) Leaves (reverse before)
      (all_reverse (λ row. (step : Step) → removal after row ≡ Some step → Leaves step) before
      (all_map (λ row. node_in before row.path ≡ Some row.node) (λ row. (step : Step) → removal after row ≡ Some step → Leaves step)
      removal_leaves before (are_found before (are_distinct before are_before.in_order)))))
      (all_found (putting before) Leaves after
      (all_map (λ row. node_in after row.path ≡ Some row.node) (λ row. (step : Step) → putting before row ≡ Some step → Leaves step)
      putting_leaves after (are_found after (are_distinct after are_after.in_order))))

  -- behind the first steps
  pub between : AreJobRows before → AreJobRows after → (count : ℕ)
      → IsBetween before after path (node_behind path (node_in before path) (take count (steps before after)))
  between are_before are_after count =
      holds_behind path (IsBetween before after path) (take count (steps before after))
      (all_taken Leaves count (steps before after) (each_leaves are_before are_after)) (node_in before path) (inl refl)

-- ---- behind all steps

behind_joined : (path : FilePath) (node : Option Node) (xs ys : List Step)
    → node_behind path node (xs ++ ys) ≡ node_behind path (node_behind path node xs) ys
behind_joined path old [] ys = refl
behind_joined path old (x ∷ xs) ys = behind_joined path (behind_step path old x) xs ys

-- what a step leaves at its path
abbrev outcome : Option Step → Option Node → Option Node
outcome None old = old
outcome (Some step) old = step.after

abbrev outcome_of : (JobRow → Option Step) → Option JobRow → Option Node → Option Node
outcome_of f None old = old
outcome_of f (Some row) old = outcome (f row) old

module _ (path : FilePath) (f : JobRow → Option Step) (paths : (row : JobRow) (step : Step) → f row ≡ Some step → step.path ≡ row.path) where
  -- the step of a row
  of_row : (row : JobRow) (node : Option Node) (more : List Step)
      → node_behind path node (cons_option (f row) more) ≡ node_behind path (cond (is_job_row_at path row) (outcome (f row) node) node) more
  of_row row node more = by (f row) refl
    where
      unchanged : (b : Bool) → cond b node node ≡ node
      unchanged true = refl
      unchanged false = refl

      by : (o : Option Step) → f row ≡ o
          → node_behind path node (cons_option o more) ≡ node_behind path (cond (is_job_row_at path row) (outcome o node) node) more
      by None e = ap (λ n. node_behind path n more) (sym (unchanged (is_job_row_at path row)))
      by (Some step) e = ap (λ p. node_behind path (cond (is_same_path p path) step.after node) more) (paths row step e)

  found_joined : (xs : List JobRow) (x : JobRow) → filter_map f (reverse (x ∷ xs)) ≡ filter_map f (reverse xs) ++ cons_option (f x) []
  found_joined xs x = ap (filter_map f) (reverse-append (x ∷ []) xs) ∙ filter_map-append f (reverse xs) (x ∷ [])

  none_at : (p : FilePath) → p ≡ path → (rows : List JobRow) → AllByRecursion (λ other. is_job_row_at p other ≡ false) rows → find (is_job_row_at path) rows ≡ None
  none_at p same [] all = refl
  none_at p same (row ∷ rows) all =
      let here : is_job_row_at path row ≡ false = subst (λ q. is_job_row_at q row ≡ false) same all.0 in
      rw here (none_at p same rows all.1)

  forward : (rows : List JobRow) → AreDistinct rows → (node : Option Node)
      → node_behind path node (filter_map f rows) ≡ outcome_of f (find (is_job_row_at path) rows) node
  forward [] distinct old = refl
  forward (row ∷ rows) distinct old = of_row row old (filter_map f rows) ∙ by (is_job_row_at path row) refl (forward rows distinct.1)
    where
      by : (b : Bool) → is_job_row_at path row ≡ b
          → ((n : Option Node) → node_behind path n (filter_map f rows) ≡ outcome_of f (find (is_job_row_at path) rows) n)
          → node_behind path (cond b (outcome (f row) old) old) (filter_map f rows)
          ≡ outcome_of f (cond b (Some row) (find (is_job_row_at path) rows)) old
      by true e more =
          more (outcome (f row) old)
          ∙ ap (λ o. outcome_of f o (outcome (f row) old)) (none_at row.path (tied_path row.path path e) rows distinct.0)
      by false e more = more old

  backward : (rows : List JobRow) → AreDistinct rows → (old : Option Node)
      → node_behind path old (filter_map f (reverse rows)) ≡ outcome_of f (find (is_job_row_at path) rows) old
  backward [] distinct old = refl
  backward (row ∷ rows) distinct old =
      ap (node_behind path old) (found_joined rows row) ∙ behind_joined path old (filter_map f (reverse rows)) (cons_option (f row) [])
      ∙ of_row row (node_behind path old (filter_map f (reverse rows))) [] ∙ by (is_job_row_at path row) refl (backward rows distinct.1 old)
    where
      by : (b : Bool) → is_job_row_at path row ≡ b
          → node_behind path old (filter_map f (reverse rows)) ≡ outcome_of f (find (is_job_row_at path) rows) old
          → cond b (outcome (f row) (node_behind path old (filter_map f (reverse rows)))) (node_behind path old (filter_map f (reverse rows)))
          ≡ outcome_of f (cond b (Some row) (find (is_job_row_at path) rows)) old
      by true e more =
          ap (outcome (f row)) (more ∙ ap (λ o. outcome_of f o old) (none_at row.path (tied_path row.path path e) rows distinct.0))
      by false e more = more

found_at : (path : FilePath) (rows : List JobRow) (row : JobRow) → find (is_job_row_at path) rows ≡ Some row → row.path ≡ path
found_at path [] row h = absurd cc
found_at path (r ∷ rows) row h = by (is_job_row_at path r) refl h (found_at path rows row)
  where
    by : (b : Bool) → is_job_row_at path r ≡ b → cond b (Some r) (find (is_job_row_at path) rows) ≡ Some row
        → (find (is_job_row_at path) rows ≡ Some row → row.path ≡ path) → row.path ≡ path
    by true e h more = let same : r ≡ row = cc in ap (λ (x : JobRow). x.path) (sym same) ∙ tied_path r.path path e
    by false e h more = more h

-- something stood there, and nothing of its kind is left
abbrev gone : Option Node → Option Node → Bool
gone None after = false
gone (Some stood) after = not (has_kind stood after)

module _ (before after : List JobRow) (path : FilePath) where
  abbrev b : Option Node
  b = node_in before path

  abbrev a : Option Node
  a = node_in after path

  removal_path : (row : JobRow) (step : Step) → removal after row ≡ Some step → step.path ≡ row.path
  removal_path row step h = by (is_gone after row) h
    where
      by : (t : Bool) → cond t (Some (record { path = row.path; before = Some row.node; after = None })) None ≡ Some step → step.path ≡ row.path
      by true h = let same : row.path ≡ step.path = cc in sym same
      by false h = absurd cc

  putting_path : (row : JobRow) (step : Step) → putting before row ≡ Some step → step.path ≡ row.path
  putting_path row step h = by (is_same (Some row.node) (node_in before row.path)) h
    where
      by : (t : Bool)
          → cond t None (Some (record { path = row.path; before = kept_for row.node (node_in before row.path); after = Some row.node })) ≡ Some step
          → step.path ≡ row.path
      by true h = absurd cc
      by false h = let same : row.path ≡ step.path = cc in sym same

  removed : outcome_of (removal after) (find (is_job_row_at path) before) b ≡ cond (gone b a) None b
  removed = by (find (is_job_row_at path) before) refl
    where
      by : (o : Option JobRow) → find (is_job_row_at path) before ≡ o → outcome_of (removal after) o b ≡ cond (gone b a) None b
      by None e = let none : b ≡ None = ap (option_map (λ (row : JobRow). row.node)) e in rw none refl
      by (Some row) e =
          let node : b ≡ Some row.node = ap (option_map (λ (row : JobRow). row.node)) e in
          let there : is_gone after row ≡ not (has_kind row.node a) = ap (λ p. not (has_kind row.node (node_in after p))) (found_at path before row e) in
          ap (λ t. outcome (cond t (Some (record { path = row.path; before = Some row.node; after = None })) None) b) there
          ∙ taken (not (has_kind row.node a)) ∙ ap (λ o. cond (gone o a) None b) (sym node)
        where
          taken : (t : Bool) → outcome (cond t (Some (record { path = row.path; before = Some row.node; after = None })) None) b ≡ cond t None b
          taken true = refl
          taken false = refl

  put : outcome_of (putting before) (find (is_job_row_at path) after) (cond (gone b a) None b) ≡ a
  put = by (find (is_job_row_at path) after) refl
    where
      nothing : (o : Option Node) → cond (gone o None) None o ≡ None
      nothing None = refl
      nothing (Some node) = refl

      stays : (node : Node) → cond (gone (Some node) (Some node)) None (Some node) ≡ Some node
      stays node = ap (λ t. cond t None (Some node)) (kind_stays node)

      by : (o : Option JobRow) → find (is_job_row_at path) after ≡ o → outcome_of (putting before) o (cond (gone b a) None b) ≡ a
      by None e =
          let none : a ≡ None = ap (option_map (λ (row : JobRow). row.node)) e in
          ap (λ n. cond (gone b n) None b) none ∙ nothing b ∙ sym none
      by (Some row) e = same (is_same (Some row.node) (node_in before row.path)) refl
        where
          node : a ≡ Some row.node
          node = ap (option_map (λ (row : JobRow). row.node)) e

          same : (t : Bool) → is_same (Some row.node) (node_in before row.path) ≡ t
              → outcome (cond t None (Some (record { path = row.path; before = kept_for row.node (node_in before row.path); after = Some row.node }))) (cond (gone b a) None b) ≡ a
          same false h = sym node
          same true h =
              let there : b ≡ Some row.node =
              ap (node_in before) (sym (found_at path after row e)) ∙ sym (same_is (Some row.node) (node_in before row.path) h) in
              ap (λ n. cond (gone n a) None n) there ∙ ap (λ n. cond (gone (Some row.node) n) None (Some row.node)) node ∙ stays row.node ∙ sym node

  pub lead : AreJobRows before → AreJobRows after → node_behind path b (steps before after) ≡ a
  lead are_before are_after =
      behind_joined path b (filter_map (removal after) (reverse before)) (filter_map (putting before) after)
      ∙ ap (λ n. node_behind path n (filter_map (putting before) after))
      (backward path (removal after) removal_path before (are_distinct before are_before.in_order) b ∙ removed)
      ∙ forward path (putting before) putting_path after (are_distinct after are_after.in_order) (cond (gone b a) None b) ∙ put

pub steps_lead : StepsLead
steps_lead before after are_before are_after path = lead before after path are_before are_after
