-- A change list that does not clash leaves what stands beside the job.
use Rattle.std.proofs.Common.{◌≡◌, Bool, true, false, not, List, [], ◌∷◌, ◌++◌, reverse, find, Option, Some, None}
use Rattle.std.proofs.Common.{is_some, option_map, position, cond, refl, sym, ap, ◌∙◌, subst, true≢false}
use Rattle.std.specs.List.{filter_map, flat_map, AllByRecursion}
use Rattle.std.specs.Option.{option_to_list}
use Rattle.std.proofs.lemmas.List.Concat.{flat_map-cons}
use Rattle.byte_fields.specs.Numbers.{as_u32}
use Rattle.byte_fields.proofs.Facts.{none_mapped}
use Rattle.file_paths.specs.Path.{FilePath}
use Rattle.file_paths.proofs.Order.{tied_path}
use Rattle.tree_values.specs.Tree.{Volume, version_at, node_at}
use Rattle.tree_values.specs.declared.node.Node.{Node}
use Rattle.tree_values.specs.declared.node.Node.TheVariants.{Folder, File}
use Rattle.tree_values.specs.declared.node.Effect.{Effect}
use Rattle.cmd_capture.specs.declared.job.JobRow.{JobRow}
use Rattle.cmd_capture.specs.Rows.{is_job_row_at, node_in}
use Rattle.cmd_capture.proofs.Captured.{none_passes}
use Rattle.work_area.specs.Changes.{has_content, is_new, removal_of, makings_of, making, made, changes, has_row, is_taken}
use Rattle.work_area.specs.Changes.{clashes}
use Rattle.work_area.specs.Laws.{NoClashSparesTheRest}
use Rattle.work_area.proofs.Applying.{leaves}
use Rattle.work_area.proofs.Searching.{any_is_found}

behind : (P : Effect → Type 0) (xs ys : List Effect) → AllByRecursion P (xs ++ ys) → AllByRecursion P ys
behind P [] ys all = all
behind P (x ∷ xs) ys all = behind P xs ys all.1

front : (P : Effect → Type 0) (xs ys : List Effect) → AllByRecursion P (xs ++ ys) → AllByRecursion P xs
front P [] ys all = tt
front P (x ∷ xs) ys all = (all.0, front P xs ys all.1)

first_of : (P : Effect → Type 0) (test : Bool) (e : Effect) (later : List Effect)
    → AllByRecursion P (option_to_list (cond test (Some e) None) ++ later) → test ≡ true → P e
first_of P true e later all is = all.0
first_of P false e later all is = absurd (true≢false (sym is))

-- what holds of all effects that make rows holds of that of each new row
each_row : (P : Effect → Type 0) (before rows : List JobRow) → AllByRecursion P (flat_map (makings_of before) rows)
    → AllByRecursion (λ row. is_new before row ≡ true → P (making row)) rows
each_row P before [] all = tt
each_row P before (row ∷ rows) all =
    let both = subst (AllByRecursion P) (flat_map-cons (makings_of before) row rows) all in (
      first_of P (is_new before row) (making row) _ (front P (makings_of before row) (flat_map (makings_of before) rows) both),
      each_row P before rows (behind P (makings_of before row) (flat_map (makings_of before) rows) both),
    )

-- what holds of each row holds of that at the path
at_the_path : (Q : FilePath → Node → Type 0) (rows : List JobRow) (path : FilePath) (n : Node)
    → AllByRecursion (λ row. Q row.path row.node) rows → node_in rows path ≡ Some n → Q path n
at_the_path Q [] path n all h = absurd cc
at_the_path Q (row ∷ rows) path n all h = by (is_job_row_at path row) refl h (at_the_path Q rows path n all.1)
  where
    by : (b : Bool) → is_job_row_at path row ≡ b
        → option_map (λ row. row.node) (cond b (Some row) (find (is_job_row_at path) rows)) ≡ Some n
        → (node_in rows path ≡ Some n → Q path n) → Q path n
    by true e h more =
        let node : row.node ≡ n = cc in
        subst (λ m. Q path m) node (subst (λ p. Q p row.node) (tied_path row.path path e) all.0)
    by false e h more = more h

no_row : (job : List JobRow) (path : FilePath) → has_row job path ≡ false → node_in job path ≡ None
no_row job path h = by (find (is_job_row_at path) job) (sym (any_is_found job path) ∙ h)
  where
    by : (o : Option JobRow) → is_some o ≡ false → option_map (λ row. row.node) o ≡ None
    by None e = refl
    by (Some row) e = absurd (true≢false e)

never_there : (n : Node) → not (has_content n None) ≡ true
never_there n = refl

makes_there : (old : Volume) (job : List JobRow) (path : FilePath) (n : Node) → clashes old job (made path n) ≡ is_taken old job path
makes_there old job path Folder = refl
makes_there old job path (File content exec) = refl

pub spared : NoClashSparesTheRest
spared job after old new are_job are_after clear applied path beside stands = by (node_in after path) refl
  where
    none_there : node_in job path ≡ None
    none_there = no_row job path beside

    -- no effect that makes a new row clashes
    no_making_clashes : AllByRecursion (λ row. is_new job row ≡ true → clashes old job (made row.path row.node) ≡ false) after
    no_making_clashes =
        let all =
        none_passes (clashes old job) (changes job after) (none_mapped as_u32 (position (clashes old job) (changes job after)) clear) in
        let makings =
        behind (λ e. clashes old job e ≡ false) (filter_map (removal_of after) (reverse job)) (flat_map (makings_of job) after) all in
        each_row (λ e. clashes old job e ≡ false) job after makings

    by : (o : Option Node) → node_in after path ≡ o → (version_at new path ≡ version_at old path) × (node_at new path ≡ node_at old path)
    by None e = leaves job after old new are_job are_after applied path (none_there ∙ sym e)
    by (Some n) e =
        let at : not (has_content n (node_in job path)) ≡ true → clashes old job (made path n) ≡ false =
        at_the_path
        (λ p m. not (has_content m (node_in job p)) ≡ true → clashes old job (made p m) ≡ false) after path n no_making_clashes e in
        let clashing : clashes old job (made path n) ≡ false =
        at (ap (λ (o : Option Node). not (has_content n o)) none_there ∙ never_there n) in
        let taken : is_taken old job path ≡ true = rw (stands, beside) refl in
        absurd (true≢false (sym taken ∙ sym (makes_there old job path n) ∙ clashing))
