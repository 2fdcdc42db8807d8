-- What a change list does to a volume, path by path.
use Rattle.std.proofs.Common.{◌≡◌, ℕ, ◌+◌, Bool, true, false, not, List, [], ◌∷◌, ◌++◌, reverse, Some, None, Result, Ok}
use Rattle.std.proofs.Common.{Err, cond, refl, sym, ap, ◌∙◌, subst, true≢false, inl, inr}
use Rattle.std.proofs.lemmas.List.{reverse-append}
use Rattle.std.proofs.lemmas.List.Concat.{flat_map-cons}
use Rattle.std.specs.Option.{option_to_list}
use Rattle.std.specs.List.{filter_map, flat_map, fold, cons_option, AllByRecursion}
use Rattle.file_paths.specs.Path.{FilePath, is_same_path}
use Rattle.tree_values.specs.declared.node.Node.{Node}
use Rattle.tree_values.specs.declared.node.Node.TheVariants.{Folder, File}
use Rattle.tree_values.specs.declared.node.TreeError.{TreeError}
use Rattle.tree_values.specs.declared.node.Effect.{Effect}
use Rattle.tree_values.specs.declared.node.Effect.TheVariants.{Make, Put, Remove, Move, Mode}
use Rattle.tree_values.specs.Tree.{Volume, version_at, node_at, with_content, with_mode, apply, touched_paths}
use Rattle.tree_values.specs.Effects.{apply_all, unless_refused_at}
use Rattle.tree_values.specs.Lists.{IsIn}
use Rattle.vol_tree.proofs.Touching.{leaves_the_rest, made as folder_made, put as file_put, removed as node_removed, mode as file_moded}
use Rattle.cmd_capture.specs.declared.job.JobRow.{JobRow}
use Rattle.cmd_capture.specs.Rows.{node_in}
use Rattle.work_area.specs.Changes.{has_kind, has_content, has_other_mode, is_gone, is_new, is_moded, removal_of, makings_of, making, moding, made, changes}
use Rattle.work_area.specs.Laws.{ChangesLead, ChangesLeaveTheRest, NothingChanges}
use Rattle.file_paths.proofs.Order.{own_path, tied_path}
use Rattle.work_area.proofs.JobRows.{are_distinct}
use Rattle.work_area.proofs.Leading.{node_after, changes_lead}
use Rattle.work_area.proofs.Unchanged.{AreFound, are_found, kind_stays, node_stays, mode_stays, nothing_changes}

abbrev is_move : Effect → Bool
is_move (Make p) = false
is_move (Put p content) = false
is_move (Remove p) = false
is_move (Move p q) = true
is_move (Mode p exec) = false

module _ (path : FilePath) where
  not_one : (p : FilePath) → is_same_path p path ≡ false → IsIn path (p ∷ []) → ⊥
  not_one p e (inl same) = true≢false (sym (subst (λ q. is_same_path q path ≡ true) same (own_path path)) ∙ e)
  not_one p e (inr none) = none

  applied_one : (effect : Effect) (rows new : Volume) → is_move effect ≡ false → apply effect rows ≡ Ok new
      → node_at new path ≡ node_after path (node_at rows path) effect
  applied_one (Make p) rows new still h = by (is_same_path p path) refl
    where
      by : (b : Bool) → is_same_path p path ≡ b → node_at new path ≡ cond b (Some Folder) (node_at rows path)
      by true e = subst (λ q. node_at new q ≡ Some Folder) (tied_path p path e) (folder_made p rows new h)
      by false e = (leaves_the_rest (Make p) rows new path h (not_one p e)).1
  applied_one (Put p content) rows new still h = by (is_same_path p path) refl
    where
      by : (b : Bool) → is_same_path p path ≡ b
          → node_at new path ≡ cond b (Some (with_content (node_at rows path) content)) (node_at rows path)
      by true e =
          subst (λ q. node_at new q ≡ Some (with_content (node_at rows q) content)) (tied_path p path e) (file_put p content rows new h)
      by false e = (leaves_the_rest (Put p content) rows new path h (not_one p e)).1
  applied_one (Remove p) rows new still h = by (is_same_path p path) refl
    where
      by : (b : Bool) → is_same_path p path ≡ b → node_at new path ≡ cond b None (node_at rows path)
      by true e = subst (λ q. node_at new q ≡ None) (tied_path p path e) (node_removed p rows new h)
      by false e = (leaves_the_rest (Remove p) rows new path h (not_one p e)).1
  applied_one (Move p q) rows new still h = absurd (true≢false still)
  applied_one (Mode p exec) rows new still h = by (is_same_path p path) refl
    where
      by : (b : Bool) → is_same_path p path ≡ b → node_at new path ≡ cond b (with_mode exec (node_at rows path)) (node_at rows path)
      by true e = subst (λ q. node_at new q ≡ with_mode exec (node_at rows q)) (tied_path p path e) (file_moded p exec rows new h)
      by false e = (leaves_the_rest (Mode p exec) rows new path h (not_one p e)).1

  applied_nodes : (effects : List Effect) (i : ℕ) (rows new : Volume)
      → AllByRecursion (λ e. is_move e ≡ false) effects → apply_all i effects rows ≡ Ok new
      → node_at new path ≡ fold (node_after path) (node_at rows path) effects
  applied_nodes [] i rows new still h = let same : rows ≡ new = cc in ap (λ r. node_at r path) (sym same)
  applied_nodes (effect ∷ later) i rows new still h = by (apply effect rows) refl h (λ next. applied_nodes later (i + 1) next new still.1)
    where
      by : (r : Result Volume TreeError) → apply effect rows ≡ r
          → unless_refused_at i r (apply_all (i + 1) later) ≡ Ok new
          → ((next : Volume) → apply_all (i + 1) later next ≡ Ok new → node_at new path ≡ fold (node_after path) (node_at next path) later)
          → node_at new path ≡ fold (node_after path) (node_after path (node_at rows path) effect) later
      by (Ok next) e h more = more next h ∙ ap (λ n. fold (node_after path) n later) (applied_one effect rows next still.0 e)
      by (Err refusal) e h more = absurd (cc)

  -- the effects touch other paths
  abbrev TouchOthers : List Effect → Type 0
  TouchOthers effects = AllByRecursion (λ e. IsIn path (touched_paths e) → ⊥) effects

  rest_stays : (effects : List Effect) (i : ℕ) (rows new : Volume) → TouchOthers effects
      → apply_all i effects rows ≡ Ok new
      → (version_at new path ≡ version_at rows path) × (node_at new path ≡ node_at rows path)
  rest_stays [] i rows new others h =
      let same : rows ≡ new = cc in (ap (λ r. version_at r path) (sym same), ap (λ r. node_at r path) (sym same))
  rest_stays (effect ∷ later) i rows new others h = by (apply effect rows) refl h (λ next. rest_stays later (i + 1) next new others.1)
    where
      by : (r : Result Volume TreeError) → apply effect rows ≡ r
          → unless_refused_at i r (apply_all (i + 1) later) ≡ Ok new
          → ((next : Volume) → apply_all (i + 1) later next ≡ Ok new → (version_at new path ≡ version_at next path)
          × (node_at new path ≡ node_at next path))
          → (version_at new path ≡ version_at rows path) × (node_at new path ≡ node_at rows path)
      by (Ok next) e h more =
          let first = leaves_the_rest effect rows next path e others.0 in
          let rest = more next h in
          (rest.0 ∙ first.0, rest.1 ∙ first.1)
      by (Err refusal) e h more = absurd (cc)

-- ---- lists of effects

all_append : (P : Effect → Type 0) (xs ys : List Effect) → AllByRecursion P xs → AllByRecursion P ys → AllByRecursion P (xs ++ ys)
all_append P [] ys all more = more
all_append P (x ∷ xs) ys all more = (all.0, all_append P xs ys all.1 more)

-- what holds of the effect of each row that passes
all_found : (P : Effect → Type 0) (g : JobRow → Bool) (e : JobRow → Effect) (rows : List JobRow)
    → AllByRecursion (λ row. g row ≡ true → P (e row)) rows
    → AllByRecursion P (filter_map (λ row. cond (g row) (Some (e row)) None) rows)
all_found P g e [] all = tt
all_found P g e (row ∷ rows) all = by (g row) refl (all_found P g e rows all.1)
  where
    by : (b : Bool) → g row ≡ b → AllByRecursion P (filter_map (λ row. cond (g row) (Some (e row)) None) rows)
        → AllByRecursion P (cons_option (cond b (Some (e row)) None) (filter_map (λ row. cond (g row) (Some (e row)) None) rows))
    by true h more = (all.0 h, more)
    by false h more = more

all_rows : (P : JobRow → Type 0) (rows : List JobRow) → ((row : JobRow) → P row) → AllByRecursion P rows
all_rows P [] each = tt
all_rows P (row ∷ rows) each = (each row, all_rows P rows each)

all_push : (P : JobRow → Type 0) (xs : List JobRow) (x : JobRow) → AllByRecursion P xs → P x → AllByRecursion P (xs ++ x ∷ [])
all_push P [] x all one = (one, tt)
all_push P (y ∷ ys) x all one = (all.0, all_push P ys x all.1 one)

still_making : (row : JobRow) → is_move (making row) ≡ false
still_making row = by row.node
  where
    by : (node : Node) → is_move (made row.path node) ≡ false
    by Folder = refl
    by (File content exec) = refl

one_found : (P : Effect → Type 0) (test : Bool) (e : Effect) → (test ≡ true → P e) → AllByRecursion P (option_to_list (cond test (Some e) None))
one_found P true e holds = (holds refl, tt)
one_found P false e holds = tt

-- what holds of what makes a row and of its mode holds of both of all rows
all_made : (P : Effect → Type 0) (before rows : List JobRow)
    → AllByRecursion (λ row. (is_new before row ≡ true → P (making row)) × (is_moded before row ≡ true → P (moding row))) rows
    → AllByRecursion P (flat_map (makings_of before) rows)
all_made P before [] each = tt
all_made P before (row ∷ rows) each =
    subst (AllByRecursion P) (sym (flat_map-cons (makings_of before) row rows))
    (all_append P (makings_of before row) (flat_map (makings_of before) rows)
    (all_append P _ _ (one_found P (is_new before row) (making row) each.0.0) (one_found P (is_moded before row) (moding row) each.0.1))
    (all_made P before rows each.1))

-- what holds of the removals and of the makings holds of the change list
of_both : (P : Effect → Type 0) (before after : List JobRow)
    → AllByRecursion (λ row. is_gone after row ≡ true → P (Remove row.path)) (reverse before)
    → AllByRecursion (λ row. (is_new before row ≡ true → P (making row)) × (is_moded before row ≡ true → P (moding row))) after
    → AllByRecursion P (changes before after)
of_both P before after gone new =
    let removals = all_found P (is_gone after) (λ row. Remove row.path) (reverse before) gone in
    all_append P (filter_map (removal_of after) (reverse before)) (flat_map (makings_of before) after) removals
    (all_made P before after new)

pub leads : ChangesLead
leads before after old new are_before are_after applied path there =
    applied_nodes path (changes before after) 0 old new
    (of_both (λ e. is_move e ≡ false) before after (all_rows _ (reverse before) (λ row gone. refl))
    (all_rows _ after (λ row. ((λ new. still_making row), (λ moded. refl))))) applied
    ∙ ap (λ n. fold (node_after path) n (changes before after)) there
    ∙ changes_lead before after (are_distinct before are_before.in_order) (are_distinct after are_after.in_order) path

-- ---- what both have

pub all_map : (P Q : JobRow → Type 0) → ((row : JobRow) → P row → Q row) → (rows : List JobRow)
    → AllByRecursion P rows → AllByRecursion Q rows
all_map P Q to [] all = tt
all_map P Q to (row ∷ rows) all = (to row all.0, all_map P Q to rows all.1)

pub all_reverse : (P : JobRow → Type 0) (xs : List JobRow) → AllByRecursion P xs → AllByRecursion P (reverse xs)
all_reverse P [] all = tt
all_reverse P (x ∷ xs) all =
    subst (AllByRecursion P) (sym (reverse-append (x ∷ []) xs)) (all_push P (reverse xs) x (all_reverse P xs all.1) all.0)

module _ (before after : List JobRow) (path : FilePath) (agree : node_in before path ≡ node_in after path) where
  none_gone : (row : JobRow) → node_in before row.path ≡ Some row.node → is_gone after row ≡ true → IsIn path (row.path ∷ []) → ⊥
  none_gone row found gone (inl same) =
      let there : node_in after row.path ≡ Some row.node =
      subst (λ q. node_in after q ≡ Some row.node) same (sym agree ∙ subst (λ q. node_in before q ≡ Some row.node) (sym same) found) in
      true≢false (sym gone ∙ ap (λ n. not (has_kind row.node n)) there ∙ kind_stays row.node)
  none_gone row found gone (inr none) = none

  none_new : (row : JobRow) → node_in after row.path ≡ Some row.node → is_new before row ≡ true → IsIn path (row.path ∷ []) → ⊥
  none_new row found new (inl same) =
      let there : node_in before row.path ≡ Some row.node =
      subst (λ q. node_in before q ≡ Some row.node) same (agree ∙ subst (λ q. node_in after q ≡ Some row.node) (sym same) found) in
      true≢false (sym new ∙ ap (λ n. not (has_content row.node n)) there ∙ node_stays row.node)
  none_new row found new (inr none) = none

  none_moded : (row : JobRow) → node_in after row.path ≡ Some row.node → is_moded before row ≡ true → IsIn path (row.path ∷ []) → ⊥
  none_moded row found moded (inl same) =
      let there : node_in before row.path ≡ Some row.node =
      subst (λ q. node_in before q ≡ Some row.node) same (agree ∙ subst (λ q. node_in after q ≡ Some row.node) (sym same) found) in
      true≢false (sym moded ∙ ap (has_other_mode row.node) there ∙ mode_stays row.node)
  none_moded row found moded (inr none) = none

makes_there : (path : FilePath) (row : JobRow) → IsIn path (touched_paths (making row)) → IsIn path (row.path ∷ [])
makes_there path row = by row.node
  where
    by : (node : Node) → IsIn path (touched_paths (made row.path node)) → IsIn path (row.path ∷ [])
    by Folder isin = isin
    by (File content exec) isin = isin

pub leaves : ChangesLeaveTheRest
leaves before after old new are_before are_after applied path agree =
    let found_before : AreFound before before = are_found before (are_distinct before are_before.in_order) in
    let found_after : AreFound after after = are_found after (are_distinct after are_after.in_order) in
    let gone =
    all_map (λ row. node_in before row.path ≡ Some row.node) (λ row. is_gone after row ≡ true → IsIn path (row.path ∷ []) → ⊥)
    (none_gone before after path agree) (reverse before) (all_reverse
    (λ row. node_in before row.path ≡ Some row.node) before found_before) in
    let new_rows =
    all_map (λ row. node_in after row.path ≡ Some row.node)
    (λ row. (is_new before row ≡ true → IsIn path (touched_paths (making row)) → ⊥) × (is_moded before row ≡ true → IsIn path (touched_paths (moding row)) → ⊥))
    (λ row found. ((λ is isin. none_new before after path agree row found is (makes_there path row isin)), none_moded before after path agree row found)) after found_after in
    rest_stays path (changes before after) 0 old new (of_both (λ e. IsIn path (touched_paths e) → ⊥) before after gone new_rows) applied

pub nothing : NothingChanges
nothing rows are = nothing_changes rows (are_distinct rows are.in_order)
