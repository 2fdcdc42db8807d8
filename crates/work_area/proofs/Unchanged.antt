-- Rows that stay have no change list.
use Rattle.std.proofs.Common.{◌≡◌, Bool, true, false, not, List, [], ◌∷◌, ◌++◌, reverse, Some, None, cond, refl, sym, ap}
use Rattle.std.proofs.Common.{◌∙◌, subst, true≢false}
use Rattle.std.specs.List.{filter_map, flat_map, AllByRecursion}
use Rattle.std.proofs.lemmas.List.Concat.{flat_map-cons}
use Rattle.std.specs.Cmp.Lexicographic.{bytes_decides}
use Rattle.std.proofs.lemmas.List.{reverse-append}
use Rattle.tree_values.specs.declared.node.Node.{Node}
use Rattle.tree_values.specs.declared.node.Node.TheVariants.{Folder, File}
use Rattle.tree_values.specs.declared.node.Effect.{Effect}
use Rattle.tree_values.specs.declared.node.Effect.TheVariants.{Remove}
use Rattle.cmd_capture.specs.declared.job.JobRow.{JobRow}
use Rattle.cmd_capture.specs.Rows.{is_job_row_at, node_in}
use Rattle.work_area.specs.Changes.{has_kind, has_content, has_other_mode, is_gone, is_new, is_moded, makings_of, changes}
use Rattle.file_paths.proofs.Order.{own_path, tied_path}
use Rattle.work_area.proofs.JobRows.{AreDistinct}

none_found : (g : JobRow → Bool) (e : JobRow → Effect) (rows : List JobRow)
    → AllByRecursion (λ row. g row ≡ false) rows → filter_map (λ row. cond (g row) (Some (e row)) None) rows ≡ []
none_found g e [] all = refl
none_found g e (row ∷ rows) all = rw all.0 (none_found g e rows all.1)

all_append : (g : JobRow → Bool) (xs ys : List JobRow) → AllByRecursion (λ row. g row ≡ false) xs
    → AllByRecursion (λ row. g row ≡ false) ys → AllByRecursion (λ row. g row ≡ false) (xs ++ ys)
all_append g [] ys all more = more
all_append g (x ∷ xs) ys all more = (all.0, all_append g xs ys all.1 more)

all_reverse : (g : JobRow → Bool) (xs : List JobRow) → AllByRecursion (λ row. g row ≡ false) xs
    → AllByRecursion (λ row. g row ≡ false) (reverse xs)
all_reverse g [] all = tt
all_reverse g (x ∷ xs) all =
    subst (AllByRecursion (λ row. g row ≡ false)) (sym (reverse-append (x ∷ []) xs))
    (all_append g (reverse xs) (x ∷ []) (all_reverse g xs all.1) (all.0, tt))

at_itself : (row : JobRow) → is_job_row_at row.path row ≡ true
at_itself row = own_path row.path

-- each row has the node of its path
abbrev pub AreFound : List JobRow → List JobRow → Type 0
AreFound all rows = AllByRecursion (λ row. node_in all row.path ≡ Some row.node) rows

found_behind : (first : JobRow) (all rows : List JobRow)
    → AllByRecursion (λ other. is_job_row_at first.path other ≡ false) rows → AreFound all rows
    → AreFound (first ∷ all) rows
found_behind first all [] apart found = tt
found_behind first all (row ∷ rows) apart found = (by (is_job_row_at row.path first) refl, found_behind first all rows apart.1 found.1)
  where
    by : (b : Bool) → is_job_row_at row.path first ≡ b → node_in (first ∷ all) row.path ≡ Some row.node
    by false e = rw e found.0
    by true e =
        absurd (true≢false (sym (subst (λ p. is_job_row_at p row ≡ true) (sym (tied_path first.path row.path e)) (own_path row.path)) ∙ apart.0))

pub are_found : (rows : List JobRow) → AreDistinct rows → AreFound rows rows
are_found [] distinct = tt
are_found (row ∷ rows) distinct = (rw (at_itself row) refl, found_behind row rows rows distinct.0 (are_found rows distinct.1))

pub kind_stays : (node : Node) → not (has_kind node (Some node)) ≡ false
kind_stays Folder = refl
kind_stays (File content exec) = refl

pub node_stays : (node : Node) → not (has_content node (Some node)) ≡ false
node_stays Folder = refl
node_stays (File content exec) = ap not ((bytes_decides content content).1 refl)

pub mode_stays : (node : Node) → has_other_mode node (Some node) ≡ false
mode_stays Folder = refl
mode_stays (File content true) = refl
mode_stays (File content false) = refl

none_gone : (all rows : List JobRow) → AreFound all rows → AllByRecursion (λ row. is_gone all row ≡ false) rows
none_gone all [] found = tt
none_gone all (row ∷ rows) found = (ap (λ n. not (has_kind row.node n)) found.0 ∙ kind_stays row.node, none_gone all rows found.1)

pub nothing_made : (before : List JobRow) (row : JobRow) → is_new before row ≡ false → is_moded before row ≡ false → makings_of before row ≡ []
nothing_made before row new moded = rw (new, moded) refl

none_made : (all rows : List JobRow) → AreFound all rows → flat_map (makings_of all) rows ≡ []
none_made all [] found = refl
none_made all (row ∷ rows) found =
    let new : is_new all row ≡ false = ap (λ n. not (has_content row.node n)) found.0 ∙ node_stays row.node in
    let moded : is_moded all row ≡ false = ap (has_other_mode row.node) found.0 ∙ mode_stays row.node in
    flat_map-cons (makings_of all) row rows ∙ ap (λ es. es ++ flat_map (makings_of all) rows) (nothing_made all row new moded)
    ∙ none_made all rows found.1

pub nothing_changes : (rows : List JobRow) → AreDistinct rows → changes rows rows ≡ []
nothing_changes rows distinct =
    let found = are_found rows distinct in
    ap (λ l. l ++ flat_map (makings_of rows) rows)
    (none_found (is_gone rows) (λ row. Remove row.path) (reverse rows) (all_reverse (is_gone rows) rows (none_gone rows rows found)))
    ∙ none_made rows rows found
