-- The order of a change list, and what each of its effects changes.
use Rattle.std.proofs.Common.{◌≡◌, ◌⊎◌, inl, inr, Bool, ◌||◌, true, false, List, [], ◌∷◌, ◌++◌, reverse, map, filter, Some, None, cond, refl}
use Rattle.std.proofs.Common.{sym, ap, ◌∙◌, subst}
use Rattle.std.specs.List.{filter_map, cons_option, flat_map, AllByRecursion}
use Rattle.std.specs.declared.cmp.Ordering.TheVariants.{Less}
use Rattle.std.proofs.lemmas.List.{reverse-append}
use Rattle.std.proofs.lemmas.List.Elements.{filter-append}
use Rattle.std.proofs.lemmas.List.Concat.{flat_map-cons}
use Rattle.byte_fields.proofs.Facts.{not_of, or_false_of}
use Rattle.file_paths.specs.Path.{FilePath, path_cmp}
use Rattle.tree_values.specs.declared.node.Effect.{Effect}
use Rattle.tree_values.specs.declared.node.Effect.TheVariants.{Remove}
use Rattle.cmd_capture.specs.declared.job.JobRow.{JobRow}
use Rattle.cmd_capture.specs.Rows.{node_in, JobRowsAreInOrder}
use Rattle.work_area.specs.Changes.{has_kind, has_content, has_other_mode, is_gone, is_new, is_moded, removal_of, makings_of}
use Rattle.work_area.specs.Laws.{AreFalling, IsGone, IsNewRow, ChangesAreInOrder}
use Rattle.work_area.proofs.JobRows.{are_distinct}
use Rattle.work_area.proofs.Unchanged.{are_found, nothing_made}
use Rattle.work_area.proofs.Applying.{all_reverse}

-- ---- rows that pass a test

module _ (test : JobRow → Bool) where
  all_kept : (P : JobRow → Type 0) (rows : List JobRow) → AllByRecursion P rows → AllByRecursion P (filter test rows)
  all_kept P [] all = tt
  all_kept P (row ∷ rows) all = by (test row) (all_kept P rows all.1)
    where
      by : (b : Bool) → AllByRecursion P (filter test rows) → AllByRecursion P (cond b (row ∷ filter test rows) (filter test rows))
      by true more = (all.0, more)
      by false more = more

  -- what holds of each row that passes
  all_passing : (P : JobRow → Type 0) (rows : List JobRow) → AllByRecursion (λ row. test row ≡ true → P row) rows
      → AllByRecursion P (filter test rows)
  all_passing P [] all = tt
  all_passing P (row ∷ rows) all = by (test row) refl (all_passing P rows all.1)
    where
      by : (b : Bool) → test row ≡ b → AllByRecursion P (filter test rows)
          → AllByRecursion P (cond b (row ∷ filter test rows) (filter test rows))
      by true e more = (all.0 e, more)
      by false e more = more

  order_kept : (rows : List JobRow) → JobRowsAreInOrder rows → JobRowsAreInOrder (filter test rows)
  order_kept [] order = tt
  order_kept (row ∷ rows) order = by (test row) (order_kept rows order.1)
    where
      by : (b : Bool) → JobRowsAreInOrder (filter test rows) → JobRowsAreInOrder (cond b (row ∷ filter test rows) (filter test rows))
      by true more = (all_kept (λ next. path_cmp row.path next.path ≡ Less) rows order.0, more)
      by false more = more

  -- the effects of the rows that pass
  effects_of : (effect : JobRow → Effect) (rows : List JobRow)
      → filter_map (λ row. cond (test row) (Some (effect row)) None) rows ≡ map effect (filter test rows)
  effects_of effect [] = refl
  effects_of effect (row ∷ rows) = by (test row) (effects_of effect rows)
    where
      by : (b : Bool) → filter_map (λ row. cond (test row) (Some (effect row)) None) rows ≡ map effect (filter test rows)
          → cons_option (cond b (Some (effect row)) None) (filter_map (λ row. cond (test row) (Some (effect row)) None) rows)
          ≡ map effect (cond b (row ∷ filter test rows) (filter test rows))
      by true more = ap (λ (es : List Effect). effect row ∷ es) more
      by false more = more

-- ---- falling paths

abbrev paths : List JobRow → List FilePath
paths rows = map (λ row. row.path) rows

all_paths : (P : FilePath → Type 0) (rows : List JobRow) → AllByRecursion (λ row. P row.path) rows → AllByRecursion P (paths rows)
all_paths P [] all = tt
all_paths P (row ∷ rows) all = (all.0, all_paths P rows all.1)

removals_of_paths : (rows : List JobRow) → map (λ row. Remove row.path) rows ≡ map Remove (paths rows)
removals_of_paths [] = refl
removals_of_paths (row ∷ rows) = ap (λ (es : List Effect). Remove row.path ∷ es) (removals_of_paths rows)

one_more : (P : FilePath → Type 0) (rows : List JobRow) (row : JobRow) → AllByRecursion P (paths rows) → P row.path
    → AllByRecursion P (paths (rows ++ row ∷ []))
one_more P [] row all here = (here, tt)
one_more P (r ∷ rows) row all here = (all.0, one_more P rows row all.1 here)

-- a path below all others may stand behind them
falls_on : (rows : List JobRow) (row : JobRow) → AreFalling (paths rows)
    → AllByRecursion (λ other. path_cmp row.path other.path ≡ Less) rows → AreFalling (paths (rows ++ row ∷ []))
falls_on [] row falls low = (tt, tt)
falls_on (r ∷ rows) row falls low = (one_more (λ next. path_cmp next r.path ≡ Less) rows row falls.0 low.0, falls_on rows row falls.1 low.1)

falling : (test : JobRow → Bool) (rows : List JobRow) → JobRowsAreInOrder rows → AreFalling (paths (filter test (reverse rows)))
falling test [] order = tt
falling test (row ∷ rows) order =
    subst (λ (l : List JobRow). AreFalling (paths l))
    (sym (ap (filter test) (reverse-append (row ∷ []) rows) ∙ filter-append test (reverse rows) (row ∷ []))) (by (test row)
    (falling test rows order.1))
  where
    low : AllByRecursion (λ other. path_cmp row.path other.path ≡ Less) (filter test (reverse rows))
    low =
        all_kept test (λ other. path_cmp row.path other.path ≡ Less) (reverse rows)
        (all_reverse (λ other. path_cmp row.path other.path ≡ Less) rows order.0)

    none_more : (b : List JobRow) → AreFalling (paths b) → AreFalling (paths (b ++ []))
    none_more [] falls = falls
    none_more (r ∷ rows) falls = (same (λ next. path_cmp next r.path ≡ Less) rows falls.0, none_more rows falls.1)
      where
        same : (P : FilePath → Type 0) (xs : List JobRow) → AllByRecursion P (paths xs) → AllByRecursion P (paths (xs ++ []))
        same P [] all = tt
        same P (x ∷ xs) all = (all.0, same P xs all.1)

    by : (b : Bool) → AreFalling (paths (filter test (reverse rows)))
        → AreFalling (paths (filter test (reverse rows) ++ cond b (row ∷ []) []))
    by true more = falls_on (filter test (reverse rows)) row more low
    by false more = none_more (filter test (reverse rows)) more

-- ---- what each effect changes

gone_rows : (before after : List JobRow) (rows : List JobRow)
    → AllByRecursion (λ row. node_in before row.path ≡ Some row.node) rows
    → AllByRecursion (λ row. is_gone after row ≡ true → IsGone before after row.path) rows
gone_rows before after [] found = tt
gone_rows before after (row ∷ rows) found = (
  (λ gone. record { node = row.node; stood = found.0; left = not_of (has_kind row.node (node_in after row.path)) gone }),
  gone_rows
      before after rows found.1,
)

-- whether something about the row is new
abbrev is_changed : List JobRow → JobRow → Bool
is_changed before row = is_new before row || is_moded before row

new_rows : (before after : List JobRow) (rows : List JobRow)
    → AllByRecursion (λ row. node_in after row.path ≡ Some row.node) rows
    → AllByRecursion (λ row. is_changed before row ≡ true → IsNewRow before after row) rows
new_rows before after [] found = tt
new_rows before after (row ∷ rows) found = ((λ new. record { left = found.0; stood = by (is_new before row) refl new }), new_rows before after rows found.1)
  where
    by : (b : Bool) → is_new before row ≡ b → (b || is_moded before row) ≡ true
        → (has_content row.node (node_in before row.path) ≡ false) ⊎ (has_other_mode row.node (node_in before row.path) ≡ true)
    by true e new = inl (not_of (has_content row.node (node_in before row.path)) e)
    by false e new = inr new

-- rows about which nothing is new have no effects
changed_made : (before rows : List JobRow) → flat_map (makings_of before) rows ≡ flat_map (makings_of before) (filter (is_changed before) rows)
changed_made before [] = refl
changed_made before (row ∷ rows) =
    flat_map-cons (makings_of before) row rows ∙ ap (λ es. makings_of before row ++ es) (changed_made before rows)
    ∙ by (is_changed before row) refl
  where
    by : (b : Bool) → is_changed before row ≡ b
        → makings_of before row ++ flat_map (makings_of before) (filter (is_changed before) rows)
        ≡ flat_map (makings_of before) (cond b (row ∷ filter (is_changed before) rows) (filter (is_changed before) rows))
    by true e = sym (flat_map-cons (makings_of before) row (filter (is_changed before) rows))
    by false e =
        let none = or_false_of (is_new before row) (is_moded before row) e in
        ap (λ es. es ++ flat_map (makings_of before) (filter (is_changed before) rows)) (nothing_made before row none.0 none.1)

pub ordered : ChangesAreInOrder
ordered before after are_before are_after =
    let found_before = are_found before (are_distinct before are_before.in_order) in
    let found_after = are_found after (are_distinct after are_after.in_order) in
    let gone = filter (is_gone after) (reverse before) in
    let removals : filter_map (removal_of after) (reverse before) ≡ map Remove (paths gone) =
    effects_of (is_gone after) (λ row. Remove row.path) (reverse before) ∙ removals_of_paths gone in
    record {
      removed = paths gone;
      made = filter (is_changed before) after;
      parts =
          ap (λ (es : List Effect). es ++ flat_map (makings_of before) after) removals
          ∙ ap (λ (es : List Effect). map Remove (paths gone) ++ es) (changed_made before after);
      falls = falling (is_gone after) before are_before.in_order;
      rises = order_kept (is_changed before) after are_after.in_order;
      gone =
          all_paths (IsGone before after) gone
          (all_passing (is_gone after) (λ row. IsGone before after row.path) (reverse before)
          (all_reverse (λ row. is_gone after row ≡ true → IsGone before after row.path) before
          (gone_rows before after before found_before)));
      new = all_passing (is_changed before) (IsNewRow before after) after (new_rows before after after found_after);
    }
