-- Renamed rows: what stands where, and that they are legal.
use Rattle.std.proofs.Common.{◌≡◌, ◌∙◌, ℕ, Bool, true, false, ◌||◌, not, List, [], ◌∷◌, ◌++◌, filter, Option, Some, None, is_none, is_some, option_map, find, inl, inr, refl, sym, ap, subst, true≢false, cond}
use Rattle.std.specs.Prelude.{◌⊎◌, map}
use Rattle.std.specs.List.{AllByRecursion, filter_map, cons_option}
use Rattle.std.proofs.lemmas.Option.{none-some}
use Rattle.std.proofs.lemmas.List.Concat.{flat_map-cons}
use Rattle.std.specs.declared.cmp.Ordering.{Ordering}
use Rattle.std.specs.declared.cmp.Ordering.TheVariants.{Less, Equal, Greater}
use Rattle.std.specs.Ordering.{is_lt, ordering_reverse}
use Rattle.byte_fields.proofs.Facts.{not_of, or_false_of}
use Rattle.rs_parity.specs.declared.sketch.Sketch.{Sketch}
use Rattle.file_paths.specs.Path.{FilePath, IsPath, path_cmp, is_same_path, folder_of}
use Rattle.file_paths.proofs.Order.{paths_total, same_path, is_less, tied_path, own_path, paths_apart}
use Rattle.tree_values.specs.Lists.{IsIn, NoneTwice}
use Rattle.tree_values.specs.Tree.{is_root, is_folder_node}
use Rattle.tree_values.specs.declared.node.Node.{Node}
use Rattle.tree_values.specs.declared.node.Node.TheVariants.{Folder, File}
use Rattle.cmd_capture.specs.declared.job.JobRow.{JobRow}
use Rattle.cmd_capture.specs.Rows.{node_in, is_folder_in, JobRowsAreInOrder, IsJobRow, AreJobRows}
use Rattle.mod_log.specs.Sketched.{sketch_paths, sketches_touch}
use Rattle.mod_log.specs.declared.sketched.SketchEffect.{SketchEffect}
use Rattle.mod_log.specs.declared.sketched.SketchEffect.TheVariants.{Put}
use Rattle.temp_names.specs.declared.pairs.Renamed.{Renamed}
use Rattle.temp_names.specs.Renaming.{renaming}
use Rattle.temp_names.specs.Rename.{new_path, row_under, unrenamed_rows, renamed_rows, with_job_row, with_job_rows, rename}
use Rattle.temp_names.specs.Laws.{RisesBy, IsOfNewFiles, IsOfUnequal, IsWithinGroup, MovesContents, RenamingsMoveContents, RenamedRowsAreLegal}
use Rattle.temp_names.proofs.Rising.{some_same, some_of, less_differs, all_filter, all_passing, all_in, all_map, all_both, holds_in, in_filter, in_found, one_item, rises_filter, rises_around, rows_rise}
use Rattle.temp_names.proofs.Sides.{stands, row_there, row_of}
use Rattle.temp_names.proofs.Paired.{within_groups, only_new, equal_stay}
use Rattle.temp_names.proofs.Once.{one_to_one}
use Rattle.vol_tree.proofs.Behind.{IsIn-left, IsIn-right}

-- ---- rows put at their places

rise_order : (rows : List JobRow) → RisesBy (λ row. row.path) rows → JobRowsAreInOrder rows
rise_order [] up = tt
rise_order (row ∷ rows) up = (up.0, rise_order rows up.1)

-- a path that is not below another one is above it, or that one
above : (a b : FilePath) → is_lt (path_cmp a b) ≡ false → (a ≡ b → ⊥) → path_cmp b a ≡ Less
above a b not_below differ = by (path_cmp a b) refl
  where
    by : (o : Ordering) → path_cmp a b ≡ o → path_cmp b a ≡ Less
    by Less e = absurd (true≢false (sym (ap is_lt e) ∙ not_below))
    by Equal e = absurd (differ (same_path a b e))
    by Greater e = paths_total.antisymm b a ∙ ap ordering_reverse e

put_in_order : (new : JobRow) (rows : List JobRow) → JobRowsAreInOrder rows → AllByRecursion (λ row. row.path ≡ new.path → ⊥) rows
    → JobRowsAreInOrder (with_job_row new rows)
put_in_order new rows up apart =
    rise_order (with_job_row new rows)
    (rises_around (λ row. row.path) new _ _
    (all_passing (λ row. path_cmp row.path new.path ≡ Less) (λ row. is_lt (path_cmp row.path new.path)) (λ row e. is_less _ e) rows)
    (all_map (λ row. (is_lt (path_cmp row.path new.path) ≡ false) × (row.path ≡ new.path → ⊥)) (λ row. path_cmp new.path row.path ≡ Less)
    (λ row so. above row.path new.path so.0 so.1) _
    (all_both (λ row. is_lt (path_cmp row.path new.path) ≡ false) (λ row. row.path ≡ new.path → ⊥) _
    (all_passing (λ row. is_lt (path_cmp row.path new.path) ≡ false) (λ row. not (is_lt (path_cmp row.path new.path))) (λ row e. not_of _ e) rows)
    (all_filter (λ row. row.path ≡ new.path → ⊥) (λ row. not (is_lt (path_cmp row.path new.path))) rows apart)))
    (rises_filter (λ row. row.path) _ rows (rows_rise rows up))
    (rises_filter (λ row. row.path) _ rows (rows_rise rows up)))

in_either : {X : Type 0} (x : X) (xs ys : List X) → IsIn x (xs ++ ys) → IsIn x xs ⊎ IsIn x ys
in_either x [] ys among = inr among
in_either x (z ∷ xs) ys (inl same) = inl (inl same)
in_either x (z ∷ xs) ys (inr among) = by (in_either x xs ys among)
  where
    by : IsIn x xs ⊎ IsIn x ys → IsIn x (z ∷ xs) ⊎ IsIn x ys
    by (inl front) = inl (inr front)
    by (inr back) = inr back

filter_in : {X : Type 0} (f : X → Bool) (xs : List X) (x : X) → IsIn x (filter f xs) → IsIn x xs × (f x ≡ true)
filter_in f [] x among = absurd among
filter_in f (y ∷ ys) x among =
    elim (f y) as (λ b. f y ≡ b → IsIn x (cond b (y ∷ filter f ys) (filter f ys)) → IsIn x (y ∷ ys) × (f x ≡ true)) [
      | true ↦ λ so here. elim here [
        | inl same ↦ (inl same, ap f same ∙ so)
        | inr further ↦ (inr (filter_in f ys x further).0, (filter_in f ys x further).1)
      ]
      | false ↦ λ so here. (inr (filter_in f ys x here).0, (filter_in f ys x here).1)
    ] refl among

found_in : {X Y : Type 0} (f : X → Option Y) (xs : List X) (y : Y) → IsIn y (filter_map f xs) → (x : X) × IsIn x xs × (f x ≡ Some y)
found_in {X = X} f [] y among = absurd among
found_in {X = X} f (x ∷ xs) y among =
    elim (f x) as (λ o. f x ≡ o → IsIn y (cons_option o (filter_map f xs)) → (z : X) × IsIn z (x ∷ xs) × (f z ≡ Some y)) [
      | None ↦ λ so here. let z = found_in f xs y here in (z.0, inr z.1, z.2)
      | Some w ↦ λ so here. elim here [
        | inl same ↦ (x, inl refl, so ∙ ap some_of (sym same))
        | inr further ↦ let z = found_in f xs y further in (z.0, inr z.1, z.2)
      ]
    ] refl among

in_map : {X Y : Type 0} (f : X → Y) (xs : List X) (x : X) → IsIn x xs → IsIn (f x) (map f xs)
in_map f [] x among = absurd among
in_map f (y ∷ ys) x (inl same) = inl (ap f same)
in_map f (y ∷ ys) x (inr among) = inr (in_map f ys x among)

map_in : {X Y : Type 0} (f : X → Y) (xs : List X) (y : Y) → IsIn y (map f xs) → (x : X) × IsIn x xs × (y ≡ f x)
map_in f [] y among = absurd among
map_in f (x ∷ xs) y (inl same) = (x, inl refl, same)
map_in f (x ∷ xs) y (inr among) = let z = map_in f xs y among in (z.0, inr z.1, z.2)

put_in : (new : JobRow) (rows : List JobRow) (row : JobRow) → IsIn row (with_job_row new rows) → (row ≡ new) ⊎ IsIn row rows
put_in new rows row among = by (in_either row _ _ among)
  where
    by : IsIn row (filter (λ x. is_lt (path_cmp x.path new.path)) rows) ⊎ IsIn row (new ∷ filter (λ x. not (is_lt (path_cmp x.path new.path))) rows)
        → (row ≡ new) ⊎ IsIn row rows
    by (inl low) = inr (filter_in _ rows row low).0
    by (inr (inl same)) = inl same
    by (inr (inr high)) = inr (filter_in _ rows row high).0

new_in : (new : JobRow) (rows : List JobRow) → IsIn new (with_job_row new rows)
new_in new rows = IsIn-right new (filter (λ x. is_lt (path_cmp x.path new.path)) rows) _ (inl refl)

old_in : (new : JobRow) (rows : List JobRow) (row : JobRow) → IsIn row rows → IsIn row (with_job_row new rows)
old_in new rows row among = by (is_lt (path_cmp row.path new.path)) refl
  where
    by : (b : Bool) → is_lt (path_cmp row.path new.path) ≡ b → IsIn row (with_job_row new rows)
    by true e = IsIn-left row _ _ (in_filter (λ x. is_lt (path_cmp x.path new.path)) rows row among e)
    by false e =
        IsIn-right row (filter (λ x. is_lt (path_cmp x.path new.path)) rows) _
        (inr (in_filter (λ x. not (is_lt (path_cmp x.path new.path))) rows row among (ap not e)))

rest_in : (more rows : List JobRow) (row : JobRow) → IsIn row rows → IsIn row (with_job_rows more rows)
unfolding with_job_rows
rest_in [] rows row among = among
rest_in (new ∷ more) rows row among = rest_in more (with_job_row new rows) row (old_in new rows row among)

more_in : (more rows : List JobRow) (row : JobRow) → IsIn row more → IsIn row (with_job_rows more rows)
unfolding with_job_rows
more_in [] rows row among = absurd among
more_in (new ∷ more) rows row (inl same) = rest_in more (with_job_row new rows) row (subst (λ x. IsIn x (with_job_row new rows)) (sym same) (new_in new rows))
more_in (new ∷ more) rows row (inr among) = more_in more (with_job_row new rows) row among

all_in_rows : (more rows : List JobRow) (row : JobRow) → IsIn row (with_job_rows more rows) → IsIn row more ⊎ IsIn row rows
unfolding with_job_rows
all_in_rows [] rows row among = inr among
all_in_rows (new ∷ more) rows row among = by (all_in_rows more (with_job_row new rows) row among)
  where
    by' : (row ≡ new) ⊎ IsIn row rows → IsIn row (new ∷ more) ⊎ IsIn row rows
    by' (inl same) = inl (inl same)
    by' (inr among') = inr among'

    by : IsIn row more ⊎ IsIn row (with_job_row new rows) → IsIn row (new ∷ more) ⊎ IsIn row rows
    by (inl later) = inl (inr later)
    by (inr there) = by' (put_in new rows row there)

abbrev paths : List JobRow → List FilePath
paths rows = map (λ row. row.path) rows

more_in_order : (more rows : List JobRow) → JobRowsAreInOrder rows → NoneTwice (paths more)
    → ((x y : JobRow) → IsIn x more → IsIn y rows → x.path ≡ y.path → ⊥) → JobRowsAreInOrder (with_job_rows more rows)
unfolding with_job_rows
more_in_order [] rows up once apart = up
more_in_order (new ∷ more) rows up once apart =
    more_in_order more (with_job_row new rows)
    (put_in_order new rows up
    (all_map (λ y. IsIn y rows) (λ y. y.path ≡ new.path → ⊥) (λ y among same. apart new y (inl refl) among (sym same)) rows (all_in rows)))
    once.1 (λ x y in_x in_y same. by x y in_x same (put_in new rows y in_y))
  where
    by : (x y : JobRow) → IsIn x more → x.path ≡ y.path → (y ≡ new) ⊎ IsIn y rows → ⊥
    by x y in_x same (inl e) = once.0 (subst (λ p. IsIn p (paths more)) (same ∙ ap (λ (row : JobRow). row.path) e) (in_map (λ row. row.path) more x in_x))
    by x y in_x same (inr among) = apart x y (inr in_x) among same

-- ---- new paths

new_found : (pairs : List Renamed) (path to : FilePath) → new_path pairs path ≡ Some to
    → (pair : Renamed) × IsIn pair pairs × (pair.from ≡ path) × (pair.to ≡ to)
unfolding new_path
new_found [] path to e = absurd (none-some to e)
new_found (r ∷ rs) path to e =
    elim (is_same_path r.from path) as (λ b. is_same_path r.from path ≡ b
    → option_map (λ x. x.to) (cond b (Some r) (find (λ x. is_same_path x.from path) rs)) ≡ Some to
    → (pair : Renamed) × IsIn pair (r ∷ rs) × (pair.from ≡ path) × (pair.to ≡ to)) [
      | true ↦ λ so f. (r, inl refl, tied_path r.from path so, some_same r.to to f)
      | false ↦ λ so f. let x = new_found rs path to f in (x.0, inr x.1, x.2, x.3)
    ] refl e

new_is : (pairs : List Renamed) (pair : Renamed) → NoneTwice (map (λ r. r.from) pairs) → IsIn pair pairs → new_path pairs pair.from ≡ Some pair.to
unfolding new_path
new_is [] pair once among = absurd among
new_is (r ∷ rs) pair once (inl same) = subst (λ x. new_path (r ∷ rs) x.from ≡ Some x.to) (sym same) (rw (own_path r.from) refl)
new_is (r ∷ rs) pair once (inr among) =
    rw (paths_apart r.from pair.from (λ e. once.0 (subst (λ p. IsIn p (map (λ x. x.from) rs)) e (in_map (λ x. x.from) rs pair among))))
    (new_is rs pair once.1 among)

under_parts : (row x : JobRow) (o : Option FilePath) → option_map (λ to. row_under to row) o ≡ Some x → (o ≡ Some x.path) × (row.node ≡ x.node)
under_parts row x None e = absurd (none-some x e)
under_parts row x (Some to) e =
    let same = some_same (row_under to row) x e in
    (ap some_of (ap (λ (y : JobRow). y.path) same), ap (λ (y : JobRow). y.node) same)

module _ (pairs : List Renamed) (rows : List JobRow) (up : JobRowsAreInOrder rows)
    (froms : NoneTwice (map (λ pair. pair.from) pairs)) (tos : RisesBy (λ pair. pair.to) pairs)
    (files : AllByRecursion (λ pair. (content : List ℕ) × (exec : Bool) × (node_in rows pair.from ≡ Some (File content exec))) pairs)
    (free : AllByRecursion (λ pair. node_in rows pair.to ≡ None) pairs) where
  abbrev after : List JobRow
  after = rename pairs rows

  -- a renamed row is one of the rows, under the path of its pair
  renamed_from : (xs : List JobRow) (x : JobRow) → IsIn x (renamed_rows pairs xs)
      → (row : JobRow) × IsIn row xs × (new_path pairs row.path ≡ Some x.path) × (row.node ≡ x.node)
  renamed_from xs x among =
      let found = found_in (λ row. option_map (λ to. row_under to row) (new_path pairs row.path)) xs x among in
      (found.0, found.1, (under_parts found.0 x (new_path pairs found.0.path) found.2).0, (under_parts found.0 x (new_path pairs found.0.path) found.2).1)

  -- no two paths become one
  one_from : (p q to : FilePath) → new_path pairs p ≡ Some to → new_path pairs q ≡ Some to → p ≡ q
  one_from p q to e f =
      let a = new_found pairs p to e in
      let b = new_found pairs q to f in
      sym a.2 ∙ ap (λ (r : Renamed). r.from) (one_item (λ (r : Renamed). r.to) pairs a.0 b.0 tos a.1 b.1 (a.3 ∙ sym b.3)) ∙ b.2

  renamed_once : (xs : List JobRow) → JobRowsAreInOrder xs → NoneTwice (paths (renamed_rows pairs xs))
  renamed_once [] in_order = tt
  renamed_once (row ∷ xs) in_order =
      elim (new_path pairs row.path) as (λ o. new_path pairs row.path ≡ o
      → NoneTwice (paths (cons_option (option_map (λ to. row_under to row) o) (renamed_rows pairs xs)))) [
        | None ↦ λ e. renamed_once xs in_order.1
        | Some to ↦ λ e. (
          λ there.
              let x = map_in (λ r. r.path) (renamed_rows pairs xs) to there in
              let other = renamed_from xs x.0 x.1 in
              less_differs row.path other.0.path (holds_in (λ next. path_cmp row.path next.path ≡ Less) xs other.0 in_order.0 other.1)
              (one_from row.path other.0.path to e (other.2 ∙ ap some_of (sym x.2))),
          renamed_once xs in_order.1,
        )
      ] refl

  taken_free : (path to : FilePath) → new_path pairs path ≡ Some to → node_in rows to ≡ None
  taken_free path to e =
      let pair = new_found pairs path to e in
      subst (λ p. node_in rows p ≡ None) pair.3 (holds_in (λ r. node_in rows r.to ≡ None) pairs pair.0 free pair.1)

  after_in_order : JobRowsAreInOrder after
  after_in_order =
      more_in_order (renamed_rows pairs rows) (unrenamed_rows pairs rows)
      (rise_order (unrenamed_rows pairs rows) (rises_filter (λ row. row.path) (λ row. is_none (new_path pairs row.path)) rows (rows_rise rows up)))
      (renamed_once rows up)
      (λ x y in_x in_y same.
      let from = renamed_from rows x in_x in
      none-some y.node
      (sym (taken_free from.0.path x.path from.2) ∙ ap (node_in rows) same
      ∙ stands rows y up (filter_in (λ row. is_none (new_path pairs row.path)) rows y in_y).0))

  -- what stands at a path after is a renamed row, or one that keeps its path
  abbrev IsRenamedAt : FilePath → Node → Type 0
  IsRenamedAt path node = (pair : Renamed) × IsIn pair pairs × (pair.to ≡ path) × (node_in rows pair.from ≡ Some node)

  abbrev IsKeptAt : FilePath → Node → Type 0
  IsKeptAt path node = (new_path pairs path ≡ None) × IsIn (row_of path node) rows

  none_is : {X : Type 0} (o : Option X) → is_none o ≡ true → o ≡ None
  none_is None e = refl
  none_is (Some x) e = absurd cc

  row_after : (x : JobRow) → IsIn x after → IsRenamedAt x.path x.node ⊎ IsKeptAt x.path x.node
  row_after x among = by (all_in_rows (renamed_rows pairs rows) (unrenamed_rows pairs rows) x among)
    where
      by : IsIn x (renamed_rows pairs rows) ⊎ IsIn x (unrenamed_rows pairs rows) → IsRenamedAt x.path x.node ⊎ IsKeptAt x.path x.node
      by (inl renamed) =
          let from = renamed_from rows x renamed in
          let pair = new_found pairs from.0.path x.path from.2 in
          inl (pair.0, pair.1, pair.3, ap (node_in rows) pair.2 ∙ stands rows from.0 up from.1 ∙ ap some_of from.3)
      by (inr kept) =
          let parts = filter_in (λ row. is_none (new_path pairs row.path)) rows x kept in
          inr (none_is _ parts.1, parts.0)

  kept_stands : (path : FilePath) (node : Node) → IsKeptAt path node → node_in after path ≡ Some node
  kept_stands path node kept =
      stands after (row_of path node) after_in_order
      (rest_in (renamed_rows pairs rows) (unrenamed_rows pairs rows) (row_of path node)
      (in_filter (λ row. is_none (new_path pairs row.path)) rows (row_of path node) kept.1 (ap is_none kept.0)))

  moved_stands : (pair : Renamed) (node : Node) → IsIn pair pairs → node_in rows pair.from ≡ Some node → node_in after pair.to ≡ Some node
  moved_stands pair node among at_from =
      let goes : option_map (λ to. row_under to (row_of pair.from node)) (new_path pairs pair.from) ≡ Some (row_of pair.to node) = rw (new_is pairs pair froms among) refl in
      stands after (row_of pair.to node) after_in_order
      (more_in (renamed_rows pairs rows) (unrenamed_rows pairs rows) (row_of pair.to node)
      (in_found (λ row. option_map (λ to. row_under to row) (new_path pairs row.path)) rows (row_of pair.from node) (row_of pair.to node)
      (row_there rows pair.from node at_from) goes))

  no_longer : (pair : Renamed) → IsIn pair pairs → node_in after pair.from ≡ None
  no_longer pair among = by (node_in after pair.from) refl
    where
      file : (content : List ℕ) × (exec : Bool) × (node_in rows pair.from ≡ Some (File content exec))
      file = holds_in (λ r. (content : List ℕ) × (exec : Bool) × (node_in rows r.from ≡ Some (File content exec))) pairs pair files among

      not_there : (node : Node) → IsRenamedAt pair.from node ⊎ IsKeptAt pair.from node → ⊥
      not_there node (inl new) =
          none-some (File file.0 file.1)
          (sym (holds_in (λ r. node_in rows r.to ≡ None) pairs new.0 free new.1) ∙ ap (node_in rows) new.2 ∙ file.2)
      not_there node (inr kept) = none-some pair.to (sym kept.0 ∙ new_is pairs pair froms among)

      by : (o : Option Node) → node_in after pair.from ≡ o → node_in after pair.from ≡ None
      by None e = e
      by (Some node) e = absurd (not_there node (row_after (row_of pair.from node) (row_there after pair.from node e)))

  as_before : (path : FilePath) → (IsIn path (map (λ pair. pair.from) pairs) → ⊥) → (IsIn path (map (λ pair. pair.to) pairs) → ⊥)
      → node_in after path ≡ node_in rows path
  as_before path no_from no_to = by (node_in rows path) refl (node_in after path) refl
    where
      keeps : (o : Option FilePath) → new_path pairs path ≡ o → new_path pairs path ≡ None
      keeps None e = e
      keeps (Some to) e =
          let pair = new_found pairs path to e in
          absurd (no_from (subst (λ p. IsIn p (map (λ r. r.from) pairs)) pair.2 (in_map (λ r. r.from) pairs pair.0 pair.1)))

      was : (node : Node) → IsRenamedAt path node ⊎ IsKeptAt path node → node_in rows path ≡ Some node
      was node (inl new) = absurd (no_to (subst (λ p. IsIn p (map (λ r. r.to) pairs)) new.2 (in_map (λ r. r.to) pairs new.0 new.1)))
      was node (inr kept) = stands rows (row_of path node) up kept.1

      by : (o : Option Node) → node_in rows path ≡ o → (n : Option Node) → node_in after path ≡ n → node_in after path ≡ node_in rows path
      by (Some node) e n f = kept_stands path node (keeps (new_path pairs path) refl, row_there rows path node e) ∙ sym e
      by None e None f = f ∙ sym e
      by None e (Some node) f = absurd (none-some node (sym e ∙ was node (row_after (row_of path node) (row_there after path node f))))

  pub moves_contents : MovesContents pairs rows after
  moves_contents = record {
    to_new = all_map (λ pair. IsIn pair pairs) (λ pair. node_in after pair.to ≡ node_in rows pair.from)
        (λ pair among.
        let file = holds_in (λ r. (content : List ℕ) × (exec : Bool) × (node_in rows r.from ≡ Some (File content exec))) pairs pair files among in
        moved_stands pair (File file.0 file.1) among file.2 ∙ sym file.2) pairs (all_in pairs);
    from_old = all_map (λ pair. IsIn pair pairs) (λ pair. node_in after pair.from ≡ None) no_longer pairs (all_in pairs);
    rest = as_before;
  }

  -- ---- legal rows

  module _ (legal : AreJobRows rows) (named : AllByRecursion (λ pair. IsPath pair.to × (is_root pair.to ≡ false)) pairs)
      (folders : AllByRecursion (λ pair. folder_of pair.from ≡ folder_of pair.to) pairs) where
    each_after : (x : JobRow) → IsIn x after → IsJobRow x
    each_after x among = by (row_after x among)
      where
        by : IsRenamedAt x.path x.node ⊎ IsKeptAt x.path x.node → IsJobRow x
        by (inl new) =
            let good = holds_in (λ pair. IsPath pair.to × (is_root pair.to ≡ false)) pairs new.0 named new.1 in
            record { is_path = subst IsPath new.2 good.0; below_root = ap is_root (sym new.2) ∙ good.1 }
        by (inr kept) = holds_in IsJobRow rows x legal.each kept.1

    folder_stays : (path : FilePath) → is_folder_in rows path ≡ true → is_folder_in after path ≡ true
    folder_stays path so = by (is_root path) refl
      where
        is_there : (o : Option Node) → node_in rows path ≡ o → is_folder_node o ≡ true → node_in rows path ≡ Some Folder
        is_there None e f = absurd (true≢false (sym f))
        is_there (Some Folder) e f = e
        is_there (Some (File content exec)) e f = absurd (true≢false (sym f))

        keeps : node_in rows path ≡ Some Folder → (o : Option FilePath) → new_path pairs path ≡ o → new_path pairs path ≡ None
        keeps there None e = e
        keeps there (Some to) e =
            let pair = new_found pairs path to e in
            let file = holds_in (λ r. (content : List ℕ) × (exec : Bool) × (node_in rows r.from ≡ Some (File content exec))) pairs pair.0 files pair.1 in
            absurd (no_file file.0 file.1 (some_same Folder (File file.0 file.1) (sym there ∙ ap (node_in rows) (sym pair.2) ∙ file.2)))
          where
            no_file : (content : List ℕ) (exec : Bool) → ◌≡◌ {A = Node} Folder (File content exec) → ⊥
            no_file content exec f = true≢false (ap (λ (n : Node). is_folder_node (Some n)) f)

        by : (b : Bool) → is_root path ≡ b → is_folder_in after path ≡ true
        by true e = rw e refl
        by false e =
            let there = is_there (node_in rows path) refl (subst (λ b. (b || is_folder_node (node_in rows path)) ≡ true) e so) in
            rw e (ap is_folder_node (kept_stands path Folder (keeps there (new_path pairs path) refl, row_there rows path Folder there)))

    in_folders_after : (path : FilePath) → is_some (node_in after path) ≡ true → is_folder_in after (folder_of path) ≡ true
    in_folders_after path so = by (node_in after path) refl so
      where
        from : (node : Node) → IsRenamedAt path node ⊎ IsKeptAt path node → is_folder_in rows (folder_of path) ≡ true
        from node (inl new) =
            subst (λ p. is_folder_in rows p ≡ true)
            (holds_in (λ pair. folder_of pair.from ≡ folder_of pair.to) pairs new.0 folders new.1 ∙ ap folder_of new.2)
            (legal.in_folders new.0.from (ap is_some new.3))
        from node (inr kept) = legal.in_folders path (ap is_some (stands rows (row_of path node) up kept.1))

        by : (o : Option Node) → node_in after path ≡ o → is_some o ≡ true → is_folder_in after (folder_of path) ≡ true
        by None e f = absurd (true≢false (sym f))
        by (Some node) e f = folder_stays (folder_of path) (from node (row_after (row_of path node) (row_there after path node e)))

    pub are_legal : AreJobRows after
    are_legal = record {
      in_order = after_in_order;
      each = all_map (λ x. IsIn x after) IsJobRow each_after after (all_in after);
      in_folders = in_folders_after;
    }

-- ---- the laws

module _ (templates : List (List ℕ)) (effects : List SketchEffect) (job_rows rows : List JobRow) (up : JobRowsAreInOrder rows) where
  abbrev given : List Renamed
  given = renaming templates effects job_rows rows

  abbrev IsOfNew : Renamed → Type 0
  IsOfNew pair = IsOfNewFiles effects job_rows rows pair × IsOfUnequal effects job_rows rows pair

  of_new : AllByRecursion IsOfNew given
  of_new = all_both (IsOfNewFiles effects job_rows rows) (IsOfUnequal effects job_rows rows) given (only_new templates effects job_rows rows up) (equal_stay templates effects job_rows rows up)

  to_is_free : (pair : Renamed) → IsOfNew pair → node_in rows pair.to ≡ None
  to_is_free pair new = by (node_in rows pair.to) refl
    where
      by : (o : Option Node) → node_in rows pair.to ≡ o → node_in rows pair.to ≡ None
      by None e = e
      by (Some Folder) e = absurd (true≢false (sym (ap is_folder_node e) ∙ (or_false_of (is_root pair.to) _ new.0.to_is.no_folder).1))
      by (Some (File content exec)) e = absurd (new.1.to_is_no_file (record { is_new = new.0.to_is.is_new; is_file = (content, exec, e) }))

  pub given_files : AllByRecursion (λ pair. (content : List ℕ) × (exec : Bool) × (node_in rows pair.from ≡ Some (File content exec))) given
  given_files = all_map IsOfNew (λ pair. (content : List ℕ) × (exec : Bool) × (node_in rows pair.from ≡ Some (File content exec))) (λ pair new. new.0.from_is.is_file) given of_new

  pub given_free : AllByRecursion (λ pair. node_in rows pair.to ≡ None) given
  given_free = all_map IsOfNew (λ pair. node_in rows pair.to ≡ None) to_is_free given of_new

  put_path : (effects' : List SketchEffect) → AllByRecursion IsPath (sketches_touch effects') → (path : FilePath) (sketch : Sketch)
      → IsIn (Put path sketch) effects' → IsPath path
  put_path [] fit path sketch among = absurd among
  put_path (effect ∷ more) fit path sketch (inl same) =
      front_all (sketch_paths effect) _ (subst (AllByRecursion IsPath) (flat_map-cons sketch_paths effect more) fit) path
      (subst (λ e. IsIn path (sketch_paths e)) same (inl refl))
    where
      front_all : (xs ys : List FilePath) → AllByRecursion IsPath (xs ++ ys) → (p : FilePath) → IsIn p xs → IsPath p
      front_all xs ys all p here = holds_in IsPath (xs ++ ys) p all (IsIn-left p xs ys here)
  put_path (effect ∷ more) fit path sketch (inr among) =
      put_path more (back_all (sketch_paths effect) _ (subst (AllByRecursion IsPath) (flat_map-cons sketch_paths effect more) fit)) path sketch among
    where
      back_all : (xs ys : List FilePath) → AllByRecursion IsPath (xs ++ ys) → AllByRecursion IsPath ys
      back_all [] ys all = all
      back_all (x ∷ xs) ys all = back_all xs ys all.1

  pub given_named : AllByRecursion IsPath (sketches_touch effects) → AllByRecursion (λ pair. IsPath pair.to × (is_root pair.to ≡ false)) given
  given_named fit =
      all_map IsOfNew (λ pair. IsPath pair.to × (is_root pair.to ≡ false))
      (λ pair new. (
        put_path effects fit pair.to new.0.to_is.is_put.0 new.0.to_is.is_put.1,
        (or_false_of (is_root pair.to) _ new.0.to_is.no_folder).0,
      )) given of_new

pub contents_move : RenamingsMoveContents
contents_move templates effects job_rows rows up =
    let one = one_to_one templates effects job_rows rows up in
    moves_contents (renaming templates effects job_rows rows) rows up one.froms one.in_order
    (given_files templates effects job_rows rows up) (given_free templates effects job_rows rows up)

pub rows_stay_legal : RenamedRowsAreLegal
rows_stay_legal templates effects job_rows rows fit legal =
    let one = one_to_one templates effects job_rows rows legal.in_order in
    are_legal (renaming templates effects job_rows rows) rows legal.in_order one.froms one.in_order
    (given_files templates effects job_rows rows legal.in_order) (given_free templates effects job_rows rows legal.in_order)
    legal (given_named templates effects job_rows rows legal.in_order fit)
    (all_map (IsWithinGroup templates) (λ pair. folder_of pair.from ≡ folder_of pair.to) (λ pair within. within.one_folder)
    (renaming templates effects job_rows rows) (within_groups templates effects job_rows rows))
