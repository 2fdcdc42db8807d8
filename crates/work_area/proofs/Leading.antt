-- A change list leads from the rows before to those after.
use Rattle.std.proofs.Common.{◌≡◌, Bool, true, false, ◌||◌, ◌&&◌, not, List, [], ◌∷◌, ◌++◌, reverse, find, Option, Some, None}
use Rattle.std.proofs.Common.{option_map, unwrap_or, cond, refl, sym, ap, ◌∙◌, subst}
use Rattle.std.specs.List.{list_any, filter_map, fold, AllByRecursion}
use Rattle.std.specs.Str.{bytes_eq}
use Rattle.std.specs.Cmp.Lexicographic.{bytes_decides}
use Rattle.std.proofs.lemmas.List.{reverse-append}
use Rattle.std.proofs.lemmas.List.Sums.{fold-append}
use Rattle.tree_values.specs.declared.node.Node.{Node}
use Rattle.tree_values.specs.declared.node.Node.TheVariants.{Folder, File}
use Rattle.tree_values.specs.declared.node.Effect.{Effect}
use Rattle.tree_values.specs.declared.node.Effect.TheVariants.{Make, Put, Remove, Move, Mode}
use Rattle.cmd_capture.specs.declared.job.JobRow.{JobRow}
use Rattle.cmd_capture.specs.Rows.{is_job_row_at, node_in}
use Rattle.file_paths.specs.Path.{FilePath, is_same_path}
use Rattle.byte_fields.proofs.Facts.{or_false}
use Rattle.file_paths.proofs.Order.{tied_path}
use Rattle.work_area.proofs.JobRows.{AreDistinct}
use Rattle.work_area.specs.Changes.{has_kind, has_content, has_other_mode, is_gone, is_new, is_moded, removal_of, makings_of, made, changes}
use Rattle.std.specs.Option.{option_to_list}
use Rattle.std.specs.List.{flat_map}
use Rattle.std.proofs.lemmas.List.Concat.{flat_map-cons}
use Rattle.tree_values.specs.Tree.{is_exec, with_content, with_mode}

-- the node of a path after an effect that moves nothing
abbrev pub node_after : FilePath → Option Node → Effect → Option Node
node_after path node (Make p) = cond (is_same_path p path) (Some Folder) node
node_after path node (Put p content) = cond (is_same_path p path) (Some (with_content node content)) node
node_after path node (Remove p) = cond (is_same_path p path) None node
node_after path node (Move p q) = node
node_after path node (Mode p exec) = cond (is_same_path p path) (with_mode exec node) node

module _ (path : FilePath) where
  -- effects that all give the path one node, or leave it
  folded : (g : JobRow → Bool) (e : JobRow → Effect) (v : JobRow → Option Node) (w : Option Node)
      → ((row : JobRow) (n : Option Node) → node_after path n (e row) ≡ cond (is_job_row_at path row) (v row) n)
      → (rows : List JobRow) → AllByRecursion (λ row. is_job_row_at path row ≡ true → v row ≡ w) rows → (n : Option Node)
      → fold (node_after path) n (filter_map (λ row. cond (g row) (Some (e row)) None) rows)
      ≡ cond (list_any (λ row. is_job_row_at path row && g row) rows) w n
  folded g e v w sets [] all n = refl
  folded g e v w sets (row ∷ rows) all n = by (g row) (is_job_row_at path row) refl refl (folded g e v w sets rows all.1)
    where
      twice : (b : Bool) → cond b w w ≡ w
      twice true = refl
      twice false = refl

      by : (b t : Bool) → g row ≡ b → is_job_row_at path row ≡ t
          → ((m : Option Node) → fold (node_after path) m (filter_map (λ row. cond (g row) (Some (e row)) None) rows)
          ≡ cond (list_any (λ row. is_job_row_at path row && g row) rows) w m)
          → fold (node_after path) n (filter_map (λ row. cond (g row) (Some (e row)) None) (row ∷ rows))
          ≡ cond (list_any (λ row. is_job_row_at path row && g row) (row ∷ rows)) w n
      by true true eg et more =
          simp (eg, et)
          (more (node_after path n (e row))
          ∙ ap (λ m. cond (list_any (λ row. is_job_row_at path row && g row) rows) w m) (sets row n ∙ ap (λ t. cond t (v row) n) et ∙ all.0 et)
          ∙ twice (list_any (λ row. is_job_row_at path row && g row) rows))
      by true false eg et more =
          simp (eg, et)
          (more (node_after path n (e row))
          ∙ ap (λ m. cond (list_any (λ row. is_job_row_at path row && g row) rows) w m) (sets row n ∙ ap (λ t. cond t (v row) n) et))
      by false true eg et more = simp (eg, et) (more n)
      by false false eg et more = simp (eg, et) (more n)

  -- behind a row at the path there is none
  none_behind : (g : JobRow → Bool) (p : FilePath) → p ≡ path → (rows : List JobRow)
      → AllByRecursion (λ other. is_job_row_at p other ≡ false) rows
      → list_any (λ row. is_job_row_at path row && g row) rows ≡ false
  none_behind g p same [] all = refl
  none_behind g p same (row ∷ rows) all =
      let here : is_job_row_at path row ≡ false = subst (λ q. is_job_row_at q row ≡ false) same all.0 in
      simp here (none_behind g p same rows all.1)

  any_is_found : (g : JobRow → Bool) (rows : List JobRow) → AreDistinct rows
      → list_any (λ row. is_job_row_at path row && g row) rows ≡ unwrap_or (option_map g (find (is_job_row_at path) rows)) false
  any_is_found g [] distinct = refl
  any_is_found g (row ∷ rows) distinct = by (is_job_row_at path row) refl (any_is_found g rows distinct.1)
    where
      by : (t : Bool) → is_job_row_at path row ≡ t
          → list_any (λ row. is_job_row_at path row && g row) rows ≡ unwrap_or (option_map g (find (is_job_row_at path) rows)) false
          → list_any (λ row. is_job_row_at path row && g row) (row ∷ rows) ≡ unwrap_or (option_map g (find (is_job_row_at path) (row ∷ rows))) false
      by true e more = simp (e, none_behind g row.path (tied_path row.path path e) rows distinct.0) (or_false (g row))
      by false e more = simp e more

-- ---- two nodes

abbrev gone : Option Node → Option Node → Bool
gone None after = false
gone (Some node) after = not (has_kind node after)

-- ---- the rows that are found

module _ (path : FilePath) where
  found_gone : (after rows : List JobRow)
      → unwrap_or (option_map (is_gone after) (find (is_job_row_at path) rows)) false ≡ gone (node_in rows path) (node_in after path)
  found_gone after [] = refl
  found_gone after (row ∷ rows) = by (is_job_row_at path row) refl (found_gone after rows)
    where
      by : (t : Bool) → is_job_row_at path row ≡ t
          → unwrap_or (option_map (is_gone after) (find (is_job_row_at path) rows)) false ≡ gone (node_in rows path) (node_in after path)
          → unwrap_or (option_map (is_gone after) (find (is_job_row_at path) (row ∷ rows))) false
          ≡ gone (node_in (row ∷ rows) path) (node_in after path)
      by true e more = simp e (ap (λ p. not (has_kind row.node (node_in after p))) (tied_path row.path path e))
      by false e more = simp e more

  none_given : (nothing : Option Node) (rows : List JobRow) → AllByRecursion (λ row. is_job_row_at path row ≡ true → nothing ≡ nothing) rows
  none_given nothing [] = tt
  none_given nothing (row ∷ rows) = ((λ h. refl), none_given nothing rows)

  -- effects of rows elsewhere leave the node
  passes : (f : JobRow → List Effect) → ((row : JobRow) (n : Option Node) → is_job_row_at path row ≡ false → fold (node_after path) n (f row) ≡ n)
      → (p : FilePath) → p ≡ path → (rows : List JobRow) → AllByRecursion (λ other. is_job_row_at p other ≡ false) rows
      → (n : Option Node) → fold (node_after path) n (flat_map f rows) ≡ n
  passes f others p same [] all n = refl
  passes f others p same (row ∷ rows) all n =
      let here : is_job_row_at path row ≡ false = subst (λ q. is_job_row_at q row ≡ false) same all.0 in
      ap (fold (node_after path) n) (flat_map-cons f row rows) ∙ fold-append (node_after path) n (f row) (flat_map f rows)
      ∙ ap (λ m. fold (node_after path) m (flat_map f rows)) (others row n here) ∙ passes f others p same rows all.1 n

  -- the row at the path gives it its node, and no other does
  gives : (f : JobRow → List Effect) → ((row : JobRow) (n : Option Node) → is_job_row_at path row ≡ false → fold (node_after path) n (f row) ≡ n)
      → (n : Option Node) (rows : List JobRow) → AreDistinct rows
      → ((row : JobRow) → is_job_row_at path row ≡ true → node_in rows path ≡ Some row.node → fold (node_after path) n (f row) ≡ Some row.node)
      → (node_in rows path ≡ None → n ≡ None)
      → fold (node_after path) n (flat_map f rows) ≡ node_in rows path
  gives f others n [] distinct sets none = none refl
  gives f others n (row ∷ rows) distinct sets none =
      ap (fold (node_after path) n) (flat_map-cons f row rows) ∙ fold-append (node_after path) n (f row) (flat_map f rows)
      ∙ by (is_job_row_at path row) refl (gives f others n rows distinct.1)
    where
      by : (t : Bool) → is_job_row_at path row ≡ t
          → (((r : JobRow) → is_job_row_at path r ≡ true → node_in rows path ≡ Some r.node → fold (node_after path) n (f r) ≡ Some r.node)
          → (node_in rows path ≡ None → n ≡ None) → fold (node_after path) n (flat_map f rows) ≡ node_in rows path)
          → fold (node_after path) (fold (node_after path) n (f row)) (flat_map f rows) ≡ node_in (row ∷ rows) path
      by true e more =
          ap (λ m. fold (node_after path) m (flat_map f rows)) (sets row e (simp e refl))
          ∙ passes f others row.path (tied_path row.path path e) rows distinct.0 (Some row.node) ∙ sym (simp e refl)
      by false e more =
          let same : node_in (row ∷ rows) path ≡ node_in rows path = simp e refl in
          ap (λ m. fold (node_after path) m (flat_map f rows)) (others row n e) ∙ more (λ r at there. sets r at (same ∙ there)) (λ h. none (same ∙ h)) ∙ sym same

  -- what makes a row elsewhere leaves the node
  makes_elsewhere : (before : List JobRow) (row : JobRow) (n : Option Node) → is_job_row_at path row ≡ false
      → fold (node_after path) n (makings_of before row) ≡ n
  makes_elsewhere before row n e = by row.node (is_new before row) (is_moded before row)
    where
      by : (node : Node) (new moded : Bool)
          → fold (node_after path) n (option_to_list (cond new (Some (made row.path node)) None) ++ option_to_list (cond moded (Some (Mode row.path (is_exec (Some row.node)))) None)) ≡ n
      by node false false = refl
      by node false true = simp e refl
      by Folder true false = simp e refl
      by Folder true true = simp e refl
      by (File content exec) true false = simp e refl
      by (File content exec) true true = simp e refl

  -- what stands at the path of a row once it is made, whatever stood there
  makes_it : (p : FilePath) → is_same_path p path ≡ true → (node : Node) (old : Option Node)
      → fold (node_after path) (cond (gone old (Some node)) None old)
      (option_to_list (cond (not (has_content node old)) (Some (made p node)) None) ++ option_to_list (cond (has_other_mode node old) (Some (Mode p (is_exec (Some node)))) None))
      ≡ Some node
  makes_it p e Folder None = simp e refl
  makes_it p e Folder (Some Folder) = refl
  makes_it p e Folder (Some (File d old)) = simp e refl
  makes_it p e (File c true) None = simp e refl
  makes_it p e (File c false) None = simp e refl
  makes_it p e (File c true) (Some Folder) = simp e refl
  makes_it p e (File c false) (Some Folder) = simp e refl
  makes_it p e (File c exec) (Some (File d old)) = by (bytes_eq c d) refl exec old
    where
      by : (b : Bool) → bytes_eq c d ≡ b → (x y : Bool)
          → fold (node_after path) (Some (File d y))
          (option_to_list (cond (not b) (Some (Put p c)) None) ++ option_to_list (cond (has_other_mode (File c x) (Some (File d y))) (Some (Mode p x)) None))
          ≡ Some (File c x)
      by true same true true = ap (λ z. Some (File z true)) (sym ((bytes_decides c d).0 same))
      by true same true false = simp e (ap (λ z. Some (File z true)) (sym ((bytes_decides c d).0 same)))
      by true same false true = simp e (ap (λ z. Some (File z false)) (sym ((bytes_decides c d).0 same)))
      by true same false false = ap (λ z. Some (File z false)) (sym ((bytes_decides c d).0 same))
      by false same true true = simp e refl
      by false same true false = simp e refl
      by false same false true = simp e refl
      by false same false false = simp e refl

  -- a row at the path, whose node before is that of the path
  makes_row : (before : List JobRow) (row : JobRow) → is_job_row_at path row ≡ true
      → fold (node_after path) (cond (gone (node_in before path) (Some row.node)) None (node_in before path)) (makings_of before row) ≡ Some row.node
  makes_row before row e =
      subst (λ old. fold (node_after path) (cond (gone old (Some row.node)) None old) (makings_of before row) ≡ Some row.node)
      (ap (node_in before) (tied_path row.path path e)) (makes_it row.path e row.node (node_in before row.path))

any_append : (p : JobRow → Bool) (xs ys : List JobRow) → list_any p (xs ++ ys) ≡ (list_any p xs || list_any p ys)
any_append p [] ys = refl
any_append p (x ∷ xs) ys = by (p x) (any_append p xs ys)
  where
    by : (b : Bool) → list_any p (xs ++ ys) ≡ (list_any p xs || list_any p ys)
        → (b || list_any p (xs ++ ys)) ≡ ((b || list_any p xs) || list_any p ys)
    by true more = refl
    by false more = more

any_reverse : (p : JobRow → Bool) (xs : List JobRow) → list_any p (reverse xs) ≡ list_any p xs
any_reverse p [] = refl
any_reverse p (x ∷ xs) =
    ap (list_any p) (reverse-append (x ∷ []) xs) ∙ any_append p (reverse xs) (x ∷ [])
    ∙ ap (λ b. b || list_any p (x ∷ [])) (any_reverse p xs) ∙ swap (list_any p xs) (p x)
  where
    swap : (a b : Bool) → (a || (b || false)) ≡ (b || a)
    swap true true = refl
    swap true false = refl
    swap false true = refl
    swap false false = refl

-- where nothing is left in the end, nothing stands once what is gone is removed
none_left : (b a : Option Node) → a ≡ None → cond (gone b a) None b ≡ None
none_left None a e = none_kept (gone None a)
  where
    none_kept : (t : Bool) → cond {A = Option Node} t None None ≡ None
    none_kept true = refl
    none_kept false = refl
none_left (Some node) a e = rw e refl

-- wherever the nodes are those of `before`, the change list makes them those of `after`
pub changes_lead : (before after : List JobRow) → AreDistinct before → AreDistinct after → (path : FilePath)
    → fold (node_after path) (node_in before path) (changes before after) ≡ node_in after path
changes_lead before after distinct_before distinct_after path =
    let removed : fold (node_after path) b (filter_map (removal_of after) (reverse before)) ≡ cond (gone b a) None b =
    folded path (is_gone after) (λ row. Remove row.path) (λ row. None) None (λ row n. refl) (reverse before)
    (none_given path None (reverse before)) b
    ∙ ap (λ t. cond t None b)
    (any_reverse (λ row. is_job_row_at path row && is_gone after row) before ∙ any_is_found path (is_gone after) before distinct_before
    ∙ found_gone path after before) in
    fold-append (node_after path) b (filter_map (removal_of after) (reverse before)) (flat_map (makings_of before) after)
    ∙ ap (λ m. fold (node_after path) m (flat_map (makings_of before) after)) removed
    ∙ gives path (makings_of before) (makes_elsewhere path before) (cond (gone b a) None b) after distinct_after
    (λ row e there. subst (λ n. fold (node_after path) (cond (gone b n) None b) (makings_of before row) ≡ Some row.node) (sym there) (makes_row path before row e)) (λ none. none_left b a none)
  where
    a : Option Node
    a = node_in after path

    b : Option Node
    b = node_in before path
