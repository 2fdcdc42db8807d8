-- What a taking logs, and what it leaves.
use Rattle.std.proofs.Common.{◌≡◌, ◌⊎◌, inl, inr, ◌-◌, ◌<◌, ◌≤◌, Bool, true, false, not, ◌||◌, ◌&&◌, List, [], ◌∷◌, ◌++◌, filter, reverse, length, take, Option, Some, None, is_some, Ok, cond, refl, sym, ap, ◌∙◌, arith}
use Rattle.std.proofs.Common.{subst, true≢false}
use Rattle.std.specs.List.{list_any, filter_map, cons_option, AllByRecursion}
use Rattle.std.specs.Option.{option_or}
use Rattle.std.proofs.lemmas.Bool.{cases_lt}
use Rattle.std.proofs.lemmas.List.{take-take, take_all, length-take}
use Rattle.byte_fields.proofs.Facts.{and_of, or_true, or_false_of}
use Rattle.file_paths.specs.Refusals.{when, unless_refused}
use Rattle.file_paths.specs.Path.{FilePath, folder_of, is_same_path}
use Rattle.file_paths.proofs.Order.{tied_path, own_path}
use Rattle.tree_values.specs.Tree.{is_root, is_folder_node}
use Rattle.tree_values.specs.Effects.{apply_all}
use Rattle.tree_values.specs.declared.node.Node.{Node}
use Rattle.tree_values.specs.declared.node.Effect.{Effect}
use Rattle.cmd_capture.specs.declared.job.JobRow.{JobRow}
use Rattle.cmd_capture.specs.Rows.{node_in, is_folder_in, IsJobRow, JobRowsAreInOrder, AreJobRows}
use Rattle.work_area.specs.Jobs.{is_within}
use Rattle.work_area.specs.Changes.{changes, has_kind, is_gone}
use Rattle.work_area.proofs.JobRows.{are_distinct}
use Rattle.work_area.proofs.Unchanged.{are_found, kind_stays}
use Rattle.work_area.proofs.Applying.{leads, leaves, nothing, all_reverse, all_map}
use Rattle.folder_sides.specs.declared.sides.Sides.{Sides}
use Rattle.folder_sides.specs.declared.steps.Step.{Step}
use Rattle.folder_sides.specs.declared.ends.End.TheVariants.{Same, Both}
use Rattle.folder_sides.specs.declared.taking.TakeError.TheVariants.{NotLaid}
use Rattle.folder_sides.specs.Sides.{AreSides, is_same_node, is_same, end_alone, end_within, end_of, stays_in, comes_in, is_taken}
use Rattle.folder_sides.specs.Merging.{stays, merged}
use Rattle.folder_sides.specs.Steps.{removal, putting, steps}
use Rattle.folder_sides.specs.Taking.{is_left_out, standing, are_same_rows, taken}
use Rattle.folder_sides.specs.Laws.{TakesAreOfWhatWasLaid, TakenIsTheFolder, TakesSpareOthers, OwnIsTaken, LayBehindTakeIsIdle, TakeBehindLayIsIdle, behind_lay}
use Rattle.folder_sides.proofs.Lists.{node_filtered, node_woven, order_filter, order_woven, all_filter, all_woven, same_rows}
use Rattle.folder_sides.proofs.EndCases.{same_node_is, own_node, is_same_itself, alone_same}
use Rattle.folder_sides.proofs.Below.{begins, within, folder_len}
use Rattle.folder_sides.proofs.Trees.{above, merged_nodes, merged_order}

-- ---- the same rows

pub same_rows_are : (a b : List JobRow) → are_same_rows a b ≡ true → a ≡ b
same_rows_are [] [] h = refl
same_rows_are [] (y ∷ ys) h = absurd (true≢false (sym h))
same_rows_are (x ∷ xs) [] h = absurd (true≢false (sym h))
same_rows_are (x ∷ xs) (y ∷ ys) h =
    let parts = and_of (is_same_path x.path y.path && is_same_node x.node y.node) (are_same_rows xs ys) h in
    let one = and_of (is_same_path x.path y.path) (is_same_node x.node y.node) parts.0 in
    ap (λ p. record { path = p; node = x.node } ∷ xs) (tied_path x.path y.path one.0)
    ∙ ap (λ n. record { path = y.path; node = n } ∷ xs) (same_node_is x.node y.node one.1)
    ∙ ap (λ l. y ∷ l) (same_rows_are xs ys parts.1)

pub are_same_themselves : (a : List JobRow) → are_same_rows a a ≡ true
are_same_themselves [] = refl
are_same_themselves (x ∷ xs) = rw (own_path x.path, own_node x.node) (are_same_themselves xs)

-- ---- what is left out

-- what lies in a folder that is left out is left out
within_down : (p c : FilePath) → is_within (folder_of p) c ≡ true → is_within p c ≡ true
within_down p c h =
    let is : c ≡ take (length c) (folder_of p) = begins (folder_of p) c h in
    let short : length c ≤ length p - 1 = omega (arith, ap length is, length-take (length c) (folder_of p), folder_len p) in
    within p c (is ∙ take-take (length c) (length p - 1) p short)

-- only a path that is left out itself is left out without its folder
within_itself : (p c : FilePath) → is_within p c ≡ true → is_within (folder_of p) c ≡ false → p ≡ c
within_itself p c h outside = elim (cases_lt (length c) (length p)) [
  | inl less ↦ absurd (true≢false (sym (within (folder_of p) c
      (begins p c h ∙ sym (take-take (length c) (length p - 1) p (omega (arith, less))))) ∙ outside))
  | inr more ↦ sym (begins p c h ∙ take_all (length c) p more)
]

module _ (sides : Sides) (are : AreSides sides) where
  pub standing_nodes : (path : FilePath)
      → node_in (standing sides) path ≡ cond (is_left_out sides path) (node_in sides.logged path) (node_in sides.here path)
  standing_nodes path =
      node_woven (filter (λ row. not (is_left_out sides row.path)) sides.here) (filter (λ row. is_left_out sides row.path) sides.logged)
      (order_filter (λ row. not (is_left_out sides row.path)) sides.here are.here.in_order) path
      ∙ ap (λ o. option_or o (node_in (filter (λ row. is_left_out sides row.path) sides.logged) path))
      (node_filtered (λ p. not (is_left_out sides p)) sides.here path)
      ∙ ap (option_or (cond (not (is_left_out sides path)) (node_in sides.here path) None)) (node_filtered (is_left_out sides) sides.logged path)
      ∙ by (is_left_out sides path) (node_in sides.here path) (node_in sides.logged path)
    where
      by : (b : Bool) (h l : Option Node) → option_or (cond (not b) h None) (cond b l None) ≡ cond b l h
      by true h l = refl
      by false None l = refl
      by false (Some h) l = refl

  pub standing_order : JobRowsAreInOrder (standing sides)
  standing_order =
      order_woven (filter (λ row. not (is_left_out sides row.path)) sides.here) (filter (λ row. is_left_out sides row.path) sides.logged)
      (order_filter (λ row. not (is_left_out sides row.path)) sides.here are.here.in_order)
      (order_filter (λ row. is_left_out sides row.path) sides.logged are.logged.in_order)

  stands_here : (path : FilePath) → is_left_out sides path ≡ false → node_in (standing sides) path ≡ node_in sides.here path
  stands_here path e = standing_nodes path ∙ ap (λ b. cond b (node_in sides.logged path) (node_in sides.here path)) e

  stands_logged : (path : FilePath) → is_left_out sides path ≡ true → node_in (standing sides) path ≡ node_in sides.logged path
  stands_logged path e = standing_nodes path ∙ ap (λ b. cond b (node_in sides.logged path) (node_in sides.here path)) e

  -- the folder of what is left out itself
  folder_beside : (paths : List FilePath) (path : FilePath)
      → AllByRecursion (λ c. (is_folder_in sides.here (folder_of c) ≡ true) × (node_in sides.here c ≡ None)) paths
      → list_any (is_within path) paths ≡ true → list_any (is_within (folder_of path)) paths ≡ false → is_folder_in sides.here (folder_of path) ≡ true
  folder_beside [] path all inside outside = absurd (true≢false (sym inside))
  folder_beside (c ∷ cs) path all inside outside =
      let out = or_false_of (is_within (folder_of path) c) (list_any (is_within (folder_of path)) cs) outside in
      by (is_within path c) refl inside out.0 (λ more. folder_beside cs path all.1 more out.1)
    where
      by : (b : Bool) → is_within path c ≡ b → (b || list_any (is_within path) cs) ≡ true → is_within (folder_of path) c ≡ false
          → (list_any (is_within path) cs ≡ true → is_folder_in sides.here (folder_of path) ≡ true) → is_folder_in sides.here (folder_of path) ≡ true
      by true e inside out more = subst (λ p. is_folder_in sides.here (folder_of p) ≡ true) (sym (within_itself path c e out)) all.0.0
      by false e inside out more = more inside

  in_out : (path : FilePath) (cs : List FilePath) → list_any (is_within (folder_of path)) cs ≡ true → list_any (is_within path) cs ≡ true
  in_out path [] h = absurd (true≢false (sym h))
  in_out path (c ∷ cs) h = by (is_within (folder_of path) c) refl h (in_out path cs)
    where
      by : (b : Bool) → is_within (folder_of path) c ≡ b → (b || list_any (is_within (folder_of path)) cs) ≡ true
          → (list_any (is_within (folder_of path)) cs ≡ true → list_any (is_within path) cs ≡ true) → (is_within path c || list_any (is_within path) cs) ≡ true
      by true e h more = ap (λ b. b || list_any (is_within path) cs) (within_down path c e)
      by false e h more = or_true (is_within path c) (list_any (is_within path) cs) (more h)

  folder_stands : (path : FilePath) → is_root (folder_of path) ≡ false → is_some (node_in (standing sides) path) ≡ true
      → is_folder_node (node_in (standing sides) (folder_of path)) ≡ true
  folder_stands path inner some = by (is_left_out sides path) refl (is_left_out sides (folder_of path)) refl
    where
      by : (b : Bool) → is_left_out sides path ≡ b → (c : Bool) → is_left_out sides (folder_of path) ≡ c
          → is_folder_node (node_in (standing sides) (folder_of path)) ≡ true
      by true e true f =
          ap is_folder_node (stands_logged (folder_of path) f
          ∙ above sides.logged path are.logged (sym (ap is_some (stands_logged path e)) ∙ some) inner)
      by true e false f =
          let folder = folder_beside sides.beside path are.beside e f in
          ap is_folder_node (stands_here (folder_of path) f)
          ∙ sym (ap (λ b. b || is_folder_node (node_in sides.here (folder_of path))) inner) ∙ folder
      by false e true f = absurd (true≢false (sym (in_out path sides.beside f) ∙ e))
      by false e false f =
          ap is_folder_node (stands_here (folder_of path) f
          ∙ above sides.here path are.here (sym (ap is_some (stands_here path e)) ∙ some) inner)

  pub standing_tree : AreJobRows (standing sides)
  standing_tree = record {
    in_order = standing_order;
    each =
        all_woven IsJobRow (filter (λ row. not (is_left_out sides row.path)) sides.here) (filter (λ row. is_left_out sides row.path) sides.logged)
        (all_filter IsJobRow (λ row. not (is_left_out sides row.path)) sides.here are.here.each)
        (all_filter IsJobRow (λ row. is_left_out sides row.path) sides.logged are.logged.each);
    in_folders = λ path some. by path (is_root (folder_of path)) refl some;
  }
    where
      by : (path : FilePath) (b : Bool) → is_root (folder_of path) ≡ b → is_some (node_in (standing sides) path) ≡ true → is_folder_in (standing sides) (folder_of path) ≡ true
      by path true e some = ap (λ b. b || is_folder_node (node_in (standing sides) (folder_of path))) e
      by path false e some =
          or_true (is_root (folder_of path)) (is_folder_node (node_in (standing sides) (folder_of path))) (folder_stands path e some)

-- ---- what is taken

taken_parts : (sides : Sides) (effects : List Effect) → taken sides ≡ Ok effects
    → (are_same_rows sides.laid sides.logged ≡ true) × (changes sides.logged (standing sides) ≡ effects)
taken_parts sides effects h = by (are_same_rows sides.laid sides.logged) refl h
  where
    by : (b : Bool) → are_same_rows sides.laid sides.logged ≡ b
        → unless_refused (when (not b) NotLaid ∷ []) (changes sides.logged (standing sides)) ≡ Ok effects
        → (are_same_rows sides.laid sides.logged ≡ true) × (changes sides.logged (standing sides) ≡ effects)
    by true e h = let same : changes sides.logged (standing sides) ≡ effects = cc in (e, same)
    by false e h = absurd cc

pub taken_was_laid : TakesAreOfWhatWasLaid
taken_was_laid sides effects h = same_rows_are sides.laid sides.logged (taken_parts sides effects h).0

pub taken_is : TakenIsTheFolder
taken_is sides effects old new are logged path out =
    let parts = taken_parts sides effects logged.taken in
    leads sides.logged (standing sides) old new are.logged (standing_tree sides are)
    (ap (λ es. apply_all 0 es old) parts.1 ∙ logged.applied) path (logged.nodes path)
    ∙ standing_nodes sides are path ∙ ap (λ b. cond b (node_in sides.logged path) (node_in sides.here path)) out

pub taken_spares : TakesSpareOthers
taken_spares sides effects old new are logged path as_before =
    let parts = taken_parts sides effects logged.taken in
    leaves sides.logged (standing sides) old new are.logged (standing_tree sides are)
    (ap (λ es. apply_all 0 es old) parts.1 ∙ logged.applied) path
    (sym (standing_nodes sides are path ∙ by (is_left_out sides path) refl as_before))
  where
    by : (b : Bool) → is_left_out sides path ≡ b → (is_left_out sides path ≡ true) ⊎ (node_in sides.here path ≡ node_in sides.laid path)
        → cond b (node_in sides.logged path) (node_in sides.here path) ≡ node_in sides.logged path
    by true e h = refl
    by false e (inl out) = absurd (true≢false (sym out ∙ e))
    by false e (inr same) = same ∙ ap (λ rows. node_in rows path) (taken_was_laid sides effects logged.taken)

pub own_taken : OwnIsTaken
own_taken sides effects old new are behind logged path out own =
    taken_is (behind_lay sides) effects old new behind logged path out
    ∙ merged_nodes sides are path ∙ ap (λ b. cond b (node_in sides.here path) (node_in sides.logged path)) (ap stays own)

-- ---- nothing to do

none_of_all : (f : JobRow → Option Step) (rows : List JobRow) → AllByRecursion (λ row. f row ≡ None) rows → filter_map f rows ≡ []
none_of_all f [] all = refl
none_of_all f (row ∷ rows) all = ap (λ o. cons_option o (filter_map f rows)) all.0 ∙ none_of_all f rows all.1

pub nothing_to_do : (rows : List JobRow) → AreJobRows rows → steps rows rows ≡ []
nothing_to_do rows are =
    let found = are_found rows (are_distinct rows are.in_order) in
    ap (λ l. l ++ filter_map (putting rows) rows)
    (none_of_all (removal rows) (reverse rows) (all_reverse (λ row. removal rows row ≡ None) rows
    (all_map (λ row. node_in rows row.path ≡ Some row.node) (λ row. removal rows row ≡ None) not_removed rows found)))
    ∙ none_of_all (putting rows) rows
    (all_map (λ row. node_in rows row.path ≡ Some row.node) (λ row. putting rows row ≡ None) not_put rows found)
  where
    not_removed : (row : JobRow) → node_in rows row.path ≡ Some row.node → removal rows row ≡ None
    not_removed row found =
        let kept : is_gone rows row ≡ false = ap (λ o. not (has_kind row.node o)) found ∙ kind_stays row.node in
        rw kept refl

    not_put : (row : JobRow) → node_in rows row.path ≡ Some row.node → putting rows row ≡ None
    not_put row found =
        let same : is_same (Some row.node) (node_in rows row.path) ≡ true = ap (is_same (Some row.node)) found ∙ is_same_itself (Some row.node) in
        rw same refl

-- what has no row has none here
nothing_taken : (rows : List JobRow) (paths : List FilePath) (path : FilePath)
    → AllByRecursion (λ c. (is_folder_in rows (folder_of c) ≡ true) × (node_in rows c ≡ None)) paths
    → list_any (λ other. is_same_path other path) paths ≡ true → node_in rows path ≡ None
nothing_taken rows [] path all h = absurd (true≢false (sym h))
nothing_taken rows (c ∷ cs) path all h = by (is_same_path c path) refl h (nothing_taken rows cs path all.1)
  where
    by : (b : Bool) → is_same_path c path ≡ b → (b || list_any (λ other. is_same_path other path) cs) ≡ true
        → (list_any (λ other. is_same_path other path) cs ≡ true → node_in rows path ≡ None) → node_in rows path ≡ None
    by true e h more = subst (λ p. node_in rows p ≡ None) (tied_path c path e) all.0.1
    by false e h more = more h

pub lay_idle : LayBehindTakeIsIdle
lay_idle sides are same =
    ap (steps sides.here) (same_rows (merged sides) sides.here (merged_order sides are) are.here.in_order nodes) ∙ nothing_to_do sides.here are.here
  where
    one : (path : FilePath) → node_in sides.here path ≡ node_in sides.logged path
    one path = ap (λ rows. node_in rows path) same

    within_same : (path : FilePath) → end_within (end_alone sides path) (stays_in sides path) (comes_in sides path) (node_in sides.here path) (node_in sides.logged path) ≡ Same
    within_same path =
        ap (λ a. end_within a (stays_in sides path) (comes_in sides path) (node_in sides.here path) (node_in sides.logged path))
        (alone_same (node_in sides.laid path) (node_in sides.here path) (node_in sides.logged path) (one path))

    clear : (path : FilePath) → (b : Bool) → is_taken sides path ≡ b → (b && is_some (node_in sides.logged path)) ≡ false
    clear path true e = ap is_some (sym (one path) ∙ nothing_taken sides.here sides.beside path are.beside e)
    clear path false e = refl

    is_clear : (path : FilePath) → (is_taken sides path && is_some (node_in sides.logged path)) ≡ false
    is_clear path = clear path (is_taken sides path) refl

    end : (path : FilePath) → end_of sides path ≡ Same
    end path =
        ap (λ b. cond b Both (end_within (end_alone sides path) (stays_in sides path) (comes_in sides path) (node_in sides.here path) (node_in sides.logged path))) (is_clear path)
        ∙ within_same path

    nodes : (path : FilePath) → node_in (merged sides) path ≡ node_in sides.here path
    nodes path =
        merged_nodes sides are path ∙ ap (λ b. cond b (node_in sides.here path) (node_in sides.logged path)) (ap stays (end path)) ∙ sym (one path)

pub take_idle : TakeBehindLayIsIdle
take_idle sides are none =
    let all = same_rows (merged sides) sides.logged (merged_order sides are) are.logged.in_order merged_is in
    let stands = same_rows (standing (behind_lay sides)) sides.logged standing_in_order are.logged.in_order (standing_is all) in
    ap (λ b. unless_refused (when (not b) NotLaid ∷ []) (changes sides.logged (standing (behind_lay sides)))) (are_same_themselves sides.logged)
    ∙ ap (λ rows. Ok (changes sides.logged rows)) stands ∙ ap (λ es. Ok es) (nothing sides.logged are.logged)
  where
    merged_is : (path : FilePath) → node_in (merged sides) path ≡ node_in sides.logged path
    merged_is path = merged_nodes sides are path ∙ ap (λ b. cond b (node_in sides.here path) (node_in sides.logged path)) (none path)

    standing_in_order : JobRowsAreInOrder (standing (behind_lay sides))
    standing_in_order =
        order_woven (filter (λ row. not (is_left_out sides row.path)) (merged sides)) (filter (λ row. is_left_out sides row.path) sides.logged)
        (order_filter (λ row. not (is_left_out sides row.path)) (merged sides) (merged_order sides are))
        (order_filter (λ row. is_left_out sides row.path) sides.logged are.logged.in_order)

    standing_is : merged sides ≡ sides.logged → (path : FilePath) → node_in (standing (behind_lay sides)) path ≡ node_in sides.logged path
    standing_is all path =
        node_woven (filter (λ row. not (is_left_out sides row.path)) (merged sides)) (filter (λ row. is_left_out sides row.path) sides.logged)
        (order_filter (λ row. not (is_left_out sides row.path)) (merged sides) (merged_order sides are)) path
        ∙ ap (λ o. option_or o (node_in (filter (λ row. is_left_out sides row.path) sides.logged) path))
        (node_filtered (λ p. not (is_left_out sides p)) (merged sides) path ∙ ap (λ rows. cond (not (is_left_out sides path)) (node_in rows path) None) all)
        ∙ ap (option_or (cond (not (is_left_out sides path)) (node_in sides.logged path) None)) (node_filtered (is_left_out sides) sides.logged path)
        ∙ by (is_left_out sides path) (node_in sides.logged path)
      where
        by : (b : Bool) (l : Option Node) → option_or (cond (not b) l None) (cond b l None) ≡ l
        by true l = refl
        by false None = refl
        by false (Some l) = refl
