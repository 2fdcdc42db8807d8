-- Where no two changes meet, what is laid leaves the rows of a tree.
use Rattle.std.proofs.Common.{◌≡◌, ◌⊎◌, inl, inr, Bool, true, false, not, ◌||◌, ◌&&◌, List, [], ◌∷◌, filter, Option, Some, None, is_some, cond, refl, sym, ap, ◌∙◌}
use Rattle.std.proofs.Common.{true≢false}
use Rattle.std.specs.List.{list_any, AllByRecursion}
use Rattle.std.specs.Option.{option_or}
use Rattle.byte_fields.proofs.Facts.{and_of, and_holds, or_true}
use Rattle.file_paths.specs.Path.{FilePath, folder_of}
use Rattle.file_paths.proofs.Order.{tied_path}
use Rattle.tree_values.specs.Tree.{is_root, is_folder_node}
use Rattle.tree_values.specs.declared.node.Node.{Node}
use Rattle.tree_values.specs.declared.node.Node.TheVariants.{Folder, File}
use Rattle.cmd_capture.specs.declared.job.JobRow.{JobRow}
use Rattle.cmd_capture.specs.Rows.{is_job_row_at, node_in, is_folder_in, IsJobRow, JobRowsAreInOrder, AreJobRows}
use Rattle.folder_sides.specs.declared.sides.Sides.{Sides}
use Rattle.folder_sides.specs.declared.ends.End.{End}
use Rattle.folder_sides.specs.declared.ends.End.TheVariants.{Same, Lay, Own, Both}
use Rattle.folder_sides.specs.Sides.{AreSides, end_alone, end_of, is_below, is_own, is_lay, is_own_below, is_laid_below, stays_in, comes_in, HasNoConflict}
use Rattle.folder_sides.specs.Merging.{stays, is_left, picked, merged}
use Rattle.folder_sides.proofs.Lists.{any_more, any_there, node_filtered, node_woven, order_filter, order_woven, all_filter, all_woven}
use Rattle.folder_sides.proofs.EndCases.{same_end, lay_end, own_end_of, not_both, same_by, alone_same}
use Rattle.folder_sides.proofs.Below.{up_below, own_below}

-- ---- the rows of a tree

-- a path with a node is not the root
pub below_root : (rows : List JobRow) (path : FilePath) → AllByRecursion IsJobRow rows → is_some (node_in rows path) ≡ true → is_root path ≡ false
below_root [] path all some = absurd (true≢false (sym some))
below_root (row ∷ rows) path all some = by (is_job_row_at path row) refl (below_root rows path all.1)
  where
    by : (b : Bool) → is_job_row_at path row ≡ b → (is_some (node_in rows path) ≡ true → is_root path ≡ false) → is_root path ≡ false
    by true e more = ap is_root (sym (tied_path row.path path e)) ∙ all.0.below_root
    by false e more =
        let there : node_in (row ∷ rows) path ≡ node_in rows path = rw e refl in
        more (sym (ap is_some there) ∙ some)

pub folder_is : (o : Option Node) → is_folder_node o ≡ true → o ≡ Some Folder
folder_is None h = absurd (true≢false (sym h))
folder_is (Some Folder) h = refl
folder_is (Some (File content exec)) h = absurd (true≢false (sym h))

-- the folder of a path with a node is the root, or a folder
pub above : (rows : List JobRow) (path : FilePath) → AreJobRows rows → is_some (node_in rows path) ≡ true → is_root (folder_of path) ≡ false
    → node_in rows (folder_of path) ≡ Some Folder
above rows path are some low =
    folder_is (node_in rows (folder_of path))
    (sym (ap (λ b. b || is_folder_node (node_in rows (folder_of path))) low) ∙ are.in_folders path some)

-- ---- what stands behind the laying

pub merged_nodes : (sides : Sides) → AreSides sides → (path : FilePath) → node_in (merged sides) path ≡ picked sides path
merged_nodes sides are path =
    node_woven (filter (λ row. is_left sides row.path) sides.here) (filter (λ row. not (is_left sides row.path)) sides.logged)
    (order_filter (λ row. is_left sides row.path) sides.here are.here.in_order) path
    ∙ ap (λ o. option_or o (node_in (filter (λ row. not (is_left sides row.path)) sides.logged) path)) (node_filtered (is_left sides) sides.here path)
    ∙ ap (option_or (cond (is_left sides path) (node_in sides.here path) None)) (node_filtered (λ p. not (is_left sides p)) sides.logged path)
    ∙ by (is_left sides path) (node_in sides.here path) (node_in sides.logged path)
  where
    by : (b : Bool) (h l : Option Node) → option_or (cond b h None) (cond (not b) l None) ≡ cond b h l
    by true None l = refl
    by true (Some h) l = refl
    by false h l = refl

pub merged_each : (sides : Sides) → AreSides sides → AllByRecursion IsJobRow (merged sides)
merged_each sides are =
    all_woven IsJobRow (filter (λ row. is_left sides row.path) sides.here) (filter (λ row. not (is_left sides row.path)) sides.logged)
    (all_filter IsJobRow (λ row. is_left sides row.path) sides.here are.here.each)
    (all_filter IsJobRow (λ row. not (is_left sides row.path)) sides.logged are.logged.each)

pub merged_order : (sides : Sides) → AreSides sides → JobRowsAreInOrder (merged sides)
merged_order sides are =
    order_woven (filter (λ row. is_left sides row.path) sides.here) (filter (λ row. not (is_left sides row.path)) sides.logged)
    (order_filter (λ row. is_left sides row.path) sides.here are.here.in_order)
    (order_filter (λ row. not (is_left sides row.path)) sides.logged are.logged.in_order)

module _ (sides : Sides) (are : AreSides sides) (none : HasNoConflict sides) where
  abbrev own_there : FilePath → Bool
  own_there folder = list_any (λ row. is_own_below sides folder row.path) sides.here

  abbrev odd_there : FilePath → Bool
  odd_there folder = list_any (λ other. is_below other folder) sides.beside

  -- something stays in the folder of what is the user's own
  stays_above : (path : FilePath) → is_root path ≡ false → node_in sides.here (folder_of path) ≡ Some Folder
      → is_some (node_in sides.here path) ≡ true → end_of sides path ≡ Own → stays_in sides (folder_of path) ≡ true
  stays_above path low folder some own =
      and_holds (is_folder_node (node_in sides.here (folder_of path))) (own_there (folder_of path) || odd_there (folder_of path)) (ap is_folder_node folder) (elim (own_end_of sides path own) [
        | inl e ↦ first
            (any_there (is_own_below sides (folder_of path)) sides.here path some
            (and_holds (is_below path (folder_of path)) (is_own (end_alone sides path)) (own_below path low) (ap is_own e.0)))
        | inr e ↦ inside (and_of (is_folder_node (node_in sides.here path)) _ e.1).1
      ])
    where
      first : own_there (folder_of path) ≡ true → (own_there (folder_of path) || odd_there (folder_of path)) ≡ true
      first h = ap (λ b. b || odd_there (folder_of path)) h

      inside : (own_there path || odd_there path) ≡ true → (own_there (folder_of path) || odd_there (folder_of path)) ≡ true
      inside h = by (own_there path) refl h
        where
          by : (b : Bool) → own_there path ≡ b → (b || odd_there path) ≡ true → (own_there (folder_of path) || odd_there (folder_of path)) ≡ true
          by true e h =
              first (any_more (λ row. is_own_below sides path row.path) (λ row. is_own_below sides (folder_of path) row.path)
              (λ row holds.
              let parts = and_of (is_below row.path path) (is_own (end_alone sides row.path)) holds in
              and_holds (is_below row.path (folder_of path)) (is_own (end_alone sides row.path)) (up_below row.path path parts.0) parts.1) sides.here e)
          by false e h =
              or_true (own_there (folder_of path)) (odd_there (folder_of path))
              (any_more (λ other. is_below other path) (λ other. is_below other (folder_of path)) (λ other holds. up_below other path holds) sides.beside h)

  -- something comes in the folder of what is laid
  comes_above : (path : FilePath) → is_root path ≡ false → node_in sides.logged (folder_of path) ≡ Some Folder
      → is_some (node_in sides.logged path) ≡ true → end_of sides path ≡ Lay → comes_in sides (folder_of path) ≡ true
  comes_above path low folder some lay =
      and_holds (is_folder_node (node_in sides.logged (folder_of path))) (list_any (λ row. is_laid_below sides (folder_of path) row.path) sides.logged) (ap is_folder_node folder) (elim (lay_end sides path lay) [
        | inl e ↦ any_there (is_laid_below sides (folder_of path)) sides.logged path some
            (and_holds (is_below path (folder_of path)) (is_lay (end_alone sides path)) (own_below path low) (ap is_lay e.0))
        | inr e ↦ any_more (λ row. is_laid_below sides path row.path) (λ row. is_laid_below sides (folder_of path) row.path)
            (λ row holds.
            let parts = and_of (is_below row.path path) (is_lay (end_alone sides row.path)) holds in
            and_holds (is_below row.path (folder_of path)) (is_lay (end_alone sides row.path)) (up_below row.path path parts.0) parts.1) sides.logged
            (and_of (is_folder_node (node_in sides.logged path)) _ e.1).1
      ])

  abbrev IsFolderPicked : FilePath → Type 0
  IsFolderPicked path = picked sides path ≡ Some Folder

  left_is : (path : FilePath) → is_left sides path ≡ true → picked sides path ≡ node_in sides.here path
  left_is path e = ap (λ b. cond b (node_in sides.here path) (node_in sides.logged path)) e

  laid_is : (path : FilePath) → is_left sides path ≡ false → picked sides path ≡ node_in sides.logged path
  laid_is path e = ap (λ b. cond b (node_in sides.here path) (node_in sides.logged path)) e

  some_not_none : (o : Option Node) → o ≡ Some Folder → o ≡ None → ⊥
  some_not_none o e n = true≢false (ap is_some (sym e ∙ n))

  -- the folder of what is the user's own
  own_folder : (path : FilePath) → is_root path ≡ false → is_root (folder_of path) ≡ false → is_some (node_in sides.here path) ≡ true
      → end_of sides path ≡ Own → IsFolderPicked (folder_of path)
  own_folder path low inner some own = by (end_of sides (folder_of path)) refl
    where
      folder : node_in sides.here (folder_of path) ≡ Some Folder
      folder = above sides.here path are.here some inner

      by : (e : End) → end_of sides (folder_of path) ≡ e → IsFolderPicked (folder_of path)
      by Own e = left_is (folder_of path) (ap stays e) ∙ folder
      by Both e = absurd (not_both sides (folder_of path) (none (folder_of path)) e)
      by Same e =
          laid_is (folder_of path) (ap stays e)
          ∙ sym (same_by (node_in sides.laid (folder_of path)) (node_in sides.here (folder_of path)) (node_in sides.logged (folder_of path)) (same_end sides (folder_of path) e))
          ∙ folder
      by Lay e = elim (lay_end sides (folder_of path) e) [
        | inl l ↦ absurd (true≢false (sym (stays_above path low folder some own) ∙ l.1))
        | inr l ↦ absurd (some_not_none (node_in sides.here (folder_of path)) folder l.2)
      ]

  -- the folder of what the log has
  laid_folder : (path : FilePath) → is_root path ≡ false → is_root (folder_of path) ≡ false → is_some (node_in sides.logged path) ≡ true
      → (end_of sides path ≡ Same) ⊎ (end_of sides path ≡ Lay) → IsFolderPicked (folder_of path)
  laid_folder path low inner some end = by (end_of sides (folder_of path)) refl
    where
      folder : node_in sides.logged (folder_of path) ≡ Some Folder
      folder = above sides.logged path are.logged some inner

      same_above : end_of sides path ≡ Same → end_alone sides (folder_of path) ≡ Same
      same_above e =
          let same = same_by (node_in sides.laid path) (node_in sides.here path) (node_in sides.logged path) (same_end sides path e) in
          let here = above sides.here path are.here (ap is_some same ∙ some) inner in
          alone_same (node_in sides.laid (folder_of path)) (node_in sides.here (folder_of path)) (node_in sides.logged (folder_of path)) (here ∙ sym folder)

      own_alone : end_alone sides (folder_of path) ≡ Own → comes_in sides (folder_of path) ≡ false → ⊥
      own_alone own comes = elim end [
        | inl e ↦ true≢false (sym (ap is_own (sym (same_above e) ∙ own)))
        | inr e ↦ true≢false (sym (comes_above path low folder some e) ∙ comes)
      ]

      by : (e : End) → end_of sides (folder_of path) ≡ e → IsFolderPicked (folder_of path)
      by Same e = laid_is (folder_of path) (ap stays e) ∙ folder
      by Lay e = laid_is (folder_of path) (ap stays e) ∙ folder
      by Both e = absurd (not_both sides (folder_of path) (none (folder_of path)) e)
      by Own e = elim (own_end_of sides (folder_of path) e) [
        | inl l ↦ absurd (own_alone l.0 l.1)
        | inr l ↦ absurd (some_not_none (node_in sides.logged (folder_of path)) folder l.2)
      ]

  -- the folder of what is picked is picked
  picked_folder : (path : FilePath) → is_root (folder_of path) ≡ false → is_some (picked sides path) ≡ true → IsFolderPicked (folder_of path)
  picked_folder path inner some = by (end_of sides path) refl
    where
      here : end_of sides path ≡ Own → is_some (node_in sides.here path) ≡ true
      here e = sym (ap is_some (left_is path (ap stays e))) ∙ some

      logged : is_left sides path ≡ false → is_some (node_in sides.logged path) ≡ true
      logged e = sym (ap is_some (laid_is path e)) ∙ some

      by : (e : End) → end_of sides path ≡ e → IsFolderPicked (folder_of path)
      by Own e = own_folder path (below_root sides.here path are.here.each (here e)) inner (here e) e
      by Both e = absurd (not_both sides path (none path) e)
      by Same e = laid_folder path (below_root sides.logged path are.logged.each (logged (ap stays e))) inner (logged (ap stays e)) (inl e)
      by Lay e = laid_folder path (below_root sides.logged path are.logged.each (logged (ap stays e))) inner (logged (ap stays e)) (inr e)

  pub merged_tree : AreJobRows (merged sides)
  merged_tree = record {
    in_order = merged_order sides are;
    each = merged_each sides are;
    in_folders = λ path some. by path (is_root (folder_of path)) refl (sym (ap is_some (merged_nodes sides are path)) ∙ some);
  }
    where
      by : (path : FilePath) (b : Bool) → is_root (folder_of path) ≡ b → is_some (picked sides path) ≡ true → is_folder_in (merged sides) (folder_of path) ≡ true
      by path true e some = ap (λ b. b || is_folder_node (node_in (merged sides) (folder_of path))) e
      by path false e some =
          or_true (is_root (folder_of path)) (is_folder_node (node_in (merged sides) (folder_of path)))
          (ap is_folder_node (merged_nodes sides are (folder_of path) ∙ picked_folder path e some))
