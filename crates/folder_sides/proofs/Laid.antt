-- What stands behind a laying, and that none of it is lost.
use Rattle.std.proofs.Common.{◌≡◌, ◌⊎◌, inl, inr, Bool, true, false, not, ◌||◌, ◌&&◌, List, [], ◌∷◌, ◌++◌, Option, Some, None, is_some, cond, refl, sym, ap, ◌∙◌}
use Rattle.std.proofs.Common.{true≢false}
use Rattle.std.specs.List.{list_any, filter_map, cons_option}
use Rattle.byte_fields.proofs.Facts.{and_of}
use Rattle.file_paths.specs.Path.{FilePath, is_same_path}
use Rattle.file_paths.proofs.Order.{tied_path}
use Rattle.tree_values.specs.Tree.{is_folder_node}
use Rattle.tree_values.specs.declared.node.Node.{Node}
use Rattle.cmd_capture.specs.declared.job.JobRow.{JobRow}
use Rattle.cmd_capture.specs.Rows.{is_job_row_at, node_in}
use Rattle.folder_sides.specs.declared.sides.Sides.{Sides}
use Rattle.folder_sides.specs.declared.ends.End.{End}
use Rattle.folder_sides.specs.declared.ends.End.TheVariants.{Same, Lay, Own, Both}
use Rattle.folder_sides.specs.Sides.{AreSides, is_same, end_by, end_alone, end_within, end_of, is_both, is_conflict, conflict_at, is_taken, stays_in, comes_in, HasNoConflict}
use Rattle.folder_sides.specs.Merging.{stays, merged}
use Rattle.folder_sides.specs.Laws.{ConflictsAreTold, SidesAreATree, LaidIsTheTree, NothingIsLost, NothingIsTakenBack}
use Rattle.folder_sides.proofs.EndCases.{same_end, lay_end, own_end_of, not_both, same_by, lay_by, own_by}
use Rattle.folder_sides.proofs.Trees.{merged_nodes, merged_tree}

pub are_a_tree : SidesAreATree
are_a_tree sides are none = merged_tree sides are none

module _ (sides : Sides) (are : AreSides sides) (none : HasNoConflict sides) (path : FilePath) where
  abbrev here : Option Node
  here = node_in sides.here path

  abbrev laid : Option Node
  laid = node_in sides.laid path

  abbrev logged : Option Node
  logged = node_in sides.logged path

  left_there : end_of sides path ≡ Own → node_in (merged sides) path ≡ here
  left_there e = merged_nodes sides are path ∙ ap (λ b. cond b here logged) (ap stays e)

  laid_there : (e : End) → end_of sides path ≡ e → stays e ≡ false → node_in (merged sides) path ≡ logged
  laid_there e is gone = merged_nodes sides are path ∙ ap (λ b. cond b here logged) (ap stays is ∙ gone)

  laid_is_by : (e : End) → end_of sides path ≡ e
      → (node_in (merged sides) path ≡ logged) ⊎ ((end_of sides path ≡ Own) × (node_in (merged sides) path ≡ here))
  laid_is_by Same e = inl (laid_there Same e refl)
  laid_is_by Lay e = inl (laid_there Lay e refl)
  laid_is_by Own e = inr (e, left_there e)
  laid_is_by Both e = absurd (not_both sides path (none path) e)

  here_by : (here ≡ laid) ⊎ (here ≡ None) → (node_in (merged sides) path ≡ here) ⊎ (here ≡ None) ⊎ (here ≡ laid)
  here_by (inl e) = inr (inr e)
  here_by (inr e) = inr (inl e)

  lost_by : (e : End) → end_of sides path ≡ e → (node_in (merged sides) path ≡ here) ⊎ (here ≡ None) ⊎ (here ≡ laid)
  lost_by Same e = inl (laid_there Same e refl ∙ sym (same_by laid here logged (same_end sides path e)))
  lost_by Lay e = elim (lay_end sides path e) [
    | inl l ↦ here_by (lay_by laid here logged l.0)
    | inr l ↦ inr (inl l.2)
  ]
  lost_by Own e = inl (left_there e)
  lost_by Both e = absurd (not_both sides path (none path) e)

  logged_by : (logged ≡ laid) ⊎ (logged ≡ None) → (node_in (merged sides) path ≡ logged) ⊎ (logged ≡ None) ⊎ (logged ≡ laid)
  logged_by (inl e) = inr (inr e)
  logged_by (inr e) = inr (inl e)

  back_by : (e : End) → end_of sides path ≡ e → (node_in (merged sides) path ≡ logged) ⊎ (logged ≡ None) ⊎ (logged ≡ laid)
  back_by Same e = inl (laid_there Same e refl)
  back_by Lay e = inl (laid_there Lay e refl)
  back_by Own e = elim (own_end_of sides path e) [
    | inl l ↦ logged_by (own_by laid here logged l.0)
    | inr l ↦ inr (inl l.2)
  ]
  back_by Both e = absurd (not_both sides path (none path) e)

pub laid_is : LaidIsTheTree
laid_is sides are none path = laid_is_by sides are none path (end_of sides path) refl

pub none_lost : NothingIsLost
none_lost sides are none path = lost_by sides are none path (end_of sides path) refl

pub none_taken_back : NothingIsTakenBack
none_taken_back sides are none path = back_by sides are none path (end_of sides path) refl

-- ---- conflicts are told

none_found : {X Y : Type 0} (f : X → Option Y) (x : X) (xs : List X) → filter_map f (x ∷ xs) ≡ [] → (f x ≡ None) × (filter_map f xs ≡ [])
none_found {Y = Y} f x xs h = by (f x) (filter_map f xs) h
  where
    by : (o : Option Y) (ys : List Y) → cons_option o ys ≡ [] → (o ≡ None) × (ys ≡ [])
    by None ys h = (refl, h)
    by (Some y) ys h = absurd cc

no_parts : {X : Type 0} (xs ys : List X) → xs ++ ys ≡ [] → (xs ≡ []) × (ys ≡ [])
no_parts [] ys h = (refl, h)
no_parts (x ∷ xs) ys h = absurd cc

module _ (sides : Sides) where
  told : (path : FilePath) → conflict_at sides path ≡ None → is_conflict sides path ≡ false
  told path h = by (is_conflict sides path) refl h
    where
      by : (b : Bool) → is_conflict sides path ≡ b → cond b (Some path) None ≡ None → is_conflict sides path ≡ false
      by true e h = absurd cc
      by false e h = e

  told_here : (rows : List JobRow) (path : FilePath) → filter_map (λ row. conflict_at sides row.path) rows ≡ [] → is_some (node_in rows path) ≡ true
      → is_conflict sides path ≡ false
  told_here [] path none some = absurd (true≢false (sym some))
  told_here (row ∷ rows) path none some =
      let parts = none_found (λ row. conflict_at sides row.path) row rows none in
      by (is_job_row_at path row) refl parts.0 (told_here rows path parts.1)
    where
      by : (b : Bool) → is_job_row_at path row ≡ b → conflict_at sides row.path ≡ None
          → (is_some (node_in rows path) ≡ true → is_conflict sides path ≡ false) → is_conflict sides path ≡ false
      by true e first more = ap (is_conflict sides) (sym (tied_path row.path path e)) ∙ told row.path first
      by false e first more =
          let there : node_in (row ∷ rows) path ≡ node_in rows path = rw e refl in
          more (sym (ap is_some there) ∙ some)

  told_beside : (paths : List FilePath) (path : FilePath) → filter_map (conflict_at sides) paths ≡ []
      → list_any (λ other. is_same_path other path) paths ≡ true → is_conflict sides path ≡ false
  told_beside [] path none some = absurd (true≢false (sym some))
  told_beside (other ∷ paths) path none some =
      let parts = none_found (conflict_at sides) other paths none in
      by (is_same_path other path) refl some parts.0 (told_beside paths path parts.1)
    where
      by : (b : Bool) → is_same_path other path ≡ b → (b || list_any (λ other. is_same_path other path) paths) ≡ true
          → conflict_at sides other ≡ None → (list_any (λ other. is_same_path other path) paths ≡ true → is_conflict sides path ≡ false)
          → is_conflict sides path ≡ false
      by true e some first more = ap (is_conflict sides) (sym (tied_path other path e)) ∙ told other first
      by false e some first more = more some

  some_folder : (o : Option Node) → is_folder_node o ≡ true → is_some o ≡ true
  some_folder None h = absurd (true≢false (sym h))
  some_folder (Some node) h = refl

  module _ (path : FilePath) where
    both_alone : (laid here logged : Option Node) → is_some here ≡ false → end_by laid here logged ≡ Both → ⊥
    both_alone laid here logged none h = by (is_same here logged) (is_same here laid) (is_same logged laid) (not (is_some here)) (not (is_some logged)) (ap not none) h
      where
        by : (a b c d e : Bool) → d ≡ true → cond a Same (cond b Lay (cond c Own (cond d Lay (cond e Own Both)))) ≡ Both → ⊥
        by true b c d e n h = absurd cc
        by false true c d e n h = absurd cc
        by false false true d e n h = absurd cc
        by false false false true e n h = absurd cc
        by false false false false e n h = absurd (true≢false (sym n))

    -- something stands here where both are changes
    both_within : (alone : End) (s c : Bool) (h l : Option Node) → (s ≡ true → is_some h ≡ true) → (alone ≡ Both → is_some h ≡ true)
        → end_within alone s c h l ≡ Both → is_some h ≡ true
    both_within Same s c h l stay alone e = absurd cc
    both_within Lay true c h l stay alone e = stay refl
    both_within Lay false c h l stay alone e = absurd cc
    both_within Own s true None l stay alone e = absurd cc
    both_within Own s true (Some h) l stay alone e = refl
    both_within Own s false h l stay alone e = absurd cc
    both_within Both s c h l stay alone e = alone refl

    alone_both : end_alone sides path ≡ Both → is_some (node_in sides.here path) ≡ true
    alone_both e = by (is_some (node_in sides.here path)) refl
      where
        by : (b : Bool) → is_some (node_in sides.here path) ≡ b → is_some (node_in sides.here path) ≡ true
        by true is = is
        by false is = absurd (both_alone (node_in sides.laid path) (node_in sides.here path) (node_in sides.logged path) is e)

    stands : stays_in sides path ≡ true → is_some (node_in sides.here path) ≡ true
    stands h = some_folder (node_in sides.here path) (and_of (is_folder_node (node_in sides.here path)) _ h).0

    both_is : (e : End) → is_both e ≡ true → e ≡ Both
    both_is Same h = absurd (true≢false (sym h))
    both_is Lay h = absurd (true≢false (sym h))
    both_is Own h = absurd (true≢false (sym h))
    both_is Both h = refl

    none_there : filter_map (λ row. conflict_at sides row.path) sides.here ≡ [] → filter_map (conflict_at sides) sides.beside ≡ []
        → is_conflict sides path ≡ false
    none_there rows paths = by (is_taken sides path) refl (is_conflict sides path) refl
      where
        by : (t : Bool) → is_taken sides path ≡ t → (b : Bool) → is_conflict sides path ≡ b → is_conflict sides path ≡ false
        by t at false e = e
        by true at true e = told_beside sides.beside path paths at
        by false at true e =
            let end : end_of sides path ≡ Both = both_is (end_of sides path) e in
            let within = ap (λ t. cond (t && is_some (node_in sides.logged path)) Both (end_within (end_alone sides path) (stays_in sides path) (comes_in sides path) (node_in sides.here path) (node_in sides.logged path))) (sym at) ∙ end in
            told_here sides.here path rows
            (both_within (end_alone sides path) (stays_in sides path) (comes_in sides path) (node_in sides.here path) (node_in sides.logged path) stands alone_both within)

pub conflicts_told : ConflictsAreTold
conflicts_told sides are none path =
    let parts = no_parts (filter_map (λ row. conflict_at sides row.path) sides.here) (filter_map (conflict_at sides) sides.beside) none in
    none_there sides path parts.0 parts.1
