-- A laying that was stopped goes on.
use Rattle.std.proofs.Common.{◌≡◌, ◌⊎◌, inl, inr, ℕ, zero, suc, ◌-◌, ◌<◌, ◌≤◌, Bool, true, false, ◌||◌, ◌&&◌, List, [], ◌∷◌, length, take, Option, Some, None, is_some, cond, refl, sym, ap, ◌∙◌, arith}
use Rattle.std.proofs.Common.{subst, true≢false}
use Rattle.std.specs.Prelude.{nat_lt}
use Rattle.std.specs.List.{list_any}
use Rattle.std.proofs.lemmas.Bool.{cases_lt}
use Rattle.std.proofs.lemmas.List.{take-take}
use Rattle.byte_fields.proofs.Facts.{and_of, and_holds, or_true, not_true, lt_holds, lt_of}
use Rattle.file_paths.specs.Path.{FilePath, folder_of}
use Rattle.tree_values.specs.Tree.{is_root, is_folder_node}
use Rattle.tree_values.specs.declared.node.Node.{Node}
use Rattle.tree_values.specs.declared.node.Node.TheVariants.{Folder, File}
use Rattle.cmd_capture.specs.declared.job.JobRow.{JobRow}
use Rattle.cmd_capture.specs.Rows.{node_in, AreJobRows}
use Rattle.work_area.specs.Changes.{has_kind}
use Rattle.work_area.specs.Jobs.{is_within}
use Rattle.work_area.proofs.JobRows.{are_distinct}
use Rattle.work_area.proofs.Unchanged.{AreFound, are_found}
use Rattle.folder_sides.specs.declared.sides.Sides.{Sides}
use Rattle.folder_sides.specs.declared.ends.End.{End}
use Rattle.folder_sides.specs.declared.ends.End.TheVariants.{Same, Lay, Own, Both}
use Rattle.folder_sides.specs.Sides.{AreSides, is_same, end_by, end_alone, end_within, end_of, is_below, is_own, is_lay, is_own_below, is_laid_below, stays_in, comes_in, is_taken, laid_end, own_end, is_both, is_conflict, HasNoConflict}
use Rattle.folder_sides.specs.Merging.{stays, picked, merged}
use Rattle.folder_sides.specs.Laws.{with_here, IsStopped, LaysGoOn}
use Rattle.folder_sides.proofs.Lists.{any_more, any_there, same_rows}
use Rattle.folder_sides.proofs.EndCases.{same_end, lay_end, own_end_of, not_both, same_by, lay_by, alone_same, same_is}
use Rattle.folder_sides.proofs.Below.{begins, within, folder_len}
use Rattle.folder_sides.proofs.Trees.{above, below_root, merged_nodes, merged_tree}
use Rattle.folder_sides.proofs.Stepping.{IsBetween, IsTakenAway, between}

-- ---- nothing stands below a path without a node

none_is : {X : Type 0} (o : Option X) → (is_some o ≡ true → ⊥) → o ≡ None
none_is None never = refl
none_is (Some x) never = absurd (never refl)

some_none : {X : Type 0} (o : Option X) (x : X) → o ≡ Some x → o ≡ None → ⊥
some_none o x e n = true≢false (sym (ap is_some (sym n ∙ e)))

nothing_below : (n : ℕ) (rows : List JobRow) (path folder : FilePath) → AreJobRows rows → length path ≤ n → is_root folder ≡ false
    → node_in rows folder ≡ None → is_below path folder ≡ true → is_some (node_in rows path) ≡ true → ⊥
nothing_below zero rows path folder are fits low none below some =
    let deep = lt_of (length folder) (length path) (and_of (is_within path folder) _ below).1 in
    omega (arith, fits, deep)
nothing_below (suc n) rows path folder are fits low none below some = elim (cases_lt (length folder) (length (folder_of path))) [
  | inl more ↦ nothing_below n rows (folder_of path) folder are (omega (arith, fits, folder_len path, deep)) low none (deeper more)
      (ap is_some (above rows path are some (not_root (folder_of path) (omega (arith, more)))))
  | inr no_more ↦ ends no_more
]
  where
    parts : (is_within path folder ≡ true) × (nat_lt (length folder) (length path) ≡ true)
    parts = and_of (is_within path folder) (nat_lt (length folder) (length path)) below

    deep : length folder < length path
    deep = lt_of (length folder) (length path) parts.1

    not_root : (p : FilePath) → 0 < length p → is_root p ≡ false
    not_root [] h = absurd (omega (arith, h))
    not_root (name ∷ p) h = refl

    within_front : (k : ℕ) (q : FilePath) → length folder ≤ k → is_within q folder ≡ true → is_within (take k q) folder ≡ true
    within_front k q long h =
        within (take k q) folder (begins q folder h ∙ sym (take-take (length folder) k q long))

    deeper : length folder < length (folder_of path) → is_below (folder_of path) folder ≡ true
    deeper more =
        and_holds (is_within (folder_of path) folder) (nat_lt (length folder) (length (folder_of path)))
        (within_front (length path - 1) path (omega (arith, folder_len path, more)) parts.0)
        (lt_holds (length folder) (length (folder_of path)) more)

    ends : length (folder_of path) ≤ length folder → ⊥
    ends no_more =
        let size : length folder ≡ length path - 1 = omega (arith, folder_len path, no_more, deep) in
        let same : folder ≡ folder_of path = begins path folder parts.0 ∙ ap (λ k. take k path) size in
        some_none (node_in rows folder) Folder
        (ap (node_in rows) same ∙ above rows path are some (ap is_root (sym same) ∙ low)) none

-- ---- what stands behind the first steps

kind_itself : (node : Node) → has_kind node (Some node) ≡ true
kind_itself Folder = refl
kind_itself (File content exec) = refl

any_found : (t : FilePath → Bool) (all rows : List JobRow) → AreFound all rows → list_any (λ row. t row.path) rows ≡ true
    → (path : FilePath) × (is_some (node_in all path) ≡ true) × (t path ≡ true)
any_found t all [] found h = absurd (true≢false (sym h))
any_found t all (row ∷ rows) found h = by (t row.path) refl h (any_found t all rows found.1)
  where
    by : (b : Bool) → t row.path ≡ b → (b || list_any (λ row. t row.path) rows) ≡ true
        → (list_any (λ row. t row.path) rows ≡ true → (path : FilePath) × (is_some (node_in all path) ≡ true) × (t path ≡ true))
        → (path : FilePath) × (is_some (node_in all path) ≡ true) × (t path ≡ true)
    by true e h more = (row.path, ap is_some found.0, e)
    by false e h more = more h

module _ (sides : Sides) (count : ℕ) (rows : List JobRow) (are : AreSides sides) (none : HasNoConflict sides) (stopped : IsStopped sides count rows) where
  abbrev now : Sides
  now = with_here sides rows

  module _ (path : FilePath) where
    abbrev laid : Option Node
    laid = node_in sides.laid path

    abbrev here : Option Node
    here = node_in sides.here path

    abbrev logged : Option Node
    logged = node_in sides.logged path

    abbrev there : Option Node
    there = node_in rows path

    fine : IsBetween sides.here (merged sides) path there
    fine =
        subst (IsBetween sides.here (merged sides) path) (sym (stopped.nodes path))
        (between sides.here (merged sides) path are.here (merged_tree sides are none) count)

    merged_is : (e : End) → end_of sides path ≡ e → node_in (merged sides) path ≡ cond (stays e) here logged
    merged_is e is = merged_nodes sides are path ∙ ap (λ b. cond b here logged) (ap stays is)

    -- what is one in the end is not taken away
    not_away : node_in (merged sides) path ≡ here → IsTakenAway sides.here (merged sides) path → ⊥
    not_away same away =
        true≢false (sym (kind_itself away.node) ∙ ap (has_kind away.node) (sym (same ∙ away.stood)) ∙ away.left)

    same_there : end_of sides path ≡ Same → there ≡ logged
    same_there e =
        let end = merged_is Same e in
        let same : here ≡ logged = same_by laid here logged (same_end sides path e) in
        elim fine [
          | inl h ↦ h ∙ same
          | inr more ↦ elim more [
            | inl h ↦ h ∙ end
            | inr h ↦ absurd (not_away (end ∙ sym same) h.1)
          ]
        ]

    own_there : end_of sides path ≡ Own → there ≡ here
    own_there e =
        let end = merged_is Own e in
        elim fine [
          | inl h ↦ h
          | inr more ↦ elim more [
            | inl h ↦ h ∙ end
            | inr h ↦ absurd (not_away end h.1)
          ]
        ]

    -- as it was, as it is to be, or taken away between the two
    lay_there : end_of sides path ≡ Lay
        → (there ≡ here) ⊎ (there ≡ logged) ⊎ ((there ≡ None) × ((node : Node) × (here ≡ Some node) × (has_kind node logged ≡ false)))
    lay_there e =
        let end = merged_is Lay e in
        elim fine [
          | inl h ↦ inl h
          | inr more ↦ elim more [
            | inl h ↦ inr (inl (h ∙ end))
            | inr h ↦ inr (inr (h.0, (h.1.node, h.1.stood, ap (has_kind h.1.node) (sym end) ∙ h.1.left)))
          ]
        ]

    alone_as : there ≡ here → end_alone now path ≡ end_alone sides path
    alone_as e = ap (λ o. end_by laid o logged) e

    alone_laid : there ≡ logged → end_alone now path ≡ Same
    alone_laid e = alone_same laid there logged e

    -- what is the user's own now was his own before
    own_before : is_some there ≡ true → end_alone now path ≡ Own → (end_alone sides path ≡ Own) × (is_some here ≡ true)
    own_before some own = by (end_of sides path) refl
      where
        as_here : there ≡ here → (end_alone sides path ≡ Own) × (is_some here ≡ true)
        as_here e = (sym (alone_as e) ∙ own, sym (ap is_some e) ∙ some)

        as_logged : there ≡ logged → (end_alone sides path ≡ Own) × (is_some here ≡ true)
        as_logged e = absurd (true≢false (sym (ap is_own (sym (alone_laid e) ∙ own))))

        by : (e : End) → end_of sides path ≡ e → (end_alone sides path ≡ Own) × (is_some here ≡ true)
        by Same e = as_logged (same_there e)
        by Own e = as_here (own_there e)
        by Both e = absurd (not_both sides path (none path) e)
        by Lay e = elim (lay_there e) [
          | inl h ↦ as_here h
          | inr more ↦ elim more [
            | inl h ↦ as_logged h
            | inr h ↦ absurd (true≢false (sym some ∙ ap is_some h.0))
          ]
        ]

    -- what is to be laid now was to be laid before
    laid_before : end_alone now path ≡ Lay → end_alone sides path ≡ Lay
    laid_before lay = by (end_of sides path) refl
      where
        as_here : there ≡ here → end_alone sides path ≡ Lay
        as_here e = sym (alone_as e) ∙ lay

        as_logged : there ≡ logged → end_alone sides path ≡ Lay
        as_logged e = absurd (true≢false (sym (ap is_lay (sym (alone_laid e) ∙ lay))))

        by : (e : End) → end_of sides path ≡ e → end_alone sides path ≡ Lay
        by Same e = as_logged (same_there e)
        by Own e = as_here (own_there e)
        by Both e = absurd (not_both sides path (none path) e)
        by Lay e = elim (lay_there e) [
          | inl h ↦ as_here h
          | inr more ↦ elim more [
            | inl h ↦ as_logged h
            | inr h ↦ elim (lay_end sides path e) [
              | inl l ↦ l.0
              | inr l ↦ absurd (some_none here h.1.0 h.1.1 l.2)
            ]
          ]
        ]

    -- what was the user's own is his own now
    own_stays : is_some here ≡ true → end_alone sides path ≡ Own → (is_some there ≡ true) × (end_alone now path ≡ Own)
    own_stays some own = by (end_of sides path) refl
      where
        as_here : there ≡ here → (is_some there ≡ true) × (end_alone now path ≡ Own)
        as_here e = (ap is_some e ∙ some, alone_as e ∙ own)

        by : (e : End) → end_of sides path ≡ e → (is_some there ≡ true) × (end_alone now path ≡ Own)
        by Own e = as_here (own_there e)
        by Same e = absurd (true≢false (sym (ap is_own (sym (same_end sides path e) ∙ own))))
        by Both e = absurd (not_both sides path (none path) e)
        by Lay e = elim (lay_end sides path e) [
          | inl l ↦ absurd (true≢false (sym (ap is_own (sym l.0 ∙ own))))
          | inr l ↦ absurd (true≢false (sym some ∙ ap is_some l.2))
        ]

  -- ---- folders

  found_here : AreFound sides.here sides.here
  found_here = are_found sides.here (are_distinct sides.here are.here.in_order)

  found_logged : AreFound sides.logged sides.logged
  found_logged = are_found sides.logged (are_distinct sides.logged are.logged.in_order)

  found_now : AreFound rows rows
  found_now = are_found rows (are_distinct rows stopped.are.here.in_order)

  module _ (path : FilePath) where
    abbrev odd : Bool
    odd = list_any (λ other. is_below other path) sides.beside

    own_was : list_any (λ row. is_own_below now path row.path) rows ≡ true → list_any (λ row. is_own_below sides path row.path) sides.here ≡ true
    own_was h =
        let found = any_found (is_own_below now path) rows rows found_now h in
        let parts = and_of (is_below found.0 path) (is_own (end_alone now found.0)) found.2 in
        let own = own_before found.0 found.1 (own_is (end_alone now found.0) parts.1) in
        any_there (is_own_below sides path) sides.here found.0 own.1
        (and_holds (is_below found.0 path) (is_own (end_alone sides found.0)) parts.0 (ap is_own own.0))
      where
        own_is : (e : End) → is_own e ≡ true → e ≡ Own
        own_is Same h = absurd (true≢false (sym h))
        own_is Lay h = absurd (true≢false (sym h))
        own_is Own h = refl
        own_is Both h = absurd (true≢false (sym h))

    own_is_now : list_any (λ row. is_own_below sides path row.path) sides.here ≡ true → list_any (λ row. is_own_below now path row.path) rows ≡ true
    own_is_now h =
        let found = any_found (is_own_below sides path) sides.here sides.here found_here h in
        let parts = and_of (is_below found.0 path) (is_own (end_alone sides found.0)) found.2 in
        let own = own_stays found.0 found.1 (own_is (end_alone sides found.0) parts.1) in
        any_there (is_own_below now path) rows found.0 own.0
        (and_holds (is_below found.0 path) (is_own (end_alone now found.0)) parts.0 (ap is_own own.1))
      where
        own_is : (e : End) → is_own e ≡ true → e ≡ Own
        own_is Same h = absurd (true≢false (sym h))
        own_is Lay h = absurd (true≢false (sym h))
        own_is Own h = refl
        own_is Both h = absurd (true≢false (sym h))

    or_more : (a b c : Bool) → (a ≡ true → b ≡ true) → (a || c) ≡ true → (b || c) ≡ true
    or_more true b c more h = ap (λ x. x || c) (more refl)
    or_more false b c more h = or_true b c h

    stays_was : there path ≡ here path → stays_in now path ≡ true → stays_in sides path ≡ true
    stays_was same h =
        let parts = and_of (is_folder_node (there path)) (list_any (λ row. is_own_below now path row.path) rows || odd) h in
        and_holds (is_folder_node (here path)) (list_any (λ row. is_own_below sides path row.path) sides.here || odd)
        (sym (ap is_folder_node same) ∙ parts.0)
        (or_more (list_any (λ row. is_own_below now path row.path) rows) (list_any (λ row. is_own_below sides path row.path) sides.here) odd own_was parts.1)

    stays_now : there path ≡ here path → stays_in sides path ≡ true → stays_in now path ≡ true
    stays_now same h =
        let parts = and_of (is_folder_node (here path)) (list_any (λ row. is_own_below sides path row.path) sides.here || odd) h in
        and_holds (is_folder_node (there path)) (list_any (λ row. is_own_below now path row.path) rows || odd)
        (ap is_folder_node same ∙ parts.0)
        (or_more (list_any (λ row. is_own_below sides path row.path) sides.here) (list_any (λ row. is_own_below now path row.path) rows) odd own_is_now parts.1)

    lay_is : (e : End) → is_lay e ≡ true → e ≡ Lay
    lay_is Same h = absurd (true≢false (sym h))
    lay_is Lay h = refl
    lay_is Own h = absurd (true≢false (sym h))
    lay_is Both h = absurd (true≢false (sym h))

    comes_was : comes_in now path ≡ true → comes_in sides path ≡ true
    comes_was h =
        let parts = and_of (is_folder_node (logged path)) (list_any (λ row. is_laid_below now path row.path) sides.logged) h in
        and_holds (is_folder_node (logged path)) (list_any (λ row. is_laid_below sides path row.path) sides.logged) parts.0
        (any_more (λ row. is_laid_below now path row.path) (λ row. is_laid_below sides path row.path)
        (λ row holds.
        let below = and_of (is_below row.path path) (is_lay (end_alone now row.path)) holds in
        and_holds (is_below row.path path) (is_lay (end_alone sides row.path)) below.0
        (ap is_lay (laid_before row.path (lay_is (end_alone now row.path) below.1)))) sides.logged parts.1)

    comes_now : is_root path ≡ false → here path ≡ None → there path ≡ None → comes_in sides path ≡ true → comes_in now path ≡ true
    comes_now low none_here none_now h =
        let parts = and_of (is_folder_node (logged path)) (list_any (λ row. is_laid_below sides path row.path) sides.logged) h in
        and_holds (is_folder_node (logged path)) (list_any (λ row. is_laid_below now path row.path) sides.logged) parts.0
        (any_more (λ row. is_laid_below sides path row.path) (λ row. is_laid_below now path row.path)
        (λ row holds.
        let below = and_of (is_below row.path path) (is_lay (end_alone sides row.path)) holds in
        let none' : here row.path ≡ None =
        none_is (here row.path) (nothing_below (length row.path) sides.here row.path path are.here (omega arith) low none_here below.0) in
        let none'' : there row.path ≡ None =
        none_is (there row.path) (nothing_below (length row.path) rows row.path path stopped.are.here (omega arith) low none_now below.0) in
        and_holds (is_below row.path path) (is_lay (end_alone now row.path)) below.0
        (ap is_lay (alone_as row.path (none'' ∙ sym none')) ∙ below.1)) sides.logged parts.1)

    -- ---- what becomes of the path now

    abbrev within_before : End
    within_before = end_within (end_alone sides path) (stays_in sides path) (comes_in sides path) (here path) (logged path)

    clear : (is_taken sides path && is_some (logged path)) ≡ false
    clear =
        not_true (is_taken sides path && is_some (logged path))
        (λ t. true≢false (sym (ap (λ b. is_both (cond b Both within_before)) t) ∙ none path))

    end_is : end_of now path ≡ end_within (end_alone now path) (stays_in now path) (comes_in now path) (there path) (logged path)
    end_is = ap (λ b. cond b Both (end_within (end_alone now path) (stays_in now path) (comes_in now path) (there path) (logged path))) clear

    abbrev GoesOn : Type 0
    GoesOn = (is_conflict now path ≡ false) × (picked now path ≡ picked sides path)

    by_end : (e : End) → end_of now path ≡ e → is_both e ≡ false → cond (stays e) (there path) (logged path) ≡ picked sides path → GoesOn
    by_end e is single same = (ap is_both is ∙ single, ap (λ x. cond (stays x) (there path) (logged path)) is ∙ same)

    picked_by : (e : End) → end_of sides path ≡ e → cond (stays e) (here path) (logged path) ≡ picked sides path
    picked_by e is = ap (λ x. cond (stays x) (here path) (logged path)) (sym is)

    -- once it is as it is to be
    go_same : there path ≡ logged path → logged path ≡ picked sides path → GoesOn
    go_same e same =
        by_end Same (end_is ∙ ap (λ a. end_within a (stays_in now path) (comes_in now path) (there path) (logged path)) (alone_laid path e)) refl same

    lay_alone : there path ≡ here path → end_alone sides path ≡ Lay → stays_in sides path ≡ false → logged path ≡ picked sides path → GoesOn
    lay_alone e alone empty same =
        let still : stays_in now path ≡ false = not_true (stays_in now path) (λ h. true≢false (sym (stays_was e h) ∙ empty)) in
        by_end Lay
        (end_is ∙ ap (λ a. end_within a (stays_in now path) (comes_in now path) (there path) (logged path)) (alone_as path e ∙ alone)
        ∙ ap (λ s. laid_end s (logged path)) still) refl same

    -- a folder that was removed here and is to come back
    lay_again : there path ≡ here path → end_alone sides path ≡ Own → comes_in sides path ≡ true → here path ≡ None → logged path ≡ picked sides path
        → GoesOn
    lay_again e alone comes none_here same =
        let low : is_root path ≡ false =
        below_root sides.logged path are.logged.each (folder_some (logged path) (and_of (is_folder_node (logged path)) _ comes).0) in
        let comes' : comes_in now path ≡ true = comes_now low none_here (e ∙ none_here) comes in
        by_end Lay
        (end_is ∙ ap (λ a. end_within a (stays_in now path) (comes_in now path) (there path) (logged path)) (alone_as path e ∙ alone)
        ∙ ap (λ c. own_end c (there path)) comes' ∙ ap (own_end true) (e ∙ none_here)) refl same
      where
        folder_some : (o : Option Node) → is_folder_node o ≡ true → is_some o ≡ true
        folder_some None h = absurd (true≢false (sym h))
        folder_some (Some node) h = refl

    -- what was taken away before another kind is put
    lay_away : there path ≡ None → (node : Node) → here path ≡ Some node → has_kind node (logged path) ≡ false → here path ≡ laid path
        → logged path ≡ picked sides path → GoesOn
    lay_away gone node stood kind as_laid same = by (logged path) refl
      where
        lay_now : (other : Node) → logged path ≡ Some other → end_alone now path ≡ Lay
        lay_now other e =
            ap (λ o. end_by (laid path) o (logged path)) gone ∙ ap (end_by (laid path) None) e
            ∙ ap (λ o. end_by o None (Some other)) (sym as_laid ∙ stood) ∙ lays (is_same (Some other) (Some node)) refl
          where
            lays : (b : Bool) → is_same (Some other) (Some node) ≡ b → end_by (Some node) None (Some other) ≡ Lay
            lays false h = rw h refl
            lays true h =
                let same : Some other ≡ Some node = same_is (Some other) (Some node) h in
                absurd (true≢false (sym (kind_itself node) ∙ ap (has_kind node) (sym (e ∙ same)) ∙ kind))

        by : (o : Option Node) → logged path ≡ o → GoesOn
        by None e = go_same (gone ∙ sym e) same
        by (Some other) e =
            let none_now : stays_in now path ≡ false = ap (λ o. is_folder_node o && (list_any (λ row. is_own_below now path row.path) rows || odd)) gone in
            by_end Lay
            (end_is ∙ ap (λ a. end_within a (stays_in now path) (comes_in now path) (there path) (logged path)) (lay_now other e)
            ∙ ap (λ s. laid_end s (logged path)) none_now) refl same

    own_goes : there path ≡ here path → end_alone sides path ≡ Own → comes_in sides path ≡ false → here path ≡ picked sides path → GoesOn
    own_goes e alone empty same =
        let still : comes_in now path ≡ false = not_true (comes_in now path) (λ h. true≢false (sym (comes_was h) ∙ empty)) in
        by_end Own
        (end_is ∙ ap (λ a. end_within a (stays_in now path) (comes_in now path) (there path) (logged path)) (alone_as path e ∙ alone)
        ∙ ap (λ c. own_end c (there path)) still) refl (e ∙ same)

    own_kept : there path ≡ here path → end_alone sides path ≡ Lay → stays_in sides path ≡ true → logged path ≡ None → here path ≡ picked sides path → GoesOn
    own_kept e alone full none_there same =
        by_end Own
        (end_is ∙ ap (λ a. end_within a (stays_in now path) (comes_in now path) (there path) (logged path)) (alone_as path e ∙ alone)
        ∙ ap (λ s. laid_end s (logged path)) (stays_now e full) ∙ ap (laid_end true) none_there) refl (e ∙ same)

    pub goes_on : GoesOn
    goes_on = by (end_of sides path) refl
      where
        lay_goes : end_of sides path ≡ Lay → GoesOn
        lay_goes e =
            let same = picked_by Lay e in
            elim (lay_there path e) [
              | inl h ↦ elim (lay_end sides path e) [
                | inl l ↦ lay_alone h l.0 l.1 same
                | inr l ↦ lay_again h l.0 l.1 l.2 same
              ]
              | inr more ↦ elim more [
                | inl h ↦ go_same h same
                | inr h ↦ elim (lay_end sides path e) [
                  | inl l ↦ elim (lay_by (laid path) (here path) (logged path) l.0) [
                    | inl b ↦ lay_away h.0 h.1.0 h.1.1 h.1.2 b same
                    | inr b ↦ absurd (some_none (here path) h.1.0 h.1.1 b)
                  ]
                  | inr l ↦ absurd (some_none (here path) h.1.0 h.1.1 l.2)
                ]
              ]
            ]

        own : end_of sides path ≡ Own → GoesOn
        own e = elim (own_end_of sides path e) [
          | inl l ↦ own_goes (own_there path e) l.0 l.1 (picked_by Own e)
          | inr l ↦ own_kept (own_there path e) l.0 l.1 l.2 (picked_by Own e)
        ]

        by : (e : End) → end_of sides path ≡ e → GoesOn
        by Same e = go_same (same_there path e) (picked_by Same e)
        by Lay e = lay_goes e
        by Own e = own e
        by Both e = absurd (not_both sides path (none path) e)

  pub all_goes_on : HasNoConflict now × (merged now ≡ merged sides)
  all_goes_on =
      let none_now : HasNoConflict now = λ path. (goes_on path).0 in (
        none_now,
        same_rows (merged now) (merged sides) (merged_tree now stopped.are none_now).in_order (merged_tree sides are none).in_order
            (λ path. merged_nodes now stopped.are path ∙ (goes_on path).1 ∙ sym (merged_nodes sides are path)),
      )

pub lays_go_on : LaysGoOn
lays_go_on sides count rows are none stopped = all_goes_on sides count rows are none stopped
