-- A slot of which version and node are written: the rules stay, and the rows but for its own.
use Rattle.std.proofs.Common.{◌≡◌, ℕ, ◌<◌, ◌==◌, Bool, true, false, ◌∷◌, length, Option, Some, None, inl, inr, arith, refl, sym, ap, ◌∙◌, subst}
use Rattle.std.proofs.lemmas.Bool.{cases_eq, eqb-true}
use Rattle.std.proofs.lemmas.List.{length-set, get_or-set_same, get_or-set_other}
use Rattle.std.proofs.lemmas.List.Folds.{find-append}
use Rattle.std.specs.Ordering.{is_eq}
use Rattle.tree_values.specs.Inside.{is_at}
use Rattle.file_paths.specs.Path.{FilePath}
use Rattle.tree_values.specs.declared.node.Node.{Node}
use Rattle.tree_values.specs.declared.node.Row.{Row}
use Rattle.tree_values.specs.Tree.{Volume, row_at, rows_below, rows_above, with_row, without_row}
use Rattle.tree_slots.specs.Arena.{Place, Places, no_place, place, slot_of, own_row, rows_of, IsArena, written}
use Rattle.file_paths.proofs.Order.{paths_apart}
use Rattle.tree_values.proofs.Ordered.{all_map, all_below, all_above, find_none, row_at-with_row, row_at-other, with_row_in_order, without_row_in_order, same_rows}
use Rattle.tree_slots.proofs.Walk.{row_of, found_row, rows_in_order}
use Rattle.tree_slots.proofs.Links.{SameShape, same_or_not, shape_slot, shape_arena}

-- ---- rows without one

pub without_here : (rows : Volume) (p : FilePath) → row_at (without_row rows p) p ≡ None
without_here rows p =
    find-append (is_at p) (rows_below rows p) (rows_above rows p)
    ∙ rw (find_none (is_at p) (rows_below rows p) (all_map (λ row e. ap is_eq e) (rows_below rows p) (all_below rows p)), find_none (is_at p) (rows_above rows p) (all_map (λ row e. ap is_eq e) (rows_above rows p) (all_above rows p))) refl

pub without_other : (rows : Volume) (p q : FilePath) → (q ≡ p → ⊥) → row_at (without_row rows p) q ≡ row_at rows q
without_other rows p q other =
    let new : Row = record { path = p; version = 0; node = None } in
    let both = find-append (is_at q) (rows_below rows p) (new ∷ rows_above rows p) in
    find-append (is_at q) (rows_below rows p) (rows_above rows p)
    ∙ sym (both ∙ rw (paths_apart p q other) refl)
    ∙ row_at-other rows new q other

-- ---- one slot written

module _ (slots : Places) (i version : ℕ) (node : Option Node) (within : i < length slots) where
  pub written_here : place (written slots i version node) i ≡ record { name = (place slots i).name; version = version; node = node; children = (place slots i).children }
  written_here = get_or-set_same slots i (record { name = (place slots i).name; version = version; node = node; children = (place slots i).children }) no_place within

  pub written_elsewhere : (k : ℕ) → (k ≡ i → ⊥) → place (written slots i version node) k ≡ place slots k
  written_elsewhere k other = get_or-set_other slots i k (record { name = (place slots i).name; version = version; node = node; children = (place slots i).children }) no_place other

  pub written_shape : SameShape slots (written slots i version node)
  written_shape = record {
    names = λ k. elim (cases_eq k i) [
      | inl same ↦ subst (λ a. (place (written slots i version node) a).name ≡ (place slots a).name) (sym same) (ap (λ (x : Place). x.name) written_here)
      | inr other ↦ ap (λ (x : Place). x.name) (written_elsewhere k other)
    ];
    children = λ k. elim (cases_eq k i) [
      | inl same ↦ subst (λ a. (place (written slots i version node) a).children ≡ (place slots a).children) (sym same) (ap (λ (x : Place). x.children) written_here)
      | inr other ↦ ap (λ (x : Place). x.children) (written_elsewhere k other)
    ];
  }

  pub written_slot : (q : FilePath) → slot_of (written slots i version node) 0 q ≡ slot_of slots 0 q
  written_slot q = shape_slot slots (written slots i version node) written_shape q 0

  pub written_arena : IsArena slots → (i ≡ 0 → ⊥) → (version ≡ 0 → node ≡ None) → IsArena (written slots i version node)
  written_arena arena below_root bare =
      shape_arena slots (written slots i version node) written_shape (omega (arith, length-set slots i (record { name = (place slots i).name; version = version; node = node; children = (place slots i).children }))) arena
      (ap (λ (x : Place). x.version) (written_elsewhere 0 (λ z. below_root (sym z))) ∙ arena.root)
      (λ k. elim (cases_eq k i) [
        | inl same ↦ subst (λ a. (place (written slots i version node) a).version ≡ 0 → (place (written slots i version node) a).node ≡ None) (sym same) (rw written_here bare)
        | inr other ↦ rw (written_elsewhere k other) (arena.bare k)
      ])

  module _ (arena : IsArena slots) (path : FilePath) (at : slot_of slots 0 path ≡ Some i) (below_root : i ≡ 0 → ⊥) (bare : version ≡ 0 → node ≡ None) where
    row_here : row_at (rows_of (written slots i version node)) path ≡ own_row path (record { name = (place slots i).name; version = version; node = node; children = (place slots i).children })
    row_here = found_row (written slots i version node) path (written_arena arena below_root bare) ∙ rw (written_slot path, at, written_here) refl

    row_elsewhere : (q : FilePath) → (q ≡ path → ⊥) → row_at (rows_of (written slots i version node)) q ≡ row_at (rows_of slots) q
    row_elsewhere q other =
        found_row (written slots i version node) q (written_arena arena below_root bare)
        ∙ ap (row_of (written slots i version node) q) (written_slot q) ∙ by (slot_of slots 0 q) refl ∙ sym (found_row slots q arena)
      where
        by : (o : Option ℕ) → slot_of slots 0 q ≡ o → row_of (written slots i version node) q o ≡ row_of slots q o
        by None e = refl
        by (Some k) e = ap (own_row q) (written_elsewhere k (λ same. other (arena.apart q path i (e ∙ ap Some same) at)))

    -- a written row is with the others
    pub written_rows : (version ≡ 0 → ⊥) → rows_of (written slots i version node) ≡ with_row (rows_of slots) (record { path = path; version = version; node = node })
    written_rows some =
        let new : Row = record { path = path; version = version; node = node } in
        let after = written_arena arena below_root bare in
        same_rows (rows_of (written slots i version node)) (with_row (rows_of slots) new) (rows_in_order (written slots i version node) after.linked) (with_row_in_order (rows_of slots) new (rows_in_order slots arena.linked))
        (λ q. elim (same_or_not q path) [
          | inl same ↦ subst (λ a. row_at (rows_of (written slots i version node)) a ≡ row_at (with_row (rows_of slots) new) a) (sym same) (row_here ∙ is_there (version == 0) refl ∙ sym (row_at-with_row (rows_of slots) new))
          | inr other ↦ row_elsewhere q other ∙ sym (row_at-other (rows_of slots) new q other)
        ])
      where
        is_there : (b : Bool) → (version == 0) ≡ b → own_row path (record { name = (place slots i).name; version = version; node = node; children = (place slots i).children }) ≡ Some (record { path = path; version = version; node = node })
        is_there true z = absurd (some (eqb-true version 0 z))
        is_there false z = rw z refl

    -- with version 0 its row is gone
    pub erased_rows : version ≡ 0 → rows_of (written slots i version node) ≡ without_row (rows_of slots) path
    erased_rows none =
        let after = written_arena arena below_root bare in
        same_rows (rows_of (written slots i version node)) (without_row (rows_of slots) path) (rows_in_order (written slots i version node) after.linked) (without_row_in_order (rows_of slots) path (rows_in_order slots arena.linked))
        (λ q. elim (same_or_not q path) [
          | inl same ↦ subst (λ a. row_at (rows_of (written slots i version node)) a ≡ row_at (without_row (rows_of slots) path) a) (sym same) (row_here ∙ rw none refl ∙ sym (without_here (rows_of slots) path))
          | inr other ↦ row_elsewhere q other ∙ sym (without_other (rows_of slots) path q other)
        ])
