-- What the calls of an arena leave.
use Rattle.std.proofs.Common.{◌≡◌, ◌≢◌, ℕ, ◌+◌, ◌<◌, ◌≤◌, false, [], ◌∷◌, length, Option, Some, None, IsTrue, is_some, inl, inr, arith, refl, sym, ap, ◌∙◌, subst, true≢false}
use Rattle.std.proofs.lemmas.Bool.{cases_lt, cases_eq, eqb-false}
use Rattle.std.proofs.lemmas.List.{get_or_past}
use Rattle.file_paths.specs.Path.{FilePath}
use Rattle.tree_values.specs.declared.node.Node.{Node}
use Rattle.tree_values.specs.declared.node.Row.{Row}
use Rattle.tree_values.specs.Tree.{row_at, version_at, node_at, is_root, is_at_top, with_row, touched, restored}
use Rattle.tree_slots.specs.Arena.{Place, Places, no_place, place, slot_of, own_row, rows_of, IsArena, written, IsEntered}
use Rattle.tree_values.proofs.Ordered.{restored_row}
use Rattle.tree_slots.proofs.Walk.{version_found, node_found, none_found, one_found}
use Rattle.tree_slots.proofs.Written.{written_arena, written_rows, erased_rows}

-- a path that is not the root has another slot
below_root : (slots : Places) (path : FilePath) (i : ℕ) → IsArena slots → slot_of slots 0 path ≡ Some i → is_root path ≡ false → i ≡ 0 → ⊥
below_root slots path i arena at other same =
    let root : path ≡ [] = arena.apart path [] i at (ap Some (sym same)) in
    true≢false (ap is_root (sym root) ∙ other)

-- ---- touching

module _ (old mid : Places) (path : FilePath) (i : ℕ) (node : Option Node) (entered : IsEntered old mid path i) where
  pub version_before : (place mid i).version ≡ version_at (rows_of old) path
  version_before = sym (version_found mid path entered.arena i entered.slot) ∙ ap (λ rows. version_at rows path) entered.rows

  pub node_before : (place mid i).node ≡ node_at (rows_of old) path
  node_before = sym (node_found mid path entered.arena i entered.slot) ∙ ap (λ rows. node_at rows path) entered.rows

  pub touched_arena : is_root path ≡ false → IsArena (written mid i ((place mid i).version + 1) node)
  touched_arena other = written_arena mid i ((place mid i).version + 1) node entered.within entered.arena (below_root mid path i entered.arena entered.slot other) (λ z. absurd (omega arith))

  pub touched_rows : is_root path ≡ false → rows_of (written mid i ((place mid i).version + 1) node) ≡ touched (rows_of old) path node
  touched_rows other =
      written_rows mid i ((place mid i).version + 1) node entered.within entered.arena path entered.slot (below_root mid path i entered.arena entered.slot other) (λ z. absurd (omega arith)) (λ z. absurd (omega arith))
      ∙ rw (entered.rows, version_before) refl

  -- the version may still rise
  pub may_rise : is_at_top (rows_of old) path ≡ false → (place mid i).version ≡ 18446744073709551615 → ⊥
  may_rise below same = eqb-false (version_at (rows_of old) path) 18446744073709551615 below (sym version_before ∙ same)

-- ---- putting back

no_row : (path : FilePath) (slot : Place) → slot.version ≡ 0 → own_row path slot ≡ None
no_row path slot none = rw none refl

-- a slot with a row is there
pub slot_within : (slots : Places) (i : ℕ) → ((place slots i).version ≡ 0 → ⊥) → i < length slots
slot_within slots i some = elim (cases_lt i (length slots)) [
  | inl within ↦ within
  | inr past ↦ absurd (some (ap (λ (x : Place). x.version) (get_or_past slots i no_place past)))
]

module _ (slots : Places) (path : FilePath) (arena : IsArena slots) (there : IsTrue (is_some (row_at (rows_of slots) path))) where
  -- a path with a row has a slot
  pub has_slot : slot_of slots 0 path ≡ None → ⊥
  has_slot e = true≢false (sym there ∙ ap is_some (none_found slots path arena e))

  module _ (i : ℕ) (at : slot_of slots 0 path ≡ Some i) where
    has_version : (place slots i).version ≡ 0 → ⊥
    has_version none = true≢false (sym there ∙ ap is_some (one_found slots path arena i at ∙ no_row path (place slots i) none))

    pub row_within : i < length slots
    row_within = slot_within slots i has_version

    row_below_root : i ≡ 0 → ⊥
    row_below_root same = has_version (ap (λ k. (place slots k).version) same ∙ arena.root)

    -- the slot of a path is as if just entered
    pub row_entered : IsEntered slots slots path i
    row_entered = record { arena = arena; rows = refl; slot = at; within = row_within }

    put_back : (kept : Row) → kept.path ≡ path → (kept.version ≡ 0 → ⊥) → rows_of (written slots i kept.version kept.node) ≡ restored (rows_of slots) kept
    put_back kept same some =
        written_rows slots i kept.version kept.node row_within arena path at row_below_root (λ z. absurd (some z)) some
        ∙ ap (λ p. with_row (rows_of slots) (record { path = p; version = kept.version; node = kept.node })) (sym same)
        ∙ sym (restored_row (rows_of slots) kept some)

    taken_back : (kept : Row) → kept.path ≡ path → kept.version ≡ 0 → rows_of (written slots i kept.version None) ≡ restored (rows_of slots) kept
    taken_back kept same none =
        erased_rows slots i kept.version None row_within arena path at row_below_root (λ z. refl) none
        ∙ rw (none, same) refl

    pub restored_rows : (new : Places) (kept : Row) → kept.path ≡ path → (kept.version ≢ 0 → new ≡ written slots i kept.version kept.node) → (kept.version ≡ 0 → new ≡ written slots i kept.version None) → IsArena new × (rows_of new ≡ restored (rows_of slots) kept)
    restored_rows new kept same some none = elim (cases_eq kept.version 0) [
      | inl gone ↦ (
        subst IsArena (sym (none gone)) (written_arena slots i kept.version None row_within arena row_below_root (λ z. refl)),
        ap rows_of (none gone) ∙ taken_back kept same gone,
      )
      | inr other ↦ (
        subst IsArena (sym (some other)) (written_arena slots i kept.version kept.node row_within arena row_below_root (λ z. absurd (other z))),
        ap rows_of (some other) ∙ put_back kept same other,
      )
    ]

-- ---- adding a row

pub inserted_rows : (old mid new : Places) (row : Row) (i : ℕ) → IsEntered old mid row.path i → is_root row.path ≡ false → 1 ≤ row.version → (row.version ≢ 0 → new ≡ written mid i row.version row.node) → IsArena new × (rows_of new ≡ with_row (rows_of old) row)
inserted_rows old mid new row i entered other touched write =
    let some : row.version ≡ 0 → ⊥ = λ z. absurd (omega arith) in
    let is : new ≡ written mid i row.version row.node = write some in
    let below = below_root mid row.path i entered.arena entered.slot other in (
      subst IsArena (sym is) (written_arena mid i row.version row.node entered.within entered.arena below (λ z. absurd (some z))),
      ap rows_of is ∙ written_rows mid i row.version row.node entered.within entered.arena row.path entered.slot below (λ z. absurd (some z)) some ∙ ap (λ rows. with_row rows row) entered.rows,
    )

-- a path with a row is not the root
pub row_is_below : (slots : Places) (path : FilePath) → IsArena slots → IsTrue (is_some (row_at (rows_of slots) path)) → is_root path ≡ false
row_is_below slots [] arena there = absurd (true≢false (sym there ∙ ap is_some (one_found slots [] arena 0 refl ∙ no_row [] (place slots 0) arena.root)))
row_is_below slots (n ∷ path) arena there = refl
