-- The rows of slots, and what each path finds among them.
use Rattle.std.proofs.Common.{◌≡◌, ℕ, zero, suc, ◌<◌, ◌==◌, Bool, true, false, cond, List, [], ◌∷◌, ◌++◌, length, Option, Some, None, inl, inr, arith, refl, sym, ap, ◌∙◌, subst}
use Rattle.std.specs.Prelude.{◌⊎◌, option_map, unwrap_or}
use Rattle.std.specs.List.{AllByRecursion, flat_map}
use Rattle.std.specs.Option.{option_or, option_to_list, option_and_then}
use Rattle.std.proofs.lemmas.List.{append_assoc, append-nil}
use Rattle.std.proofs.lemmas.List.Folds.{find-append}
use Rattle.std.proofs.lemmas.Bool.{eqb-true}
use Rattle.std.proofs.lemmas.Cmp.{tied_itself}
use Rattle.std.specs.declared.cmp.Ordering.{Ordering}
use Rattle.std.specs.declared.cmp.Ordering.TheVariants.{Less, Equal, Greater}
use Rattle.std.specs.Ordering.{ordering_reverse, is_eq}
use Rattle.byte_fields.proofs.Facts.{none_behind}
use Rattle.tree_values.specs.Inside.{is_at}
use Rattle.file_paths.specs.Path.{FilePath, path_cmp}
use Rattle.tree_values.specs.declared.node.Row.{Row}
use Rattle.tree_values.specs.Tree.{Volume, AreInOrder, row_at, version_at, node_at}
use Rattle.tree_slots.specs.Arena.{Place, Places, place, name_cmp, child_named, slot_of, own_row, rows_from, rows_of, AreAscending, AreLinked, IsArena}
use Rattle.tree_slots.proofs.Slots.{names_total, same_name, child_has_name}
use Rattle.file_paths.proofs.Order.{paths_total, same_place}
use Rattle.tree_values.proofs.Ordered.{all_append, all_map, find_none}

-- ---- paths below a path

pub same_itself : (n : List ℕ) → name_cmp n n ≡ Equal
same_itself = tied_itself names_total

-- paths that part at one name compare as the names do
pub cmp_apart : (p : FilePath) (n m : List ℕ) (q r : FilePath) (o : Ordering) → name_cmp n m ≡ o → (o ≡ Equal → ⊥) → path_cmp ((p ++ n ∷ []) ++ q) ((p ++ m ∷ []) ++ r) ≡ o
cmp_apart [] n m q r Less e differ = rw e refl
cmp_apart [] n m q r Greater e differ = rw e refl
cmp_apart [] n m q r Equal e differ = absurd (differ refl)
cmp_apart (x ∷ p) n m q r o e differ = rw (same_itself x) (cmp_apart p n m q r o e differ)

-- a path is below those that go on from it
pub cmp_longer : (p : FilePath) (n : List ℕ) (q : FilePath) → path_cmp p ((p ++ n ∷ []) ++ q) ≡ Less
cmp_longer [] n q = refl
cmp_longer (x ∷ p) n q = rw (same_itself x) (cmp_longer p n q)

-- the second path goes on from the first
pub record Extends (p path : FilePath) : Type 0 where
  pub rest : FilePath
  pub is : path ≡ p ++ rest

shorter : (p : FilePath) (n : List ℕ) (path : FilePath) → Extends (p ++ n ∷ []) path → Extends p path
shorter p n path longer = record { rest = n ∷ longer.rest; is = longer.is ∙ append_assoc p (n ∷ []) longer.rest }

own_is_at : (p : FilePath) (slot : Place) → row_at (option_to_list (own_row p slot)) p ≡ own_row p slot
own_is_at p slot = by (slot.version == 0) refl
  where
    by : (b : Bool) → (slot.version == 0) ≡ b → row_at (option_to_list (own_row p slot)) p ≡ own_row p slot
    by true e = rw e refl
    by false e = rw (e, same_place p) refl

module _ (P : Row → Type 0) where
  pub own_all : (p : FilePath) (slot : Place) → P (record { path = p; version = slot.version; node = slot.node }) → AllByRecursion P (option_to_list (own_row p slot))
  own_all p slot holds = elim (slot.version == 0) as (λ b. AllByRecursion P (option_to_list (cond b None (Some (record { path = p; version = slot.version; node = slot.node }))))) [
    | true ↦ tt
    | false ↦ (holds, tt)
  ]

module _ (slots : Places) where
  name : ℕ → List ℕ
  name c = (place slots c).name

  -- the rows of these children of a slot at a path
  abbrev pub rows_in : ℕ → FilePath → List ℕ → Volume
  rows_in levels p cs = flat_map (λ c. rows_from levels slots (p ++ (place slots c).name ∷ []) c) cs

  pub extends : (levels : ℕ) (p : FilePath) (i : ℕ) → AllByRecursion (λ row. Extends p row.path) (rows_from levels slots p i)
  extends zero p i = tt
  extends (suc levels) p i =
      all_append (λ row. Extends p row.path) (option_to_list (own_row p (place slots i))) (rows_in levels p (place slots i).children)
      (own_all (λ row. Extends p row.path) p (place slots i) (record { rest = []; is = sym (append-nil p) }))
      (within (λ p c. extends levels p c) (place slots i).children)
    where
      within : ((p : FilePath) (c : ℕ) → AllByRecursion (λ row. Extends p row.path) (rows_from levels slots p c)) → (cs : List ℕ) → AllByRecursion (λ row. Extends p row.path) (rows_in levels p cs)
      within each [] = tt
      within each (c ∷ cs) =
          all_append (λ row. Extends p row.path) (rows_from levels slots (p ++ (place slots c).name ∷ []) c) (rows_in levels p cs)
          (all_map (λ row longer. shorter p (place slots c).name row.path longer) (rows_from levels slots (p ++ (place slots c).name ∷ []) c) (each (p ++ (place slots c).name ∷ []) c))
          (within each cs)

  -- the rows of children with higher names are above what goes on from a name
  above_child : (levels : ℕ) (p : FilePath) (n : List ℕ) (cs : List ℕ) → AllByRecursion (λ d. name_cmp n (place slots d).name ≡ Less) cs → AllByRecursion (λ row. (q : FilePath) → path_cmp ((p ++ n ∷ []) ++ q) row.path ≡ Less) (rows_in levels p cs)
  above_child levels p n [] higher = tt
  above_child levels p n (d ∷ cs) higher =
      all_append (λ row. (q : FilePath) → path_cmp ((p ++ n ∷ []) ++ q) row.path ≡ Less) (rows_from levels slots (p ++ (place slots d).name ∷ []) d) (rows_in levels p cs)
      (all_map (λ row longer q. ap (path_cmp ((p ++ n ∷ []) ++ q)) longer.is ∙ cmp_apart p n (place slots d).name q longer.rest Less higher.0 (λ e. absurd (cc))) (rows_from levels slots (p ++ (place slots d).name ∷ []) d) (extends levels (p ++ (place slots d).name ∷ []) d))
      (above_child levels p n cs higher.1)

  -- the rows of all children are above their path
  above_path : (levels : ℕ) (p : FilePath) (cs : List ℕ) → AllByRecursion (λ row. path_cmp p row.path ≡ Less) (rows_in levels p cs)
  above_path levels p [] = tt
  above_path levels p (d ∷ cs) =
      all_append (λ row. path_cmp p row.path ≡ Less) (rows_from levels slots (p ++ (place slots d).name ∷ []) d) (rows_in levels p cs)
      (all_map (λ row longer. ap (path_cmp p) longer.is ∙ cmp_longer p (place slots d).name longer.rest) (rows_from levels slots (p ++ (place slots d).name ∷ []) d) (extends levels (p ++ (place slots d).name ∷ []) d))
      (above_path levels p cs)

order_append : (xs ys : Volume) → AllByRecursion (λ x. AllByRecursion (λ y. path_cmp x.path y.path ≡ Less) ys) xs → AreInOrder xs → AreInOrder ys → AreInOrder (xs ++ ys)
order_append [] ys less front back = back
order_append (x ∷ xs) ys less front back = (all_append (λ y. path_cmp x.path y.path ≡ Less) xs ys front.0 less.0, order_append xs ys less.1 front.1 back)

module _ (slots : Places) (linked : AreLinked slots) where
  pub in_order : (levels : ℕ) (p : FilePath) (i : ℕ) → AreInOrder (rows_from levels slots p i)
  in_order zero p i = tt
  in_order (suc levels) p i = own (place slots i).version (within (λ p c. in_order levels p c) (place slots i).children (linked.ascending i))
    where
      within : ((p : FilePath) (c : ℕ) → AreInOrder (rows_from levels slots p c)) → (cs : List ℕ) → AreAscending slots cs → AreInOrder (rows_in slots levels p cs)
      within each [] ascending = tt
      within each (c ∷ cs) ascending =
          order_append (rows_from levels slots (p ++ (place slots c).name ∷ []) c) (rows_in slots levels p cs)
          (all_map (λ row longer. all_map (λ y less. ap (λ a. path_cmp a y.path) longer.is ∙ less longer.rest) (rows_in slots levels p cs) (above_child slots levels p (place slots c).name cs ascending.0)) (rows_from levels slots (p ++ (place slots c).name ∷ []) c) (extends slots levels (p ++ (place slots c).name ∷ []) c))
          (each (p ++ (place slots c).name ∷ []) c) (within each cs ascending.1)

      own : (version : ℕ) → AreInOrder (rows_in slots levels p (place slots i).children) → AreInOrder (option_to_list (cond (version == 0) None (Some (record { path = p; version = (place slots i).version; node = (place slots i).node }))) ++ rows_in slots levels p (place slots i).children)
      own version rest = elim (version == 0) as (λ b. AreInOrder (option_to_list (cond b None (Some (record { path = p; version = (place slots i).version; node = (place slots i).node }))) ++ rows_in slots levels p (place slots i).children)) [
        | true ↦ rest
        | false ↦ (above_path slots levels p (place slots i).children, rest)
      ]

-- ---- what a path finds

not_equal : (o : Ordering) (xs : Volume) (r : FilePath) → (o ≡ Equal → ⊥) → AllByRecursion (λ row. path_cmp row.path r ≡ o) xs → row_at xs r ≡ None
not_equal o xs r differ all = find_none (is_at r) xs (all_map (λ row e. ap is_eq e ∙ unlike o differ) xs all)
  where
    unlike : (o : Ordering) → (o ≡ Equal → ⊥) → is_eq o ≡ false
    unlike Less differ = refl
    unlike Greater differ = refl
    unlike Equal differ = absurd (differ refl)

-- no row above a path is at it
none_above : (xs : Volume) (r : FilePath) → AllByRecursion (λ row. path_cmp r row.path ≡ Less) xs → row_at xs r ≡ None
none_above xs r above = not_equal Greater xs r (λ e. absurd (cc)) (all_map (λ row less. paths_total.antisymm row.path r ∙ ap ordering_reverse less) xs above)

-- the row that a path finds: that of its slot, if it has one
abbrev pub row_of : Places → FilePath → Option ℕ → Option Row
row_of slots path None = None
row_of slots path (Some i) = own_row path (place slots i)

module _ (slots : Places) (linked : AreLinked slots) where
  -- below the child of a name, or nowhere
  abbrev through : ℕ → FilePath → FilePath → Option ℕ → Option Row
  through levels p path None = None
  through levels p path (Some c) = row_at (rows_from levels slots (p ++ (place slots c).name ∷ []) c) path

  -- what goes on from a name is found below the child of that name
  in_child : (levels : ℕ) (p : FilePath) (n : List ℕ) (q : FilePath) (cs : List ℕ) → AreAscending slots cs → row_at (rows_in slots levels p cs) ((p ++ n ∷ []) ++ q) ≡ through levels p ((p ++ n ∷ []) ++ q) (child_named slots cs n)
  in_child levels p n q [] ascending = refl
  in_child levels p n q (c ∷ cs) ascending =
      find-append (is_at ((p ++ n ∷ []) ++ q)) (rows_from levels slots (p ++ (place slots c).name ∷ []) c) (rows_in slots levels p cs) ∙ by (name_cmp (place slots c).name n) refl (in_child levels p n q cs ascending.1)
    where
      other : (o : Ordering) → name_cmp (place slots c).name n ≡ o → (o ≡ Equal → ⊥) → row_at (rows_from levels slots (p ++ (place slots c).name ∷ []) c) ((p ++ n ∷ []) ++ q) ≡ None
      other o e differ = not_equal o (rows_from levels slots (p ++ (place slots c).name ∷ []) c) ((p ++ n ∷ []) ++ q) differ (all_map (λ row longer. ap (λ a. path_cmp a ((p ++ n ∷ []) ++ q)) longer.is ∙ cmp_apart p (place slots c).name n longer.rest q o e differ) (rows_from levels slots (p ++ (place slots c).name ∷ []) c) (extends slots levels (p ++ (place slots c).name ∷ []) c))

      by : (o : Ordering) → name_cmp (place slots c).name n ≡ o → row_at (rows_in slots levels p cs) ((p ++ n ∷ []) ++ q) ≡ through levels p ((p ++ n ∷ []) ++ q) (child_named slots cs n) → option_or (row_at (rows_from levels slots (p ++ (place slots c).name ∷ []) c) ((p ++ n ∷ []) ++ q)) (row_at (rows_in slots levels p cs) ((p ++ n ∷ []) ++ q)) ≡ through levels p ((p ++ n ∷ []) ++ q) (child_named slots (c ∷ cs) n)
      by Less e rest = rw (other Less e (λ d. absurd (cc)), e) rest
      by Greater e rest = rw (other Greater e (λ d. absurd (cc)), e) rest
      by Equal e rest =
          let same = same_name (place slots c).name n e in
          let none = none_above (rows_in slots levels p cs) ((p ++ n ∷ []) ++ q) (all_map (λ row less. ap (λ m. path_cmp ((p ++ m ∷ []) ++ q) row.path) (sym same) ∙ less q) (rows_in slots levels p cs) (above_child slots levels p (place slots c).name cs ascending.0)) in
          rw (none, e) (none_behind (row_at (rows_from levels slots (p ++ (place slots c).name ∷ []) c) ((p ++ n ∷ []) ++ q)))

  -- a path from a slot down finds the row of its own slot, if it has one and is within the levels
  pub found : (levels : ℕ) (p : FilePath) (i : ℕ) (q : FilePath) → (slot_of slots i q ≡ None) ⊎ (length q < levels) → row_at (rows_from levels slots p i) (p ++ q) ≡ row_of slots (p ++ q) (slot_of slots i q)
  found zero p i q (inl none) = rw none refl
  found zero p i q (inr deep) = absurd (omega arith)
  found (suc levels) p i [] reach =
      rw append-nil (
      find-append (is_at p) (option_to_list (own_row p (place slots i))) (rows_in slots levels p (place slots i).children)
      ∙ rw (own_is_at p (place slots i), none_above (rows_in slots levels p (place slots i).children) p (above_path slots levels p (place slots i).children)) (none_behind (own_row p (place slots i)))
      )
  found (suc levels) p i (n ∷ q) reach =
      rw (← append_assoc p (n ∷ []) q) (
      find-append (is_at ((p ++ n ∷ []) ++ q)) (option_to_list (own_row p (place slots i))) (rows_in slots levels p (place slots i).children)
      ∙ rw above (in_child levels p n q (place slots i).children (linked.ascending i) ∙ onward (child_named slots (place slots i).children n) refl (λ c. found levels (p ++ (place slots c).name ∷ []) c q))
      )
    where
      above : row_at (option_to_list (own_row p (place slots i))) ((p ++ n ∷ []) ++ q) ≡ None
      above = not_equal Less (option_to_list (own_row p (place slots i))) ((p ++ n ∷ []) ++ q) (λ e. absurd (cc)) (own_all (λ row. path_cmp row.path ((p ++ n ∷ []) ++ q) ≡ Less) p (place slots i) (cmp_longer p n q))

      onward : (o : Option ℕ) → child_named slots (place slots i).children n ≡ o → ((c : ℕ) → (slot_of slots c q ≡ None) ⊎ (length q < levels) → row_at (rows_from levels slots (p ++ (place slots c).name ∷ []) c) ((p ++ (place slots c).name ∷ []) ++ q) ≡ row_of slots ((p ++ (place slots c).name ∷ []) ++ q) (slot_of slots c q)) → through levels p ((p ++ n ∷ []) ++ q) o ≡ row_of slots ((p ++ n ∷ []) ++ q) (option_and_then (λ c. slot_of slots c q) o)
      onward None e rest = refl
      onward (Some c) e rest =
          let same = child_has_name slots (place slots i).children n c e in
          let near : (slot_of slots c q ≡ None) ⊎ (length q < levels) = elim reach [ inl none ↦ inl (rw e at none) | inr deep ↦ inr (omega arith) ] in
          subst (λ m. row_at (rows_from levels slots (p ++ (place slots c).name ∷ []) c) ((p ++ m ∷ []) ++ q) ≡ row_of slots ((p ++ m ∷ []) ++ q) (slot_of slots c q)) same (rest c near)

-- the row of each path in the rows of all slots is that of its slot
pub found_row : (slots : Places) (path : FilePath) → IsArena slots → row_at (rows_of slots) path ≡ row_of slots path (slot_of slots 0 path)
unfolding rows_of
found_row slots path arena = found slots arena.linked 34 [] 0 path (by (slot_of slots 0 path) refl)
  where
    by : (o : Option ℕ) → slot_of slots 0 path ≡ o → (slot_of slots 0 path ≡ None) ⊎ (length path < 34)
    by None e = inl e
    by (Some i) e = let path = arena.paths path i e in inr (omega (arith, path.shallow))

pub rows_in_order : (slots : Places) → AreLinked slots → AreInOrder (rows_of slots)
unfolding rows_of
rows_in_order slots linked = in_order slots linked 34 [] 0

module _ (slots : Places) (path : FilePath) (arena : IsArena slots) where
  pub none_found : slot_of slots 0 path ≡ None → row_at (rows_of slots) path ≡ None
  none_found e = found_row slots path arena ∙ ap (row_of slots path) e

  pub one_found : (i : ℕ) → slot_of slots 0 path ≡ Some i → row_at (rows_of slots) path ≡ own_row path (place slots i)
  one_found i e = found_row slots path arena ∙ ap (row_of slots path) e

  pub version_found : (i : ℕ) → slot_of slots 0 path ≡ Some i → version_at (rows_of slots) path ≡ (place slots i).version
  version_found i e = ap (λ row. unwrap_or (option_map (λ r. r.version) row) 0) (one_found i e) ∙ by ((place slots i).version == 0) refl
    where
      by : (b : Bool) → ((place slots i).version == 0) ≡ b → unwrap_or (option_map (λ r. r.version) (own_row path (place slots i))) 0 ≡ (place slots i).version
      by true z = rw z (sym (eqb-true (place slots i).version 0 z))
      by false z = rw z refl

  pub node_found : (i : ℕ) → slot_of slots 0 path ≡ Some i → node_at (rows_of slots) path ≡ (place slots i).node
  node_found i e = ap (option_and_then (λ row. row.node)) (one_found i e) ∙ by ((place slots i).version == 0) refl
    where
      by : (b : Bool) → ((place slots i).version == 0) ≡ b → option_and_then (λ row. row.node) (own_row path (place slots i)) ≡ (place slots i).node
      by true z = rw z (sym (arena.bare i (eqb-true (place slots i).version 0 z)))
      by false z = rw z refl
