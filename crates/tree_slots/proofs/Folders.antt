-- What stands in a folder, by its slots.
use Rattle.std.proofs.Common.{◌≡◌, ℕ, zero, suc, ◌+◌, ◌-◌, ◌<◌, ◌≤◌, ◌==◌, Bool, true, false, cond, List, [], ◌∷◌, ◌++◌, length, get_or, take, filter, map, Option, Some, None, is_some, inl, inr, arith, refl, sym, ap, ◌∙◌, subst}
use Rattle.std.specs.Prelude.{◌⊎◌, ◌&&◌}
use Rattle.std.proofs.Common.{drop, drop-cons}
use Rattle.tree_values.proofs.Children.{get_behind, get_past}
use Rattle.std.specs.List.{AllByRecursion, slice_get}
use Rattle.std.specs.Option.{option_to_list, option_and_then}
use Rattle.std.proofs.lemmas.Bool.{eqb-true}
use Rattle.std.proofs.lemmas.List.{append_assoc, append-nil, length-append, length-take, take_at, get_or_at, take_all, take-append-drop, map-append}
use Rattle.std.proofs.lemmas.List.Elements.{filter-append}
use Rattle.std.specs.declared.cmp.Ordering.{Ordering}
use Rattle.std.specs.declared.cmp.Ordering.TheVariants.{Less, Equal, Greater}
use Rattle.std.specs.Ordering.{ordering_reverse, is_eq}
use Rattle.file_paths.specs.Path.{FilePath, path_cmp, folder_of, last_name}
use Rattle.tree_values.specs.declared.node.Row.{Row}
use Rattle.tree_values.specs.Tree.{Volume, is_child, is_root, children}
use Rattle.tree_slots.specs.Arena.{Place, Places, place, name_cmp, child_named, slot_of, own_row, rows_from, rows_of, standing, AreAscending, AreLinked, IsArena}
use Rattle.file_paths.proofs.Order.{paths_total, same_path, same_place}
use Rattle.tree_values.proofs.Ordered.{all_map, all_append, filter_none, above_itself}
use Rattle.tree_slots.proofs.Slots.{same_name, names_total, child_has_name}
use Rattle.tree_slots.proofs.Walk.{Extends, extends, rows_in, cmp_apart, cmp_longer, own_all}

-- ---- folders of paths

pub folder_of_name : (p : FilePath) (n : List ℕ) → folder_of (p ++ n ∷ []) ≡ p
folder_of_name p n =
    let long = length-append p (n ∷ []) in
    let short : length (p ++ n ∷ []) - 1 ≡ length p = omega (arith, long) in
    ap (λ k. take k (p ++ n ∷ [])) short ∙ take_at p (n ∷ []) (length p) refl

folder_further : (a : FilePath) (x : List ℕ) (r : FilePath) → folder_of (a ++ x ∷ r) ≡ a ++ folder_of (x ∷ r)
folder_further [] x r = refl
folder_further (y ∷ a) x r = over (length (a ++ x ∷ r)) refl (folder_further a x r)
  where
    long : 0 < length (a ++ x ∷ r)
    long = omega (arith, length-append a (x ∷ r))

    over : (k : ℕ) → length (a ++ x ∷ r) ≡ k → take (length (a ++ x ∷ r) - 1) (a ++ x ∷ r) ≡ a ++ folder_of (x ∷ r) → take (suc (length (a ++ x ∷ r)) - 1) (y ∷ (a ++ x ∷ r)) ≡ y ∷ (a ++ folder_of (x ∷ r))
    over zero e rest = absurd (omega (arith, long))
    over (suc k) e rest =
        let one : suc (length (a ++ x ∷ r)) - 1 ≡ suc (length (a ++ x ∷ r) - 1) = omega (arith, long) in
        rw one (ap (λ more. y ∷ more) rest)

-- the folder of what goes on from a name is the path before it, or goes on from the name
folder_within : (p : FilePath) (n : List ℕ) (path : FilePath) → Extends (p ++ n ∷ []) path → (folder_of path ≡ p) ⊎ Extends (p ++ n ∷ []) (folder_of path)
folder_within p n path longer = by longer.rest longer.is
  where
    by : (r : FilePath) → path ≡ (p ++ n ∷ []) ++ r → (folder_of path ≡ p) ⊎ Extends (p ++ n ∷ []) (folder_of path)
    by [] e = inl (ap folder_of (e ∙ append-nil (p ++ n ∷ [])) ∙ folder_of_name p n)
    by (x ∷ r) e = inr (record { rest = folder_of (x ∷ r); is = ap folder_of e ∙ folder_further (p ++ n ∷ []) x r })

-- ---- rows that are no children

abbrev Outside : FilePath → Row → Type 0
Outside path row = path_cmp (folder_of row.path) path ≡ Equal → ⊥

no_children : (path : FilePath) (xs : Volume) → AllByRecursion (Outside path) xs → filter (is_child path) xs ≡ []
no_children path xs all = filter_none (is_child path) xs (all_map (λ row outside. both (is_some row.node) (path_cmp (folder_of row.path) path) outside) xs all)
  where
    both : (b : Bool) (o : Ordering) → (o ≡ Equal → ⊥) → (b && is_eq o) ≡ false
    both false o differ = refl
    both true Less differ = refl
    both true Greater differ = refl
    both true Equal differ = absurd (differ refl)

less_differs : (o : Ordering) → o ≡ Less → o ≡ Equal → ⊥
less_differs o e f = absurd (cc)

greater_differs : (o : Ordering) → o ≡ Greater → o ≡ Equal → ⊥
greater_differs o e f = absurd (cc)

-- what goes on from another name is in no folder that goes on from this one
outside_other : (p : FilePath) (m n : List ℕ) (q : FilePath) (o : Ordering) → name_cmp m n ≡ o → (o ≡ Equal → ⊥) → (row : Row) → Extends (p ++ m ∷ []) row.path → Outside ((p ++ n ∷ []) ++ q) row
outside_other p m n q o e differ row longer same = elim (folder_within p m row.path longer) [
  | inl here ↦ less_differs (path_cmp (folder_of row.path) ((p ++ n ∷ []) ++ q)) (ap (λ a. path_cmp a ((p ++ n ∷ []) ++ q)) here ∙ cmp_longer p n q) same
  | inr on ↦ differ (sym (ap (λ a. path_cmp a ((p ++ n ∷ []) ++ q)) on.is ∙ cmp_apart p m n on.rest q o e differ) ∙ same)
]

-- what goes on by two names is not in the folder itself
outside_deeper : (p : FilePath) (n m : List ℕ) (row : Row) → Extends ((p ++ n ∷ []) ++ m ∷ []) row.path → Outside p row
outside_deeper p n m row longer same = elim (folder_within (p ++ n ∷ []) m row.path longer) [
  | inl here ↦ above (folder_of row.path) [] (here ∙ sym (append-nil (p ++ n ∷ []))) same
  | inr on ↦ above (folder_of row.path) (m ∷ on.rest) (on.is ∙ append_assoc (p ++ n ∷ []) (m ∷ []) on.rest) same
]
  where
    above : (a r : FilePath) → a ≡ (p ++ n ∷ []) ++ r → path_cmp a p ≡ Equal → ⊥
    above a r e same = greater_differs (path_cmp a p) (ap (λ b. path_cmp b p) e ∙ paths_total.antisymm ((p ++ n ∷ []) ++ r) p ∙ ap ordering_reverse (cmp_longer p n r)) same

-- what stands above a folder is not in it
outside_above : (p : FilePath) (n : List ℕ) (q : FilePath) (row : Row) → row.path ≡ p → Outside ((p ++ n ∷ []) ++ q) row
outside_above p n q row is same =
    let equal : folder_of row.path ≡ (p ++ n ∷ []) ++ q = same_path (folder_of row.path) ((p ++ n ∷ []) ++ q) same in
    let whole : folder_of p ≡ (p ++ n ∷ []) ++ q = sym (ap folder_of is) ∙ equal in
    omega (arith, ap length whole, length-take (length p - 1) p, length-append (p ++ n ∷ []) q, length-append p (n ∷ []))

module _ (slots : Places) (linked : AreLinked slots) (bare : (i : ℕ) → (place slots i).version ≡ 0 → (place slots i).node ≡ None) where
  -- ---- the rows of what stands in a folder

  abbrev folder_rows : FilePath → List ℕ → Volume
  folder_rows p cs = map (λ c. record { path = p ++ (place slots c).name ∷ []; version = (place slots c).version; node = (place slots c).node }) (filter (λ c. is_some (place slots c).node) cs)

  deeper_rows : (levels : ℕ) (p : FilePath) (n : List ℕ) (cs : List ℕ) → AllByRecursion (Outside p) (rows_in slots levels (p ++ n ∷ []) cs)
  deeper_rows levels p n [] = tt
  deeper_rows levels p n (d ∷ cs) =
      all_append (Outside p) (rows_from levels slots ((p ++ n ∷ []) ++ (place slots d).name ∷ []) d) (rows_in slots levels (p ++ n ∷ []) cs)
      (all_map (λ row longer. outside_deeper p n (place slots d).name row longer) (rows_from levels slots ((p ++ n ∷ []) ++ (place slots d).name ∷ []) d) (extends slots levels ((p ++ n ∷ []) ++ (place slots d).name ∷ []) d))
      (deeper_rows levels p n cs)

  own_child : (p : FilePath) (n : List ℕ) (slot : Place) → (slot.version ≡ 0 → slot.node ≡ None) → filter (is_child p) (option_to_list (own_row (p ++ n ∷ []) slot)) ≡ cond (is_some slot.node) (record { path = p ++ n ∷ []; version = slot.version; node = slot.node } ∷ []) []
  own_child p n slot bare = by (slot.version == 0) refl
    where
      some : (b : Bool) → is_some slot.node ≡ b → filter (is_child p) (record { path = p ++ n ∷ []; version = slot.version; node = slot.node } ∷ []) ≡ cond (is_some slot.node) (record { path = p ++ n ∷ []; version = slot.version; node = slot.node } ∷ []) []
      some true e = rw (e, folder_of_name p n, same_place p) refl
      some false e = rw e refl

      by : (b : Bool) → (slot.version == 0) ≡ b → filter (is_child p) (option_to_list (own_row (p ++ n ∷ []) slot)) ≡ cond (is_some slot.node) (record { path = p ++ n ∷ []; version = slot.version; node = slot.node } ∷ []) []
      by true z = rw (z, bare (eqb-true slot.version 0 z)) refl
      by false z = rw z (some (is_some slot.node) refl)

  one_child : (levels : ℕ) (p : FilePath) (c : ℕ) → filter (is_child p) (rows_from (suc levels) slots (p ++ (place slots c).name ∷ []) c) ≡ cond (is_some (place slots c).node) (record { path = p ++ (place slots c).name ∷ []; version = (place slots c).version; node = (place slots c).node } ∷ []) []
  one_child levels p c =
      let none = no_children p (rows_in slots levels (p ++ (place slots c).name ∷ []) (place slots c).children) (deeper_rows levels p (place slots c).name (place slots c).children) in
      filter-append (is_child p) (option_to_list (own_row (p ++ (place slots c).name ∷ []) (place slots c))) (rows_in slots levels (p ++ (place slots c).name ∷ []) (place slots c).children)
      ∙ rw none (append-nil (filter (is_child p) (option_to_list (own_row (p ++ (place slots c).name ∷ []) (place slots c)))))
      ∙ own_child p (place slots c).name (place slots c) (bare c)

  all_children : (levels : ℕ) (p : FilePath) (cs : List ℕ) → filter (is_child p) (rows_in slots (suc levels) p cs) ≡ folder_rows p cs
  all_children levels p [] = refl
  all_children levels p (c ∷ cs) =
      filter-append (is_child p) (rows_from (suc levels) slots (p ++ (place slots c).name ∷ []) c) (rows_in slots (suc levels) p cs)
      ∙ ap (λ xs. xs ++ filter (is_child p) (rows_in slots (suc levels) p cs)) (one_child levels p c)
      ∙ by (is_some (place slots c).node) refl (all_children levels p cs)
    where
      by : (b : Bool) → is_some (place slots c).node ≡ b → filter (is_child p) (rows_in slots (suc levels) p cs) ≡ folder_rows p cs → cond (is_some (place slots c).node) (record { path = p ++ (place slots c).name ∷ []; version = (place slots c).version; node = (place slots c).node } ∷ []) [] ++ filter (is_child p) (rows_in slots (suc levels) p cs) ≡ folder_rows p (c ∷ cs)
      by true e rest = rw e (ap (λ xs. record { path = p ++ (place slots c).name ∷ []; version = (place slots c).version; node = (place slots c).node } ∷ xs) rest)
      by false e rest = rw e rest

  -- ---- down to the folder

  outside_rest : (levels : ℕ) (p : FilePath) (n : List ℕ) (q : FilePath) (cs : List ℕ) → AllByRecursion (λ d. name_cmp n (place slots d).name ≡ Less) cs → AllByRecursion (Outside ((p ++ n ∷ []) ++ q)) (rows_in slots levels p cs)
  outside_rest levels p n q [] higher = tt
  outside_rest levels p n q (d ∷ cs) higher =
      all_append (Outside ((p ++ n ∷ []) ++ q)) (rows_from levels slots (p ++ (place slots d).name ∷ []) d) (rows_in slots levels p cs)
      (all_map (λ row longer. outside_other p (place slots d).name n q Greater (names_total.antisymm (place slots d).name n ∙ ap ordering_reverse higher.0) (λ e. absurd (cc)) row longer) (rows_from levels slots (p ++ (place slots d).name ∷ []) d) (extends slots levels (p ++ (place slots d).name ∷ []) d))
      (outside_rest levels p n q cs higher.1)

  abbrev through : ℕ → FilePath → FilePath → Option ℕ → Volume
  through levels p path None = []
  through levels p path (Some c) = filter (is_child path) (rows_from levels slots (p ++ (place slots c).name ∷ []) c)

  -- only the child of the name has what is in a folder that goes on from it
  only_child : (levels : ℕ) (p : FilePath) (n : List ℕ) (q : FilePath) (cs : List ℕ) → AreAscending slots cs → filter (is_child ((p ++ n ∷ []) ++ q)) (rows_in slots levels p cs) ≡ through levels p ((p ++ n ∷ []) ++ q) (child_named slots cs n)
  only_child levels p n q [] ascending = refl
  only_child levels p n q (c ∷ cs) ascending =
      filter-append (is_child ((p ++ n ∷ []) ++ q)) (rows_from levels slots (p ++ (place slots c).name ∷ []) c) (rows_in slots levels p cs) ∙ by (name_cmp (place slots c).name n) refl (only_child levels p n q cs ascending.1)
    where
      other : (o : Ordering) → name_cmp (place slots c).name n ≡ o → (o ≡ Equal → ⊥) → filter (is_child ((p ++ n ∷ []) ++ q)) (rows_from levels slots (p ++ (place slots c).name ∷ []) c) ≡ []
      other o e differ = no_children ((p ++ n ∷ []) ++ q) (rows_from levels slots (p ++ (place slots c).name ∷ []) c) (all_map (λ row longer. outside_other p (place slots c).name n q o e differ row longer) (rows_from levels slots (p ++ (place slots c).name ∷ []) c) (extends slots levels (p ++ (place slots c).name ∷ []) c))

      by : (o : Ordering) → name_cmp (place slots c).name n ≡ o → filter (is_child ((p ++ n ∷ []) ++ q)) (rows_in slots levels p cs) ≡ through levels p ((p ++ n ∷ []) ++ q) (child_named slots cs n) → filter (is_child ((p ++ n ∷ []) ++ q)) (rows_from levels slots (p ++ (place slots c).name ∷ []) c) ++ filter (is_child ((p ++ n ∷ []) ++ q)) (rows_in slots levels p cs) ≡ through levels p ((p ++ n ∷ []) ++ q) (child_named slots (c ∷ cs) n)
      by Less e rest = rw (other Less e (λ d. absurd (cc)), e) rest
      by Greater e rest = rw (other Greater e (λ d. absurd (cc)), e) rest
      by Equal e rest =
          let same = same_name (place slots c).name n e in
          let none = no_children ((p ++ n ∷ []) ++ q) (rows_in slots levels p cs) (outside_rest levels p n q cs (subst (λ m. AllByRecursion (λ d. name_cmp m (place slots d).name ≡ Less) cs) same ascending.0)) in
          rw (none, e) (append-nil (filter (is_child ((p ++ n ∷ []) ++ q)) (rows_from levels slots (p ++ (place slots c).name ∷ []) c)))

  abbrev pub rows_at : FilePath → Option ℕ → Volume
  rows_at path None = []
  rows_at path (Some i) = folder_rows path (place slots i).children

  pub in_folder : (levels : ℕ) (p : FilePath) (i : ℕ) (q : FilePath) → ((place slots i).version ≡ 0) ⊎ (is_root p ≡ false) → (slot_of slots i q ≡ None) ⊎ (length q + 1 < levels) → filter (is_child (p ++ q)) (rows_from levels slots p i) ≡ rows_at (p ++ q) (slot_of slots i q)
  in_folder zero p i q own (inl none) = rw none refl
  in_folder zero p i q own (inr deep) = absurd (omega arith)
  in_folder (suc zero) p i [] own (inl none) = absurd (cc)
  in_folder (suc zero) p i [] own (inr deep) = absurd (omega arith)
  in_folder (suc (suc levels)) p i [] own reach =
      rw append-nil (
      filter-append (is_child p) (option_to_list (own_row p (place slots i))) (rows_in slots (suc levels) p (place slots i).children)
      ∙ rw (none own) (all_children levels p (place slots i).children)
      )
    where
      none : ((place slots i).version ≡ 0) ⊎ (is_root p ≡ false) → filter (is_child p) (option_to_list (own_row p (place slots i))) ≡ []
      none (inl gone) = rw gone refl
      none (inr below) = no_children p (option_to_list (own_row p (place slots i))) (own_all (Outside p) p (place slots i) (λ same. above_itself p below (same_path (folder_of p) p same)))
  in_folder (suc levels) p i (n ∷ q) own reach =
      rw (← append_assoc p (n ∷ []) q) (
      filter-append (is_child ((p ++ n ∷ []) ++ q)) (option_to_list (own_row p (place slots i))) (rows_in slots levels p (place slots i).children)
      ∙ rw above (only_child levels p n q (place slots i).children (linked.ascending i) ∙ onward (child_named slots (place slots i).children n) refl (λ c. in_folder levels (p ++ (place slots c).name ∷ []) c q))
      )
    where
      above : filter (is_child ((p ++ n ∷ []) ++ q)) (option_to_list (own_row p (place slots i))) ≡ []
      above = no_children ((p ++ n ∷ []) ++ q) (option_to_list (own_row p (place slots i))) (own_all (Outside ((p ++ n ∷ []) ++ q)) p (place slots i) (outside_above p n q (record { path = p; version = (place slots i).version; node = (place slots i).node }) refl))

      not_root : (m : List ℕ) (p : FilePath) → is_root (p ++ m ∷ []) ≡ false
      not_root m [] = refl
      not_root m (x ∷ p) = refl

      onward : (o : Option ℕ) → child_named slots (place slots i).children n ≡ o → ((c : ℕ) → ((place slots c).version ≡ 0) ⊎ (is_root (p ++ (place slots c).name ∷ []) ≡ false) → (slot_of slots c q ≡ None) ⊎ (length q + 1 < levels) → filter (is_child ((p ++ (place slots c).name ∷ []) ++ q)) (rows_from levels slots (p ++ (place slots c).name ∷ []) c) ≡ rows_at ((p ++ (place slots c).name ∷ []) ++ q) (slot_of slots c q)) → through levels p ((p ++ n ∷ []) ++ q) o ≡ rows_at ((p ++ n ∷ []) ++ q) (option_and_then (λ c. slot_of slots c q) o)
      onward None e rest = refl
      onward (Some c) e rest =
          let same = child_has_name slots (place slots i).children n c e in
          let near : (slot_of slots c q ≡ None) ⊎ (length q + 1 < levels) = elim reach [ inl none ↦ inl (rw e at none) | inr deep ↦ inr (omega arith) ] in
          subst (λ m. filter (is_child ((p ++ m ∷ []) ++ q)) (rows_from levels slots (p ++ (place slots c).name ∷ []) c) ≡ rows_at ((p ++ m ∷ []) ++ q) (slot_of slots c q)) same (rest c (inr (not_root (place slots c).name p)) near)

  last_of_name : (p : FilePath) (n : List ℕ) → last_name (p ++ n ∷ []) ≡ n
  last_of_name p n = get_or_at p n [] [] (length (p ++ n ∷ []) - 1) (omega (arith, length-append p (n ∷ [])))

  names_of_rows : (path : FilePath) (cs : List ℕ) → map (λ (row : Row). last_name row.path) (map (λ c. record { path = path ++ (place slots c).name ∷ []; version = (place slots c).version; node = (place slots c).node }) cs) ≡ map (λ c. (place slots c).name) cs
  names_of_rows path [] = refl
  names_of_rows path (c ∷ cs) = rw (last_of_name path (place slots c).name, names_of_rows path cs) refl

-- ---- the children of a path

module _ (slots : Places) (path : FilePath) (arena : IsArena slots) where
  folder_found : filter (is_child path) (rows_of slots) ≡ rows_at slots arena.linked arena.bare path (slot_of slots 0 path)
  unfolding rows_of
  folder_found = in_folder slots arena.linked arena.bare 34 [] 0 path (inl arena.root) (by (slot_of slots 0 path) refl)
    where
      by : (o : Option ℕ) → slot_of slots 0 path ≡ o → (slot_of slots 0 path ≡ None) ⊎ (length path + 1 < 34)
      by None e = inl e
      by (Some i) e = let legal = arena.paths path i e in inr (omega (arith, legal.shallow))

  pub no_folder : slot_of slots 0 path ≡ None → children (rows_of slots) path ≡ []
  no_folder e = ap (map (λ (row : Row). last_name row.path)) (folder_found ∙ ap (rows_at slots arena.linked arena.bare path) e)

  pub children_found : (i : ℕ) → slot_of slots 0 path ≡ Some i → children (rows_of slots) path ≡ standing slots (place slots i).children
  children_found i e =
      ap (map (λ (row : Row). last_name row.path)) (folder_found ∙ ap (rows_at slots arena.linked arena.bare path) e)
      ∙ names_of_rows slots arena.linked arena.bare path (filter (λ c. is_some (place slots c).node) (place slots i).children)

-- ---- the first, or one by its number

standing_append : (slots : Places) (xs ys : List ℕ) → standing slots (xs ++ ys) ≡ standing slots xs ++ standing slots ys
standing_append slots xs ys =
    ap (map (λ c. (place slots c).name)) (filter-append (λ c. is_some (place slots c).node) xs ys)
    ∙ map-append (λ c. (place slots c).name) (filter (λ c. is_some (place slots c).node) xs) (filter (λ c. is_some (place slots c).node) ys)

-- a slot at which something stands, behind i others
pub nth_here : (slots : Places) (cs : List ℕ) (k i : ℕ) (slot : Place) → k < length cs → slot ≡ place slots (get_or cs k 0) → is_some slot.node ≡ true → i ≡ length (standing slots (take k cs)) → slice_get (standing slots cs) i ≡ Some slot.name
nth_here slots cs k i slot within is some behind =
    let c : ℕ = get_or cs k 0 in
    let split : cs ≡ take k cs ++ c ∷ drop (suc k) cs = sym (take-append-drop k cs) ∙ ap (λ back. take k cs ++ back) (drop-cons cs k 0 within) in
    let test : is_some (place slots c).node ≡ true = ap (λ (x : Place). is_some x.node) (sym is) ∙ some in
    ap (λ all. slice_get (standing slots all) i) split
    ∙ ap (λ all. slice_get all i) (standing_append slots (take k cs) (c ∷ drop (suc k) cs))
    ∙ rw test (ap (slice_get (standing slots (take k cs) ++ (place slots c).name ∷ standing slots (drop (suc k) cs))) behind ∙ get_behind (standing slots (take k cs)) (place slots c).name (standing slots (drop (suc k) cs)))
    ∙ ap (λ (x : Place). Some x.name) (sym is)

pub nth_past : (slots : Places) (cs : List ℕ) (k left i : ℕ) → length cs ≤ k → left + length (standing slots (take k cs)) ≡ i → slice_get (standing slots cs) i ≡ None
nth_past slots cs k left i end count =
    get_past (standing slots cs) i (omega (arith, count, ap (λ all. length (standing slots all)) (take_all k cs end)))
