-- Spelling the rows of slots, one slot after the other.
use Rattle.std.proofs.Common.{◌≡◌, ℕ, zero, suc, ◌+◌, ◌-◌, ◌<◌, ◌≤◌, List, [], ◌∷◌, ◌++◌, length, get_or, take, arith, refl, sym, ap, ◌∙◌, drop}
use Rattle.std.specs.List.{AllByRecursion, flat_map}
use Rattle.std.specs.Option.{option_to_list}
use Rattle.std.proofs.lemmas.List.{append_assoc, take_all, take_more, flat_map_more, take-append-drop}
use Rattle.std.proofs.lemmas.Grind.{flat_map-append}
use Rattle.byte_fields.specs.Field.{IsFront}
use Rattle.byte_fields.proofs.Fronts.{front_all, front_first, front_second, front_same}
use Rattle.file_paths.specs.Path.{FilePath}
use Rattle.tree_values.specs.declared.node.Row.{Row}
use Rattle.tree_values.specs.Tree.{Volume}
use Rattle.tree_values.specs.Spelling.{row as spelled_row}
use Rattle.tree_slots.specs.Arena.{Places, place, own_row, rows_from}

-- ---- what holds of all rows holds of those of a slot, and of those of each slot in it

module _ (P : Row → Type 0) where
  front_holds : (xs ys : Volume) → AllByRecursion P (xs ++ ys) → AllByRecursion P xs
  front_holds [] ys all = tt
  front_holds (x ∷ xs) ys all = (all.0, front_holds xs ys all.1)

  back_holds : (xs ys : Volume) → AllByRecursion P (xs ++ ys) → AllByRecursion P ys
  back_holds [] ys all = all
  back_holds (x ∷ xs) ys all = back_holds xs ys all.1

  piece_holds : (f : ℕ → Volume) (cs : List ℕ) (k : ℕ) → k < length cs → AllByRecursion P (flat_map f cs) → AllByRecursion P (f (get_or cs k 0))
  piece_holds f [] k within all = absurd (omega arith)
  piece_holds f (c ∷ cs) zero within all = front_holds (f c) (flat_map f cs) all
  piece_holds f (c ∷ cs) (suc k) within all =
      let less : k < length cs = omega arith in
      piece_holds f cs k less (back_holds (f c) (flat_map f cs) all)

  pub own_holds : (levels : ℕ) (slots : Places) (p : FilePath) (i : ℕ) → (levels ≡ 0 → ⊥) → AllByRecursion P (rows_from levels slots p i) → AllByRecursion P (option_to_list (own_row p (place slots i)))
  own_holds zero slots p i some all = absurd (some refl)
  own_holds (suc levels) slots p i some all =
      front_holds (option_to_list (own_row p (place slots i))) (flat_map (λ c. rows_from levels slots (p ++ (place slots c).name ∷ []) c) (place slots i).children) all

  pub child_holds : (levels : ℕ) (slots : Places) (p : FilePath) (i k : ℕ) → (levels ≡ 0 → ⊥) → k < length (place slots i).children → AllByRecursion P (rows_from levels slots p i)
      → AllByRecursion P (rows_from (levels - 1) slots (p ++ (place slots (get_or (place slots i).children k 0)).name ∷ []) (get_or (place slots i).children k 0))
  child_holds zero slots p i k some within all = absurd (some refl)
  child_holds (suc levels) slots p i k some within all =
      let one : suc levels - 1 ≡ levels = omega arith in
      rw one
      (piece_holds (λ c. rows_from levels slots (p ++ (place slots c).name ∷ []) c) (place slots i).children k within
      (back_holds (option_to_list (own_row p (place slots i))) (flat_map (λ c. rows_from levels slots (p ++ (place slots c).name ∷ []) c) (place slots i).children) all))

-- ---- the bytes

-- the rows of a slot and of so many of its children
abbrev pub rows_up_to : ℕ → Places → FilePath → ℕ → ℕ → Volume
rows_up_to levels slots p i k = option_to_list (own_row p (place slots i)) ++ flat_map (λ c. rows_from (levels - 1) slots (p ++ (place slots c).name ∷ []) c) (take k (place slots i).children)

-- the rows of one more child
rows_more : (levels : ℕ) (slots : Places) (p : FilePath) (i k : ℕ) → k < length (place slots i).children
    → rows_up_to levels slots p i k ++ rows_from (levels - 1) slots (p ++ (place slots (get_or (place slots i).children k 0)).name ∷ []) (get_or (place slots i).children k 0)
    ≡ rows_up_to levels slots p i (k + 1)
rows_more levels slots p i k within =
    let own = option_to_list (own_row p (place slots i)) in
    let cs = (place slots i).children in
    let below : ℕ → Volume = λ c. rows_from (levels - 1) slots (p ++ (place slots c).name ∷ []) c in
    flat_map_more below own (take k cs) (get_or cs k 0) ∙ ap (λ front. own ++ flat_map below front) (sym (take_more cs k 0 within))

pub spelled_more : (levels : ℕ) (slots : Places) (p : FilePath) (i k : ℕ) (start : List ℕ) → k < length (place slots i).children
    → (start ++ flat_map spelled_row (rows_up_to levels slots p i k)) ++ flat_map spelled_row (rows_from (levels - 1) slots (p ++ (place slots (get_or (place slots i).children k 0)).name ∷ []) (get_or (place slots i).children k 0))
    ≡ start ++ flat_map spelled_row (rows_up_to levels slots p i (k + 1))
spelled_more levels slots p i k start within =
    let child = get_or (place slots i).children k 0 in
    let rows = rows_from (levels - 1) slots (p ++ (place slots child).name ∷ []) child in
    append_assoc start (flat_map spelled_row (rows_up_to levels slots p i k)) (flat_map spelled_row rows)
    ∙ ap (λ bytes. start ++ bytes) (sym (flat_map-append spelled_row (rows_up_to levels slots p i k) rows) ∙ ap (flat_map spelled_row) (rows_more levels slots p i k within))

-- the rows of all children
pub spelled_all : (levels : ℕ) (slots : Places) (p : FilePath) (i k : ℕ) → (levels ≡ 0 → ⊥) → length (place slots i).children ≤ k → rows_up_to levels slots p i k ≡ rows_from levels slots p i
spelled_all zero slots p i k some end = absurd (some refl)
spelled_all (suc levels) slots p i k some end =
    let one : suc levels - 1 ≡ levels = omega arith in
    let all : take k (place slots i).children ≡ (place slots i).children = take_all k (place slots i).children end in
    rw (one, all) refl

-- ---- where memory runs out on the way

module _ (levels : ℕ) (slots : Places) (p : FilePath) (i : ℕ) where
  -- a front of the rows so far is one of all rows
  pub front_of_rows : (old new : List ℕ) (k : ℕ) → (levels ≡ 0 → ⊥) → IsFront old new (flat_map spelled_row (rows_up_to levels slots p i k)) → IsFront old new (flat_map spelled_row (rows_from levels slots p i))
  front_of_rows old new k some f =
      let own = option_to_list (own_row p (place slots i)) in
      let cs = (place slots i).children in
      let below : ℕ → Volume = λ c. rows_from (levels - 1) slots (p ++ (place slots c).name ∷ []) c in
      let whole : rows_up_to levels slots p i k ++ flat_map below (drop k cs) ≡ own ++ flat_map below cs =
      append_assoc own (flat_map below (take k cs)) (flat_map below (drop k cs))
      ∙ ap (λ rows. own ++ rows) (sym (flat_map-append below (take k cs) (drop k cs)) ∙ ap (flat_map below) (take-append-drop k cs)) in
      let all : rows_up_to levels slots p i (length cs) ≡ rows_from levels slots p i = spelled_all levels slots p i (length cs) some (omega arith) in
      let same : own ++ flat_map below cs ≡ rows_up_to levels slots p i (length cs) = ap (λ front. own ++ flat_map below front) (sym (take_all (length cs) cs (omega arith))) in
      front_same old new _ _ (sym (flat_map-append spelled_row (rows_up_to levels slots p i k) (flat_map below (drop k cs))) ∙ ap (flat_map spelled_row) (whole ∙ same ∙ all))
      (front_first old new _ _ f)

  -- the row of the slot itself was cut
  pub own_cut : (old new : List ℕ) → (levels ≡ 0 → ⊥) → IsFront old new (flat_map spelled_row (option_to_list (own_row p (place slots i)))) → IsFront old new (flat_map spelled_row (rows_from levels slots p i))
  own_cut old new some f =
      front_of_rows old new 0 some
      (front_same old new _ _ (sym (flat_map-append spelled_row (option_to_list (own_row p (place slots i))) [])) (front_first old new _ _ f))

  -- the rows so far were spelled, and no more
  pub rows_cut : (old new : List ℕ) (k : ℕ) → (levels ≡ 0 → ⊥) → new ≡ old ++ flat_map spelled_row (rows_up_to levels slots p i k) → IsFront old new (flat_map spelled_row (rows_from levels slots p i))
  rows_cut old new k some all = front_of_rows old new k some (front_all old new _ all)

  -- the rows of a child were cut
  pub child_cut : (old middle new : List ℕ) (k : ℕ) → (levels ≡ 0 → ⊥) → k < length (place slots i).children → middle ≡ old ++ flat_map spelled_row (rows_up_to levels slots p i k)
      → IsFront middle new (flat_map spelled_row (rows_from (levels - 1) slots (p ++ (place slots (get_or (place slots i).children k 0)).name ∷ []) (get_or (place slots i).children k 0)))
      → IsFront old new (flat_map spelled_row (rows_from levels slots p i))
  child_cut old middle new k some within so_far f =
      let more = rows_more levels slots p i k within in
      front_of_rows old new (k + 1) some
      (front_same old new _ _ (sym (flat_map-append spelled_row (rows_up_to levels slots p i k) _) ∙ ap (flat_map spelled_row) more) (front_second old middle new _ _ so_far f))
