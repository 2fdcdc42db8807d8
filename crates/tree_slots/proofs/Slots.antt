-- Searching slots that are in the order of their names.
use Rattle.std.proofs.Common.{◌≡◌, ℕ, zero, suc, ◌+◌, ◌-◌, ◌/◌, ◌^◌, ◌<◌, ◌≤◌, List, [], ◌∷◌, length, get_or, Some, None, arith, refl, sym, ap, ◌∙◌, subst}
use Rattle.std.specs.List.{AllByRecursion}
use Rattle.std.specs.Cmp.{IsTotalOrder}
use Rattle.std.specs.Cmp.Lexicographic.{nat_list_cmp_total}
use Rattle.std.specs.FinMap.{slice_cmp-IsAntisymmetric, nat_cmp-IsAntisymmetric}
use Rattle.std.specs.declared.cmp.Ordering.{Ordering}
use Rattle.std.specs.declared.cmp.Ordering.TheVariants.{Less, Equal, Greater}
use Rattle.std.specs.Ordering.{ordering_reverse}
use Rattle.std.proofs.Math.Nat.{two-pow-succ}
use Rattle.std.proofs.Common.{inl, inr}
use Rattle.std.proofs.lemmas.Bool.{cases_lt}
use Rattle.std.proofs.lemmas.List.{get_or_read}
use Rattle.tree_slots.specs.Arena.{Place, Places, no_place, place, name_cmp, child_named, AreAscending, IsFound}

pub names_total : IsTotalOrder name_cmp
names_total = nat_list_cmp_total

pub same_name : (a b : List ℕ) → name_cmp a b ≡ Equal → a ≡ b
same_name = slice_cmp-IsAntisymmetric nat_cmp-IsAntisymmetric

module _ (slots : Places) where
  -- the name of the slot at a place among children
  abbrev pub name_at : List ℕ → ℕ → List ℕ
  name_at children k = (place slots (get_or children k 0)).name

  -- each name is below those of later children
  pub ascending_at : (children : List ℕ) (j k : ℕ) → AreAscending slots children → j < k → k < length children → name_cmp (name_at children j) (name_at children k) ≡ Less
  ascending_at [] j k order before within = absurd (omega arith)
  ascending_at (c ∷ cs) j zero order before within = absurd (omega arith)
  ascending_at (c ∷ cs) zero (suc k) order before within = at cs k order.0 (omega arith)
    where
      at : (cs : List ℕ) (k : ℕ) → AllByRecursion (λ d. name_cmp (place slots c).name (place slots d).name ≡ Less) cs → k < length cs → name_cmp (place slots c).name (name_at cs k) ≡ Less
      at [] k all within = absurd (omega arith)
      at (d ∷ cs) zero all within = all.0
      at (d ∷ cs) (suc k) all within = at cs k all.1 (omega arith)
  ascending_at (c ∷ cs) (suc j) (suc k) order before within = ascending_at cs j k order.1 (omega arith) (omega arith)

  -- the first child with a name is found
  pub found_at : (children : List ℕ) (name : List ℕ) (k : ℕ) → k < length children → ((j : ℕ) → j < k → name_cmp (name_at children j) name ≡ Less) → name_cmp (name_at children k) name ≡ Equal → child_named slots children name ≡ Some (get_or children k 0)
  found_at [] name k within before here = absurd (omega arith)
  found_at (c ∷ cs) name zero within before here = rw here refl
  found_at (c ∷ cs) name (suc k) within before here =
      let less = before 0 (omega arith) in
      rw less (found_at cs name k (omega arith) (λ j l. before (suc j) (omega arith)) here)

  -- the child that is found has the name
  pub child_has_name : (children : List ℕ) (name : List ℕ) (c : ℕ) → child_named slots children name ≡ Some c → (place slots c).name ≡ name
  child_has_name [] name c e = absurd (cc)
  child_has_name (d ∷ cs) name c e = by (name_cmp (place slots d).name name) refl (λ e. child_has_name cs name c e)
    where
      here : name_cmp (place slots d).name name ≡ Equal → d ≡ c → (place slots c).name ≡ name
      here same is = ap (λ i. (place slots i).name) (sym is) ∙ same_name (place slots d).name name same

      by : (o : Ordering) → name_cmp (place slots d).name name ≡ o → (child_named slots cs name ≡ Some c → (place slots c).name ≡ name) → (place slots c).name ≡ name
      by Less o rest = rest (rw o at e)
      by Greater o rest = rest (rw o at e)
      by Equal o rest = here o (let found = rw o at e in cc)

  -- where names are below and then above, none is found
  pub none_at : (children : List ℕ) (name : List ℕ) (k : ℕ) → ((j : ℕ) → j < k → name_cmp (name_at children j) name ≡ Less) → ((j : ℕ) → k ≤ j → j < length children → name_cmp (name_at children j) name ≡ Greater) → child_named slots children name ≡ None
  none_at [] name k below above = refl
  none_at (c ∷ cs) name zero below above =
      let greater = above 0 (omega arith) (omega arith) in
      rw greater (none_at cs name zero (λ j l. absurd (omega arith)) (λ j l w. above (suc j) (omega arith) (omega arith)))
  none_at (c ∷ cs) name (suc k) below above =
      let less = below 0 (omega arith) in
      rw less (none_at cs name k (λ j l. below (suc j) (omega arith)) (λ j l w. above (suc j) (omega arith) (omega arith)))

  pub is_found : (children : List ℕ) (name : List ℕ) (k : ℕ) → AreAscending slots children → k < length children → name_cmp (name_at children k) name ≡ Equal → IsFound slots children name k
  is_found children name k order within here =
      let same = same_name (name_at children k) name here in
      record {
        within = within;
        named = same;
        found = found_at children name k within (λ j l. subst (λ n. name_cmp (name_at children j) n ≡ Less) same (ascending_at children j k order l within)) here;
      }

  -- what is not above a child with a lower name has a lower name
  pub lower : (children : List ℕ) (name : List ℕ) (k : ℕ) → AreAscending slots children → k < length children → name_cmp (name_at children k) name ≡ Less → (j : ℕ) → j < k + 1 → name_cmp (name_at children j) name ≡ Less
  lower children name k order within here j l = elim (cases_lt j k) [
    | inl less ↦ names_total.trans (name_at children j) (name_at children k) name (ascending_at children j k order less within) here
    | inr other ↦
        let same : j ≡ k = omega arith in
        subst (λ i. name_cmp (name_at children i) name ≡ Less) (sym same) here
  ]

  pub higher : (children : List ℕ) (name : List ℕ) (k : ℕ) → AreAscending slots children → name_cmp (name_at children k) name ≡ Greater → (j : ℕ) → k ≤ j → j < length children → name_cmp (name_at children j) name ≡ Greater
  higher children name k order here j l within = elim (cases_lt k j) [
    | inl less ↦
        let below = names_total.antisymm name (name_at children k) ∙ ap ordering_reverse here in
        names_total.antisymm (name_at children j) name ∙ ap ordering_reverse (names_total.trans name (name_at children k) (name_at children j) below (ascending_at children k j order less within))
    | inr other ↦
        let same : j ≡ k = omega arith in
        subst (λ i. name_cmp (name_at children i) name ≡ Greater) (sym same) here
  ]

-- half of what fits so many halvings fits one less
pub halved : (left d : ℕ) → d < 2 ^ left → 0 < d → (0 < left) × (d / 2 < 2 ^ (left - 1)) × (d - d / 2 - 1 < 2 ^ (left - 1))
halved zero d small some = absurd (omega arith)
halved (suc left) d small some =
    let twice : 2 ^ suc left ≡ 2 ^ left + 2 ^ left = two-pow-succ left in
    let one : suc left - 1 ≡ left = omega arith in
    (omega arith, rw one (omega (arith, twice)), rw one (omega (arith, twice)))

-- what a read gives is the slot
pub read_place : (slots : Places) (i : ℕ) (x : Place) → i < length slots → x ≡ get_or slots i x → place slots i ≡ x
read_place slots i x within read = sym (get_or_read slots i x within read no_place)

-- how the name of a read child compares
pub read_cmp : (slots : Places) (children : List ℕ) (name : List ℕ) (k : ℕ) (x : Place) (o : Ordering) → get_or children k 0 < length slots → x ≡ get_or slots (get_or children k 0) x → o ≡ name_cmp x.name name → name_cmp (name_at slots children k) name ≡ o
read_cmp slots children name k x o within read is = ap (λ (y : Place). name_cmp y.name name) (read_place slots (get_or children k 0) x within read) ∙ sym is
