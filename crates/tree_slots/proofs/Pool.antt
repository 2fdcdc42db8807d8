-- Slots that are in no other: what takes one and what gives one back.
use Rattle.std.proofs.Common.{◌≡◌, ℕ, zero, suc, ◌+◌, ◌-◌, ◌<◌, ◌≤◌, ◌==◌, Bool, true, false, cond, List, [], ◌∷◌, ◌++◌, length, get_or, set, take, drop, Option, Some, None, inl, inr, arith, refl, sym, ap, ◌∙◌, subst, length-append, drop-cons}
use Rattle.std.specs.Prelude.{◌⊎◌}
use Rattle.std.specs.List.{AllByRecursion, insert, remove}
use Rattle.std.specs.Option.{option_and_then}
use Rattle.std.proofs.lemmas.Bool.{cases_eq, eqb-true, eqb-false}
use Rattle.std.proofs.lemmas.List.{length-set, get_or-set_same, get_or-set_other, get_or_past, take-append-drop}
use Rattle.std.proofs.lemmas.List.Edits.{length-insert, length-remove}
use Rattle.std.proofs.lemmas.List.Sums.{sum_by-set, sum_by-append}
use Rattle.std.specs.declared.cmp.Ordering.TheVariants.{Less, Equal}
use Rattle.file_paths.specs.Path.{FilePath}
use Rattle.tree_values.specs.declared.node.Node.{Node}
use Rattle.tree_slots.specs.Arena.{Place, Places, no_place, place, name_cmp, child_named, slot_of, AreAscending, AreLinked, AreDistinct, IsFreeSlot, IsPool, IsArena, IsEntered, rows_of, linked, written, Pads, Grows}
use Rattle.tree_slots.proofs.Walk.{same_itself}
use Rattle.tree_slots.proofs.Slots.{read_place}
use Rattle.tree_slots.proofs.Links.{SameShape, shape_slot, all_at, child_among}
use Rattle.tree_slots.proofs.Grown.{with_one, same_places}
use Rattle.tree_slots.proofs.Shrunk.{without_one}

-- ---- slots in a list

pub all_with : {P Q R : ℕ → Type 0} → ((c : ℕ) → P c → Q c → R c) → (cs : List ℕ) → AllByRecursion P cs → AllByRecursion Q cs → AllByRecursion R cs
all_with to [] all more = tt
all_with to (c ∷ cs) all more = (to c all.0 more.0, all_with to cs all.1 more.1)

pub all_to : {P Q : ℕ → Type 0} → ((c : ℕ) → P c → Q c) → (cs : List ℕ) → AllByRecursion P cs → AllByRecursion Q cs
all_to to [] all = tt
all_to to (c ∷ cs) all = (to c all.0, all_to to cs all.1)

pub at_all : (P : ℕ → Type 0) (cs : List ℕ) (m : ℕ) → AllByRecursion P cs → m < length cs → P (get_or cs m 0)
at_all P [] m all within = absurd (omega arith)
at_all P (c ∷ cs) zero all within = all.0
at_all P (c ∷ cs) (suc m) all within = at_all P cs m all.1 (omega arith)

pub but_last : (P : ℕ → Type 0) (cs : List ℕ) (j : ℕ) → AllByRecursion P (cs ++ j ∷ []) → AllByRecursion P cs × P j
but_last P [] j all = (tt, all.0)
but_last P (c ∷ cs) j all = let rest = but_last P cs j all.1 in ((all.0, rest.0), rest.1)

with_last : (P : ℕ → Type 0) (cs : List ℕ) (j : ℕ) → AllByRecursion P cs → P j → AllByRecursion P (cs ++ j ∷ [])
with_last P [] j all last = (last, tt)
with_last P (c ∷ cs) j all last = (all.0, with_last P cs j all.1 last)

distinct_but_last : (cs : List ℕ) (j : ℕ) → AreDistinct (cs ++ j ∷ []) → AreDistinct cs × AllByRecursion (λ c. c ≡ j → ⊥) cs
distinct_but_last [] j distinct = (tt, tt)
distinct_but_last (c ∷ cs) j distinct =
    let rest = distinct_but_last cs j distinct.1 in
    let first = but_last (λ d. d ≡ c → ⊥) cs j distinct.0 in
    ((first.0, rest.0), (λ same. first.1 (sym same), rest.1))

distinct_with_last : (cs : List ℕ) (j : ℕ) → AreDistinct cs → AllByRecursion (λ c. c ≡ j → ⊥) cs → AreDistinct (cs ++ j ∷ [])
distinct_with_last [] j distinct other = (tt, tt)
distinct_with_last (c ∷ cs) j distinct other =
    (with_last (λ d. d ≡ c → ⊥) cs j distinct.0 (λ same. other.0 (sym same)), distinct_with_last cs j distinct.1 other.1)

-- ---- owners

-- the same owners, but for one slot
pub owner_with : (ℕ → Option ℕ) → ℕ → Option ℕ → ℕ → Option ℕ
owner_with owner j new c = cond (c == j) new (owner c)

owner_here : (owner : ℕ → Option ℕ) (j : ℕ) (new : Option ℕ) → owner_with owner j new j ≡ new
unfolding owner_with
owner_here owner j new = by (j == j) refl
  where
    by : (b : Bool) → (j == j) ≡ b → cond (j == j) new (owner j) ≡ new
    by true e = rw e refl
    by false e = absurd (eqb-false j j e refl)

owner_other : (owner : ℕ → Option ℕ) (j : ℕ) (new : Option ℕ) (c : ℕ) → (c ≡ j → ⊥) → owner_with owner j new c ≡ owner c
unfolding owner_with
owner_other owner j new c other = by (c == j) refl
  where
    by : (b : Bool) → (c == j) ≡ b → cond (c == j) new (owner c) ≡ owner c
    by true e = absurd (other (eqb-true c j e))
    by false e = rw e refl

pub not_none : (i : ℕ) (o : Option ℕ) → o ≡ None → o ≡ Some i → ⊥
not_none i o none some = absurd (let both = sym none ∙ some in cc)

pub same_some : (i k : ℕ) (o : Option ℕ) → o ≡ Some i → o ≡ Some k → i ≡ k
same_some i k o first second = let both = sym first ∙ second in cc

-- a slot that has a path is the root's or in another
has_owner : (slots : Places) (free : List ℕ) (capacity : ℕ) (pool : IsPool slots free capacity) (q : FilePath) (i c : ℕ) → (i ≡ 0) ⊎ (pool.owner i ≡ None → ⊥) → slot_of slots i q ≡ Some c → (c ≡ 0) ⊎ (pool.owner c ≡ None → ⊥)
has_owner slots free capacity pool [] i c held e = let same : i ≡ c = cc in subst (λ a. (a ≡ 0) ⊎ (pool.owner a ≡ None → ⊥)) same held
has_owner slots free capacity pool (n ∷ q) i c held e = by (child_named slots (place slots i).children n) refl e (λ d. has_owner slots free capacity pool q d c)
  where
    by : (o : Option ℕ) → child_named slots (place slots i).children n ≡ o → option_and_then (λ d. slot_of slots d q) o ≡ Some c → ((d : ℕ) → (d ≡ 0) ⊎ (pool.owner d ≡ None → ⊥) → slot_of slots d q ≡ Some c → (c ≡ 0) ⊎ (pool.owner c ≡ None → ⊥)) → (c ≡ 0) ⊎ (pool.owner c ≡ None → ⊥)
    by None f e each = absurd (cc)
    by (Some d) f e each =
        let owned : pool.owner d ≡ Some i = child_among (λ c. pool.owner c ≡ Some i) slots (place slots i).children n d (pool.owned i) f in
        each d (inr (λ none. not_none i (pool.owner d) none owned)) e

-- so it is not free
pub not_free : (slots : Places) (free : List ℕ) (capacity : ℕ) → IsPool slots free capacity → (p : FilePath) (i : ℕ) → slot_of slots 0 p ≡ Some i → AllByRecursion (λ c. c ≡ i → ⊥) free
not_free slots free capacity pool p i e =
    all_to (λ c spare same. elim (has_owner slots free capacity pool p 0 i (inl refl) e) [
      | inl root ↦ spare.below_root (same ∙ root)
      | inr owned ↦ owned (ap pool.owner (sym same) ∙ spare.unowned)
    ]) free pool.unlinked

-- ---- slots with the same children

pub same_pool : (old new : Places) (free : List ℕ) (capacity more : ℕ) → ((i : ℕ) → (place new i).children ≡ (place old i).children) → length old ≤ length new → length new - 1 ≡ linked new + length free → length new - 1 ≤ more → IsPool old free capacity → IsPool new free more
same_pool old new free capacity more same longer all room pool = record {
  owner = pool.owner;
  owned = λ i. subst (AllByRecursion (λ c. pool.owner c ≡ Some i)) (sym (same i)) (pool.owned i);
  root = pool.root;
  unlinked = all_to (λ c spare. record { within = omega (arith, spare.within, longer); below_root = spare.below_root; unowned = spare.unowned; leaf = same c ∙ spare.leaf }) free pool.unlinked;
  once = pool.once;
  all = all;
  room = room;
}

-- with more room
pub roomy : (slots : Places) (free : List ℕ) (capacity more : ℕ) → capacity ≤ more → IsPool slots free capacity → IsPool slots free more
roomy slots free capacity more wider pool = same_pool slots slots free capacity more (λ i. refl) (omega arith) pool.all (omega (arith, pool.room)) pool

pub no_pool : (capacity : ℕ) → IsPool [] [] capacity
no_pool capacity = record { owner = λ c. None; owned = λ i. tt; root = refl; unlinked = tt; once = tt; all = refl; room = omega arith }

-- one slot has other children, so many more or fewer
children_set : (slots : Places) (i : ℕ) (x : Place) → i < length slots → linked (set slots i x) + length (place slots i).children ≡ linked slots + length x.children
children_set slots i x within = sum_by-set (λ (slot : Place). length slot.children) slots i x no_place within

pub written_pool : (slots : Places) (free : List ℕ) (capacity i version : ℕ) (node : Option Node) → i < length slots → IsPool slots free capacity → IsPool (written slots i version node) free capacity
written_pool slots free capacity i version node within pool =
    let x : Place = record { name = (place slots i).name; version = version; node = node; children = (place slots i).children } in
    let long : length (set slots i x) ≡ length slots = length-set slots i x in
    same_pool slots (set slots i x) free capacity capacity
    (λ k. elim (cases_eq k i) [
      | inl same ↦ subst (λ a. (place (set slots i x) a).children ≡ (place slots a).children) (sym same) (ap (λ (y : Place). y.children) (get_or-set_same slots i x no_place within))
      | inr other ↦ ap (λ (y : Place). y.children) (get_or-set_other slots i k x no_place other)
    ])
    (omega (arith, long)) (omega (arith, long, pool.all, children_set slots i x within)) (omega (arith, long, pool.room)) pool

-- ---- one more slot

pub pushed_place : (slots : Places) (i : ℕ) → place (slots ++ no_place ∷ []) i ≡ place slots i
pushed_place [] zero = refl
pushed_place [] (suc i) = refl
pushed_place (x ∷ slots) zero = refl
pushed_place (x ∷ slots) (suc i) = pushed_place slots i

linked_pushed : (slots : Places) → linked (slots ++ no_place ∷ []) ≡ linked slots
linked_pushed slots = sum_by-append (λ (slot : Place). length slot.children) slots (no_place ∷ []) ∙ omega arith

pub pads_pushed : (slots : Places) → Pads slots (slots ++ no_place ∷ [])
pads_pushed slots = record { same = pushed_place slots; longer = omega (arith, length-append slots (no_place ∷ [])) }

pub rooted_pool : (slots : Places) → length slots ≡ 0 → (free : List ℕ) (capacity : ℕ) → IsPool slots free capacity → IsPool (slots ++ no_place ∷ []) free capacity
rooted_pool slots empty free capacity pool =
    let long = length-append slots (no_place ∷ []) in
    same_pool slots (slots ++ no_place ∷ []) free capacity capacity (λ i. ap (λ (y : Place). y.children) (pushed_place slots i))
    (omega (arith, long)) (omega (arith, long, pool.all, linked_pushed slots)) (omega (arith, long)) pool

pub fresh_pool : (slots : Places) (capacity more : ℕ) → AreLinked slots → 0 < length slots → length slots ≤ more → IsPool slots [] capacity → IsPool (slots ++ no_place ∷ []) (length slots ∷ []) more
fresh_pool slots capacity more are_linked some room pool =
    let long = length-append slots (no_place ∷ []) in
    record {
      owner = owner_with pool.owner (length slots) None;
      owned = λ i.
          subst (AllByRecursion (λ c. owner_with pool.owner (length slots) None c ≡ Some i)) (sym (ap (λ (y : Place). y.children) (pushed_place slots i)))
          (all_at (λ c. owner_with pool.owner (length slots) None c ≡ Some i) (place slots i).children
          (λ m l. owner_other pool.owner (length slots) None (get_or (place slots i).children m 0) (λ same. let inside = are_linked.within i m l in omega (arith, inside, same)) ∙ at_all (λ c. pool.owner c ≡ Some i) (place slots i).children m (pool.owned i) l));
      root = owner_other pool.owner (length slots) None 0 (λ same. omega (arith, same, some)) ∙ pool.root;
      unlinked = (
        record {
          within = omega (arith, long);
          below_root = λ same. omega (arith, same, some);
          unowned = owner_here pool.owner (length slots) None;
          leaf = ap (λ (y : Place). y.children) (pushed_place slots (length slots) ∙ get_or_past slots (length slots) no_place (omega arith));
        },
        tt,
      );
      once = (tt, tt);
      all = omega (arith, long, pool.all, linked_pushed slots, some);
      room = omega (arith, long, room);
    }

-- ---- a free slot is put into another

module _ (slots : Places) (rest : List ℕ) (j capacity parent k : ℕ) (x s : Place) (pool : IsPool slots (rest ++ j ∷ []) capacity) (taken : AllByRecursion (λ c. c ≡ parent → ⊥) (rest ++ j ∷ [])) (within : parent < length slots) (index : k ≤ length (place slots parent).children)
    (children : x.children ≡ insert (place slots parent).children k j) (leaf : s.children ≡ []) where
  abbrev put : Places
  put = set (set slots parent x) j s

  free_j : IsFreeSlot slots (pool.owner j) j
  free_j = (but_last (λ c. IsFreeSlot slots (pool.owner c) c) rest j pool.unlinked).1

  j_other : j ≡ parent → ⊥
  j_other = (but_last (λ c. c ≡ parent → ⊥) rest j taken).1

  long : length put ≡ length slots
  long = length-set (set slots parent x) j s ∙ length-set slots parent x

  at_j : place put j ≡ s
  at_j = get_or-set_same (set slots parent x) j s no_place (omega (arith, free_j.within, length-set slots parent x))

  at_parent : place put parent ≡ x
  at_parent = get_or-set_other (set slots parent x) j parent s no_place (λ same. j_other (sym same)) ∙ get_or-set_same slots parent x no_place within

  elsewhere : (i : ℕ) → (i ≡ j → ⊥) → (i ≡ parent → ⊥) → place put i ≡ place slots i
  elsewhere i one two = get_or-set_other (set slots parent x) j i s no_place one ∙ get_or-set_other slots parent i x no_place two

  abbrev new_owner : ℕ → Option ℕ
  new_owner = owner_with pool.owner j (Some parent)

  kept_owned : (i : ℕ) → AllByRecursion (λ c. new_owner c ≡ Some i) (place slots i).children
  kept_owned i = all_to (λ c owned. owner_other pool.owner j (Some parent) c (λ same. not_none i (pool.owner c) (ap pool.owner same ∙ free_j.unowned) owned) ∙ owned) (place slots i).children (pool.owned i)

  put_owned : (i : ℕ) → AllByRecursion (λ c. new_owner c ≡ Some i) (place put i).children
  put_owned i = elim (cases_eq i j) [
    | inl same ↦ subst (AllByRecursion (λ c. new_owner c ≡ Some i)) (sym (ap (λ a. (place put a).children) same ∙ ap (λ (y : Place). y.children) at_j ∙ leaf)) tt
    | inr one ↦ elim (cases_eq i parent) [
      | inl same ↦ subst (λ a. AllByRecursion (λ c. new_owner c ≡ Some a) (place put a).children) (sym same)
          (subst (AllByRecursion (λ c. new_owner c ≡ Some parent)) (sym (ap (λ (y : Place). y.children) at_parent ∙ children))
          (with_one (λ c. new_owner c ≡ Some parent) (take k (place slots parent).children) (drop k (place slots parent).children) j
          (subst (AllByRecursion (λ c. new_owner c ≡ Some parent)) (sym (take-append-drop k (place slots parent).children)) (kept_owned parent))
          (owner_here pool.owner j (Some parent))))
      | inr two ↦ subst (AllByRecursion (λ c. new_owner c ≡ Some i)) (sym (ap (λ (y : Place). y.children) (elsewhere i one two))) (kept_owned i)
    ]
  ]

  put_linked : linked put ≡ linked slots + 1
  put_linked =
      let first = children_set slots parent x within in
      let second = children_set (set slots parent x) j s (omega (arith, free_j.within, length-set slots parent x)) in
      let more : length x.children ≡ length (place slots parent).children + 1 = ap length children ∙ length-insert (place slots parent).children k j index in
      let before : length (place (set slots parent x) j).children ≡ 0 = ap (λ (y : Place). length y.children) (get_or-set_other slots parent j x no_place j_other) ∙ ap length free_j.leaf in
      omega (arith, first, second, more, before, ap length leaf)

  pub put_pool : IsPool (set (set slots parent x) j s) rest capacity
  put_pool =
      let others = distinct_but_last rest j pool.once in
      let spares = (but_last (λ c. IsFreeSlot slots (pool.owner c) c) rest j pool.unlinked).0 in
      let apart = (but_last (λ c. c ≡ parent → ⊥) rest j taken).0 in
      record {
        owner = new_owner;
        owned = put_owned;
        root = owner_other pool.owner j (Some parent) 0 (λ same. free_j.below_root (sym same)) ∙ pool.root;
        unlinked = all_with (λ c (spare : IsFreeSlot slots (pool.owner c) c) (both : (c ≡ j → ⊥) × (c ≡ parent → ⊥)). record {
          within = omega (arith, spare.within, long);
          below_root = spare.below_root;
          unowned = owner_other pool.owner j (Some parent) c both.0 ∙ spare.unowned;
          leaf = ap (λ (y : Place). y.children) (elsewhere c both.0 both.1) ∙ spare.leaf;
        }) rest spares (all_with (λ c one two. (one, two)) rest others.1 apart);
        once = others.0;
        all = omega (arith, long, put_linked, pool.all, length-append rest (j ∷ []));
        room = omega (arith, long, pool.room);
      }

  module _ (old : Places) (name : List ℕ) (y : Place) (pads : Pads old slots) (read : y ≡ get_or slots parent y) (is : x ≡ record { name = y.name; version = y.version; node = y.node; children = insert y.children k j }) (blank : s ≡ record { name = name; version = 0; node = None; children = [] }) where
    pub put_grows : Grows old (set (set slots parent x) j s) parent k name j
    put_grows = record {
      fresh = at_j ∙ blank;
      linked = at_parent ∙ is ∙ ap (λ (z : Place). record { name = z.name; version = z.version; node = z.node; children = insert z.children k j }) (sym (read_place slots parent y within read) ∙ pads.same parent);
      others = λ i one two. elsewhere i one two ∙ pads.same i;
      unlinked = λ i m l same.
          let owned = at_all (λ c. pool.owner c ≡ Some i) (place old i).children m (subst (AllByRecursion (λ c. pool.owner c ≡ Some i)) (ap (λ (z : Place). z.children) (pads.same i)) (pool.owned i)) l in
          not_none i (pool.owner j) free_j.unowned (ap pool.owner (sym same) ∙ owned);
      below_root = free_j.below_root;
      within = omega (arith, long, free_j.within);
      longer = omega (arith, long, pads.longer);
    }

-- ---- a slot is taken out of another

-- slots with names one below the other are two
lower_apart : (slots : Places) (c d : ℕ) → name_cmp (place slots c).name (place slots d).name ≡ Less → c ≡ d → ⊥
lower_apart slots c d less same =
    let equal : name_cmp (place slots c).name (place slots d).name ≡ Equal = ap (λ a. name_cmp (place slots c).name (place slots a).name) (sym same) ∙ same_itself (place slots c).name in
    let both = sym less ∙ equal in absurd (cc)

-- no other child of a slot is the one taken out
ascending_apart : (slots : Places) (front back : List ℕ) (j : ℕ) → AreAscending slots (front ++ j ∷ back) → AllByRecursion (λ c. c ≡ j → ⊥) (front ++ back)
ascending_apart slots [] back j order =
    let apart : (c : ℕ) → name_cmp (place slots j).name (place slots c).name ≡ Less → c ≡ j → ⊥ = λ c less same. lower_apart slots j c less (sym same) in
    all_to apart back order.0
ascending_apart slots (c ∷ front) back j order = (lower_apart slots c j (middle front order.0), ascending_apart slots front back j order.1)
  where
    middle : (front : List ℕ) → AllByRecursion (λ d. name_cmp (place slots c).name (place slots d).name ≡ Less) (front ++ j ∷ back) → name_cmp (place slots c).name (place slots j).name ≡ Less
    middle [] all = all.0
    middle (d ∷ front) all = middle front all.1

module _ (slots : Places) (free : List ℕ) (capacity parent k : ℕ) (x : Place) (are_linked : AreLinked slots) (pool : IsPool slots free capacity) (index : k < length (place slots parent).children) (within : parent < length slots)
    (children : x.children ≡ remove (place slots parent).children k) (leaf : (place slots (get_or (place slots parent).children k 0)).children ≡ []) where
  abbrev gone : ℕ
  gone = get_or (place slots parent).children k 0

  abbrev rest_owner : ℕ → Option ℕ
  rest_owner = owner_with pool.owner (get_or (place slots parent).children k 0) None

  gone_owned : pool.owner gone ≡ Some parent
  gone_owned = at_all (λ c. pool.owner c ≡ Some parent) (place slots parent).children k (pool.owned parent) index

  not_parent : (c : ℕ) → (place slots c).children ≡ [] → c ≡ parent → ⊥
  not_parent c none same = let empty = ap (λ a. length (place slots a).children) (sym same) ∙ ap length none in omega (arith, empty, index)

  split : (place slots parent).children ≡ take k (place slots parent).children ++ gone ∷ drop (suc k) (place slots parent).children
  split = sym (take-append-drop k (place slots parent).children) ∙ ap (λ back. take k (place slots parent).children ++ back) (drop-cons (place slots parent).children k 0 index)

  rest_owned : (i : ℕ) → AllByRecursion (λ c. rest_owner c ≡ Some i) (place (set slots parent x) i).children
  rest_owned i = elim (cases_eq i parent) [
    | inl same ↦ subst (λ a. AllByRecursion (λ c. rest_owner c ≡ Some a) (place (set slots parent x) a).children) (sym same)
        (subst (AllByRecursion (λ c. rest_owner c ≡ Some parent)) (sym (ap (λ (y : Place). y.children) (get_or-set_same slots parent x no_place within) ∙ children))
        (all_with (λ c owned other. owner_other pool.owner gone None c other ∙ owned) (take k (place slots parent).children ++ drop (suc k) (place slots parent).children)
        (without_one (λ c. pool.owner c ≡ Some parent) (take k (place slots parent).children) (drop (suc k) (place slots parent).children) gone (subst (AllByRecursion (λ c. pool.owner c ≡ Some parent)) split (pool.owned parent)))
        (ascending_apart slots (take k (place slots parent).children) (drop (suc k) (place slots parent).children) gone (subst (AreAscending slots) split (are_linked.ascending parent)))))
    | inr other ↦ subst (AllByRecursion (λ c. rest_owner c ≡ Some i)) (sym (ap (λ (y : Place). y.children) (get_or-set_other slots parent i x no_place other)))
        (all_to (λ c owned. owner_other pool.owner gone None c (λ same. other (same_some i parent (pool.owner c) owned (ap pool.owner same ∙ gone_owned))) ∙ owned) (place slots i).children (pool.owned i))
  ]

  rest_linked : linked (set slots parent x) + 1 ≡ linked slots
  rest_linked =
      let both = children_set slots parent x within in
      let fewer : length x.children + 1 ≡ length (place slots parent).children = ap (λ cs. length cs + 1) children ∙ length-remove (place slots parent).children k index in
      omega (arith, both, fewer)

  pub room_for : length free < capacity
  room_for = omega (arith, pool.all, pool.room, rest_linked)

  pub freed_pool : IsPool (set slots parent x) (free ++ get_or (place slots parent).children k 0 ∷ []) capacity
  freed_pool =
      let long : length (set slots parent x) ≡ length slots = length-set slots parent x in
      let free_other : AllByRecursion (λ c. c ≡ gone → ⊥) free = all_to (λ c spare same. not_none parent (pool.owner c) spare.unowned (ap pool.owner same ∙ gone_owned)) free pool.unlinked in
      record {
        owner = rest_owner;
        owned = rest_owned;
        root = owner_other pool.owner gone None 0 (λ same. not_none parent (pool.owner 0) pool.root (ap pool.owner same ∙ gone_owned)) ∙ pool.root;
        unlinked = with_last (λ c. IsFreeSlot (set slots parent x) (rest_owner c) c) free gone
            (all_with (λ c (spare : IsFreeSlot slots (pool.owner c) c) (other : c ≡ gone → ⊥). record {
              within = omega (arith, spare.within, long);
              below_root = spare.below_root;
              unowned = owner_other pool.owner gone None c other ∙ spare.unowned;
              leaf = ap (λ (y : Place). y.children) (get_or-set_other slots parent c x no_place (not_parent c spare.leaf)) ∙ spare.leaf;
            }) free pool.unlinked free_other)
            (record {
              within = let inside = are_linked.within parent k index in omega (arith, inside, long);
              below_root = λ same. not_none parent (pool.owner 0) pool.root (ap pool.owner (sym same) ∙ gone_owned);
              unowned = owner_here pool.owner gone None;
              leaf = ap (λ (y : Place). y.children) (get_or-set_other slots parent gone x no_place (not_parent gone leaf)) ∙ leaf;
            });
        once = distinct_with_last free gone pool.once free_other;
        all = omega (arith, long, rest_linked, pool.all, length-append free (gone ∷ []));
        room = omega (arith, long, pool.room);
      }

-- ---- what calls leave

no_items : (cs : List ℕ) → length cs ≡ 0 → cs ≡ []
no_items [] empty = refl
no_items (c ∷ cs) empty = absurd (omega arith)

pub fresh_taken : (slots new : Places) (free rest : List ℕ) (capacity more j : ℕ) → AreLinked slots → 0 < length slots → IsPool slots free capacity → length free ≡ 0 → length rest ≡ 0 → j ≡ length slots → length slots ≤ more → new ≡ slots ++ no_place ∷ [] → IsPool new (rest ++ j ∷ []) more
fresh_taken slots new free rest capacity more j are_linked some pool none empty is room pushed =
    let before : IsPool slots [] capacity = subst (λ cs. IsPool slots cs capacity) (no_items free none) pool in
    rw (pushed, no_items rest empty, is) (fresh_pool slots capacity more are_linked some room before)

pub added : (old slots : Places) (rest : List ℕ) (j capacity parent k : ℕ) (name : List ℕ) (x y s : Place) → Pads old slots → IsPool slots (rest ++ j ∷ []) capacity → (path : FilePath) → slot_of old 0 path ≡ Some parent → parent < length old → k ≤ length (place old parent).children
    → y ≡ get_or slots parent y → x ≡ record { name = y.name; version = y.version; node = y.node; children = insert y.children k j } → s ≡ record { name = name; version = 0; node = None; children = [] } → Grows old (set (set slots parent x) j s) parent k name j × IsPool (set (set slots parent x) j s) rest capacity
added old slots rest j capacity parent k name x y s pads pool path at within index read is blank =
    let shape : SameShape old slots = record { names = λ i. ap (λ (z : Place). z.name) (pads.same i); children = λ i. ap (λ (z : Place). z.children) (pads.same i) } in
    let taken = not_free slots (rest ++ j ∷ []) capacity pool path parent (shape_slot old slots shape path 0 ∙ at) in
    let inside : parent < length slots = omega (arith, within, pads.longer) in
    let place_k : k ≤ length (place slots parent).children = rw (pads.same parent) index in
    let children : x.children ≡ insert (place slots parent).children k j = ap (λ (z : Place). z.children) is ∙ ap (λ (z : Place). insert z.children k j) (sym (read_place slots parent y inside read)) in
    let leaf : s.children ≡ [] = ap (λ (z : Place). z.children) blank in (
      put_grows slots rest j capacity parent k x s pool taken inside place_k children leaf old name y pads read is blank,
      put_pool slots rest j capacity parent k x s pool taken inside place_k children leaf,
    )

pub dropped_pool : (slots : Places) (free : List ℕ) (capacity i k c : ℕ) (x y z : Place) → AreLinked slots → IsPool slots free capacity → i < length slots → k < length (place slots i).children
    → y ≡ get_or slots i y → x ≡ record { name = y.name; version = y.version; node = y.node; children = remove y.children k } → c ≡ get_or (place slots i).children k 0 → z ≡ get_or slots c z → z.children ≡ [] → (length free < capacity) × IsPool (set slots i x) (free ++ c ∷ []) capacity
dropped_pool slots free capacity i k c x y z are_linked pool within index read is child read_child leaf =
    let inside : c < length slots = subst (λ a. a < length slots) (sym child) (are_linked.within i k index) in
    let empty : (place slots (get_or (place slots i).children k 0)).children ≡ [] = ap (λ a. (place slots a).children) (sym child) ∙ ap (λ (p : Place). p.children) (read_place slots c z inside read_child) ∙ leaf in
    let children : x.children ≡ remove (place slots i).children k = ap (λ (p : Place). p.children) is ∙ ap (λ (p : Place). remove p.children k) (sym (read_place slots i y within read)) in (
      room_for slots free capacity i k x are_linked pool index within children empty,
      subst (λ a. IsPool (set slots i x) (free ++ a ∷ []) capacity) (sym child) (freed_pool slots free capacity i k x are_linked pool index within children empty),
    )

-- a failed call leaves the rules and the rows
pub padded : (start old new : Places) (path : FilePath) (i : ℕ) → IsEntered start old path i → Pads old new → IsArena new × (rows_of new ≡ rows_of start)
padded start old new path i entered pads =
    let after = same_places old new pads.same pads.longer (omega (arith, entered.within, pads.longer)) entered.arena in
    (after.arena, after.rows ∙ entered.rows)
