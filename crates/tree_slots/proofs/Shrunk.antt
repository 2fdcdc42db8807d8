-- A slot taken away from its parent: the rules and the rows stay, where it stood for no row and had no slots in it.
use Rattle.std.proofs.Common.{◌≡◌, ℕ, suc, ◌+◌, ◌<◌, false, List, [], ◌∷◌, ◌++◌, length, get_or, set, take, drop, Option, Some, None, inl, inr, arith, refl, sym, ap, ◌∙◌, subst}
use Rattle.std.specs.List.{AllByRecursion, remove}
use Rattle.std.specs.Option.{option_and_then}
use Rattle.std.proofs.lemmas.Bool.{cases_eq, cases_lt}
use Rattle.std.proofs.lemmas.List.{length-set, take-append-drop, get_or-set_same, get_or-set_other, get_or_past}
use Rattle.std.proofs.Common.{drop-cons}
use Rattle.std.proofs.lemmas.List.Edits.{length-remove, get_or-remove_below, get_or-remove_above}
use Rattle.std.proofs.lemmas.List.Folds.{find-append}
use Rattle.std.specs.declared.cmp.Ordering.TheVariants.{Less, Greater}
use Rattle.std.specs.Ordering.{ordering_reverse, is_eq}
use Rattle.file_paths.specs.Path.{FilePath}
use Rattle.tree_slots.specs.Arena.{Place, Places, no_place, place, name_cmp, child_named, slot_of, own_row, rows_of, AreAscending, IsArena, IsFound, Shrinks}
use Rattle.tree_slots.proofs.Slots.{read_place, names_total, name_at, ascending_at, none_at}
use Rattle.tree_slots.proofs.Walk.{row_of, found_row, rows_in_order}
use Rattle.tree_values.proofs.Ordered.{same_rows}
use Rattle.tree_slots.proofs.Links.{same_or_not, all_names, same_child, same_ascending, AreAlike, KeepsSlots, keeps_slots, one_further}

-- ---- order

-- the slots about the one at a place
pub split_at : (cs : List ℕ) (k : ℕ) → k < length cs → cs ≡ take k cs ++ get_or cs k 0 ∷ drop (suc k) cs
split_at cs k within = sym (take-append-drop k cs) ∙ ap (λ back. take k cs ++ back) (drop-cons cs k 0 within)

pub without_one : (P : ℕ → Type 0) (front back : List ℕ) (j : ℕ) → AllByRecursion P (front ++ j ∷ back) → AllByRecursion P (front ++ back)
without_one P [] back j all = all.1
without_one P (c ∷ front) back j all = (all.0, without_one P front back j all.1)

ascending_without : (slots : Places) (front back : List ℕ) (j : ℕ) → AreAscending slots (front ++ j ∷ back) → AreAscending slots (front ++ back)
ascending_without slots [] back j order = order.1
ascending_without slots (c ∷ front) back j order =
    (without_one (λ d. name_cmp (place slots c).name (place slots d).name ≡ Less) front back j order.0, ascending_without slots front back j order.1)

module _ (old new : Places) (parent k : ℕ) (name : List ℕ) (arena : IsArena old) (shrinks : Shrinks old new parent k) (path : FilePath) (at : slot_of old 0 path ≡ Some parent) (found : IsFound old (place old parent).children name k) where
  split : (place old parent).children ≡ take k (place old parent).children ++ get_or (place old parent).children k 0 ∷ drop (suc k) (place old parent).children
  split = split_at (place old parent).children k found.within

  -- another name is found as before
  other_child : (n : List ℕ) → is_eq (name_cmp name n) ≡ false → child_named new (remove (place old parent).children k) n ≡ child_named old (place old parent).children n
  other_child n differ =
      let cs : List ℕ = (place old parent).children in
      let head : is_eq (name_cmp (place old (get_or cs k 0)).name n) ≡ false = ap (λ a. is_eq (name_cmp a n)) found.named ∙ differ in
      let whole = ap (λ l. child_named old l n) split ∙ find-append (λ c. is_eq (name_cmp (place old c).name n)) (take k cs) (get_or cs k 0 ∷ drop (suc k) cs) ∙ rw head refl in
      same_child old new (remove cs k) n (all_names old new shrinks.names (remove cs k))
      ∙ find-append (λ c. is_eq (name_cmp (place old c).name n)) (take k cs) (drop (suc k) cs) ∙ sym whole

  -- and this one no more
  no_child : child_named new (remove (place old parent).children k) name ≡ None
  no_child =
      let cs : List ℕ = (place old parent).children in
      same_child old new (remove cs k) name (all_names old new shrinks.names (remove cs k))
      ∙ none_at old (remove cs k) name k
      (λ j before. ap (λ c. name_cmp (place old c).name name) (get_or-remove_below cs k 0 j before found.within) ∙ (subst (λ n. name_cmp (name_at old cs j) n ≡ Less) found.named (ascending_at old cs j k (arena.linked.ascending parent) before found.within)))
      (λ j after inside.
      let there : j + 1 < length cs = omega (arith, length-remove cs k found.within) in
      let above = ascending_at old cs k (j + 1) (arena.linked.ascending parent) (omega arith) there in
      ap (λ c. name_cmp (place old c).name name) (get_or-remove_above cs k 0 j after found.within) ∙ (subst (λ n. name_cmp (name_at old cs (j + 1)) n ≡ Greater) found.named (names_total.antisymm (name_at old cs (j + 1)) (name_at old cs k) ∙ ap ordering_reverse above)))

  alike : AreAlike old new parent name
  alike = record {
    elsewhere = λ p i e apart n. ap (λ cs. child_named new cs n) (shrinks.others i apart) ∙ same_child old new (place old i).children n (all_names old new shrinks.names (place old i).children);
    other_names = λ n differ. ap (λ cs. child_named new cs n) shrinks.linked ∙ other_child n differ;
    deeper = λ m q.
        ap (λ cs. option_and_then (λ c. slot_of new c (m ∷ q)) (child_named new cs name)) shrinks.linked
        ∙ ap (option_and_then (λ c. slot_of new c (m ∷ q))) no_child
        ∙ sym (ap (option_and_then (λ c. slot_of old c (m ∷ q))) found.found ∙ leaf m q);
  }
    where
      -- nothing was below the slot that is taken away
      leaf : (m : List ℕ) (q : FilePath) → slot_of old (get_or (place old parent).children k 0) (m ∷ q) ≡ None
      leaf m q = rw shrinks.leaf refl

  -- each path but the one taken away keeps its slot
  pub shrunk_keeps : KeepsSlots old new path name parent
  shrunk_keeps = keeps_slots old new parent name arena alike path at

  gone : slot_of new 0 (path ++ name ∷ []) ≡ None
  gone = one_further new path name parent shrunk_keeps.above ∙ ap (λ cs. child_named new cs name) shrinks.linked ∙ no_child

  -- a path that has a slot had it before
  had : (p : FilePath) (i : ℕ) → slot_of new 0 p ≡ Some i → slot_of old 0 p ≡ Some i
  had p i e = elim (same_or_not p (path ++ name ∷ [])) [
    | inl same ↦ absurd (let none = sym (ap (slot_of new 0) same ∙ gone) ∙ e in cc)
    | inr other ↦ sym (shrunk_keeps.others p other) ∙ e
  ]

  -- a fact of the children that holds of the parent and of all others
  by_children : (P : List ℕ → Type 0) → P (remove (place old parent).children k) → ((i : ℕ) → P (place old i).children) → (i : ℕ) → P (place new i).children
  by_children P here others i = elim (cases_eq i parent) [
    | inl same ↦ subst (λ a. P (place new a).children) (sym same) (subst P (sym shrinks.linked) here)
    | inr other ↦ subst P (sym (shrinks.others i other)) (others i)
  ]

  removed_within : (m : ℕ) → m < length (remove (place old parent).children k) → get_or (remove (place old parent).children k) m 0 < length new
  removed_within m l =
      let cs : List ℕ = (place old parent).children in
      let long = length-remove cs k found.within in
      elim (cases_lt m k) [
        | inl below ↦ let inside = arena.linked.within parent m (omega (arith, found.within)) in rw (get_or-remove_below cs k 0 m below found.within) (omega (arith, inside, shrinks.same_length))
        | inr above ↦ let inside = arena.linked.within parent (m + 1) (omega (arith, long)) in rw (get_or-remove_above cs k 0 m above found.within) (omega (arith, inside, shrinks.same_length))
      ]

  pub shrunk_arena : IsArena new
  shrunk_arena = record {
    linked = record {
      within = by_children (λ cs. (m : ℕ) → m < length cs → get_or cs m 0 < length new) removed_within (λ i m l. let inside = arena.linked.within i m l in omega (arith, inside, shrinks.same_length));
      ascending = by_children (AreAscending new)
          (same_ascending old new (remove (place old parent).children k) (all_names old new shrinks.names (remove (place old parent).children k)) (ascending_without old (take k (place old parent).children) (drop (suc k) (place old parent).children) (get_or (place old parent).children k 0) (subst (AreAscending old) split (arena.linked.ascending parent))))
          (λ i. same_ascending old new (place old i).children (all_names old new shrinks.names (place old i).children) (arena.linked.ascending i));
      few = by_children (λ cs. length cs < 65536) (let long = length-remove (place old parent).children k found.within in omega (arith, long, arena.linked.few parent)) arena.linked.few;
    };
    apart = λ p q i e f. arena.apart p q i (had p i e) (had q i f);
    paths = λ p i e. arena.paths p i (had p i e);
    root = shrinks.versions 0 ∙ arena.root;
    bare = λ i z. shrinks.nodes i ∙ arena.bare i (sym (shrinks.versions i) ∙ z);
  }

  same_own : (p : FilePath) (i : ℕ) → own_row p (place new i) ≡ own_row p (place old i)
  same_own p i = rw (shrinks.versions i, shrinks.nodes i) refl

  pub shrunk_rows : rows_of new ≡ rows_of old
  shrunk_rows =
      same_rows (rows_of new) (rows_of old) (rows_in_order new shrunk_arena.linked) (rows_in_order old arena.linked)
      (λ p. found_row new p shrunk_arena ∙ elim (same_or_not p (path ++ name ∷ [])) [
        | inl same ↦ subst (λ a. row_of new a (slot_of new 0 a) ≡ row_of old a (slot_of old 0 a)) (sym same) (rw (gone, one_further old path name parent at ∙ found.found) (sym (no_own (path ++ name ∷ []))))
        | inr other ↦ ap (row_of new p) (shrunk_keeps.others p other) ∙ by p (slot_of old 0 p)
      ] ∙ sym (found_row old p arena))
    where
      no_own : (p : FilePath) → own_row p (place old (get_or (place old parent).children k 0)) ≡ None
      no_own p = rw shrinks.idle refl

      by : (p : FilePath) (o : Option ℕ) → row_of new p o ≡ row_of old p o
      by p None = refl
      by p (Some i) = same_own p i

-- ---- the slots with one slot written

pub child_within : (slots : Places) (i k : ℕ) → k < length (place slots i).children → i < length slots
child_within slots i k inside = elim (cases_lt i (length slots)) [
  | inl within ↦ within
  | inr past ↦ absurd (let none = ap (λ (x : Place). length x.children) (get_or_past slots i no_place past) in omega (arith, none, inside))
]

pub shrinks_at : (slots : Places) (i k : ℕ) (x y : Place) → i < length slots → y ≡ get_or slots i y → x ≡ record { name = y.name; version = y.version; node = y.node; children = remove y.children k }
    → (place slots (get_or (place slots i).children k 0)).version ≡ 0 → (place slots (get_or (place slots i).children k 0)).children ≡ [] → Shrinks slots (set slots i x) i k
shrinks_at slots i k x y within read is idle leaf = record {
  linked = ap (λ (z : Place). z.children) (here ∙ is) ∙ ap (λ (z : Place). remove z.children k) (sym was);
  others = λ j other. ap (λ (z : Place). z.children) (elsewhere j other);
  names = λ j. by (λ (z : Place). z.name) (ap (λ (z : Place). z.name) is) j;
  versions = λ j. by (λ (z : Place). z.version) (ap (λ (z : Place). z.version) is) j;
  nodes = λ j. by (λ (z : Place). z.node) (ap (λ (z : Place). z.node) is) j;
  idle = idle;
  leaf = leaf;
  same_length = length-set slots i x;
}
  where
    here : place (set slots i x) i ≡ x
    here = get_or-set_same slots i x no_place within

    was : place slots i ≡ y
    was = read_place slots i y within read

    elsewhere : (j : ℕ) → (j ≡ i → ⊥) → place (set slots i x) j ≡ place slots j
    elsewhere j other = get_or-set_other slots i j x no_place other

    by : {X : Type 0} (f : Place → X) → f x ≡ f y → (j : ℕ) → f (place (set slots i x) j) ≡ f (place slots j)
    by f same j = elim (cases_eq j i) [
      | inl at ↦ subst (λ a. f (place (set slots i x) a) ≡ f (place slots a)) (sym at) (ap f here ∙ same ∙ ap f (sym was))
      | inr other ↦ ap f (elsewhere j other)
    ]

pub dropped : (slots : Places) (i k c : ℕ) (name : List ℕ) (x y z : Place) → IsArena slots → (path : FilePath) → slot_of slots 0 path ≡ Some i → IsFound slots (place slots i).children name k
    → y ≡ get_or slots i y → x ≡ record { name = y.name; version = y.version; node = y.node; children = remove y.children k }
    → c ≡ get_or (place slots i).children k 0 → z ≡ get_or slots c z → z.version ≡ 0 → z.children ≡ [] → IsArena (set slots i x) × (rows_of (set slots i x) ≡ rows_of slots)
dropped slots i k c name x y z arena path at found read is child read_child idle leaf =
    let within = child_within slots i k found.within in
    let inside : c < length slots = subst (λ a. a < length slots) (sym child) (arena.linked.within i k found.within) in
    let there : place slots (get_or (place slots i).children k 0) ≡ z = ap (place slots) (sym child) ∙ read_place slots c z inside read_child in
    let shrinks = shrinks_at slots i k x y within read is (ap (λ (p : Place). p.version) there ∙ idle) (ap (λ (p : Place). p.children) there ∙ leaf) in
    (shrunk_arena slots (set slots i x) i k name arena shrinks path at found, shrunk_rows slots (set slots i x) i k name arena shrinks path at found)
