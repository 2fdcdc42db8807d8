-- One more slot keeps the rules and the rows.
use Rattle.std.proofs.Common.{◌≡◌, ℕ, zero, suc, ◌+◌, ◌-◌, ◌<◌, ◌≤◌, List, [], ◌∷◌, ◌++◌, length, get_or, take, drop, Option, Some, None, inl, inr, arith, refl, sym, ap, ◌∙◌, subst}
use Rattle.std.specs.Prelude.{◌⊎◌, Result, Ok, Err, IfOk, OnOk}
use Rattle.std.specs.List.{AllByRecursion, insert}
use Rattle.std.proofs.lemmas.Bool.{cases_eq, cases_lt}
use Rattle.std.proofs.lemmas.List.{length-take, length-drop, get_or-take, get_or-drop, take-append-drop, take_more}
use Rattle.std.proofs.lemmas.List.Edits.{length-insert, get_or-insert_below, get_or-insert_at, get_or-insert_above}
use Rattle.std.specs.declared.cmp.Ordering.TheVariants.{Less}
use Rattle.std.specs.Ordering.{ordering_reverse}
use Rattle.file_paths.specs.Path.{FilePath, IsPath}
use Rattle.tree_slots.specs.Arena.{Place, Places, no_place, place, name_cmp, child_named, slot_of, own_row, rows_of, AreAscending, AreLinked, IsArena, IsFound, IsMissing, Grows, IsEntered}
use Rattle.file_paths.proofs.PathLemmas.{front_is_path}
use Rattle.tree_slots.proofs.Slots.{names_total}
use Rattle.tree_slots.proofs.Walk.{row_of, found_row, rows_in_order}
use Rattle.tree_values.proofs.Ordered.{same_rows}
use Rattle.tree_slots.proofs.Links.{SameShape, shape_slot, shape_arena, same_or_not, all_at, same_ascending, none_is_new, kept_name, kept_names, reached, KeepsSlots, grown_keeps, grown_at, one_further}

-- ---- order

pub with_one : (P : ℕ → Type 0) (front back : List ℕ) (j : ℕ) → AllByRecursion P (front ++ back) → P j → AllByRecursion P (front ++ j ∷ back)
with_one P [] back j all here = (here, all)
with_one P (c ∷ front) back j all here = (all.0, with_one P front back j all.1 here)

ascending_with : (slots : Places) (front back : List ℕ) (j : ℕ) → AreAscending slots (front ++ back) → AllByRecursion (λ c. name_cmp (place slots c).name (place slots j).name ≡ Less) front → AllByRecursion (λ c. name_cmp (place slots j).name (place slots c).name ≡ Less) back → AreAscending slots (front ++ j ∷ back)
ascending_with slots [] back j order below above = (above, order)
ascending_with slots (c ∷ front) back j order below above =
    (with_one (λ d. name_cmp (place slots c).name (place slots d).name ≡ Less) front back j order.0 below.0, ascending_with slots front back j order.1 below.1 above)

module _ (old new : Places) (parent k : ℕ) (name : List ℕ) (j : ℕ) (arena : IsArena old) (grows : Grows old new parent k name j) (path : FilePath) (at : slot_of old 0 path ≡ Some parent) (missing : IsMissing old (place old parent).children name k) where
  none : child_named old (place old parent).children name ≡ None
  none = missing.none

  new_name : (place new j).name ≡ name
  new_name = ap (λ (x : Place). x.name) grows.fresh

  -- a child keeps its name
  child_name : (i m : ℕ) → m < length (place old i).children → (place new (get_or (place old i).children m 0)).name ≡ (place old (get_or (place old i).children m 0)).name
  child_name i m l = kept_name old new parent k name j arena grows path at none (get_or (place old i).children m 0) (grows.unlinked i m l)

  children : List ℕ
  children = (place old parent).children

  ascending_parent : AreAscending new (insert (place old parent).children k j)
  ascending_parent =
      let cs : List ℕ = (place old parent).children in
      let order = same_ascending old new cs (kept_names old new parent k name j arena grows path at none cs (none_is_new old new parent k name j arena grows path at none parent)) (arena.linked.ascending parent) in
      ascending_with new (take k cs) (drop k cs) j (subst (AreAscending new) (sym (take-append-drop k cs)) order)
      (all_at (λ c. name_cmp (place new c).name (place new j).name ≡ Less) (take k cs) (λ m l.
      let here : m < k = omega (arith, length-take k cs) in
      let inside : m < length cs = omega (arith, length-take k cs) in
      rw (get_or-take k cs m 0 here, new_name, child_name parent m inside) (missing.below m here)))
      (all_at (λ c. name_cmp (place new j).name (place new c).name ≡ Less) (drop k cs) (λ m l.
      let inside : k + m < length cs = omega (arith, length-drop k cs) in
      rw (get_or-drop k cs m 0, new_name, child_name parent (k + m) inside) (names_total.antisymm name (place old (get_or cs (k + m) 0)).name ∙ ap ordering_reverse (missing.above (k + m) (omega arith) inside))))

  -- ---- what each slot is then

  -- a fact of the places that holds of the new one, of its parent and of all others
  by_place : (P : ℕ → Place → Type 0) → P j (place new j) → P parent (place new parent) → ((i : ℕ) → P i (place old i)) → (i : ℕ) → P i (place new i)
  by_place P here above others i = elim (cases_eq i j) [
    | inl same ↦ subst (λ a. P a (place new a)) (sym same) here
    | inr apart ↦ elim (cases_eq i parent) [
      | inl same ↦ subst (λ a. P a (place new a)) (sym same) above
      | inr other ↦ subst (P i) (sym (grows.others i apart other)) (others i)
    ]
  ]

  inserted_within : (m : ℕ) → m < length (insert (place old parent).children k j) → get_or (insert (place old parent).children k j) m 0 < length new
  inserted_within m l =
      let cs : List ℕ = (place old parent).children in
      let long : length (insert cs k j) ≡ length cs + 1 = length-insert cs k j missing.within in
      elim (cases_lt m k) [
        | inl below ↦
            let inside = arena.linked.within parent m (omega (arith, missing.within)) in
            rw (get_or-insert_below cs k j 0 m below missing.within) (omega (arith, grows.longer))
        | inr above ↦ elim (cases_eq m k) [
          | inl same ↦ subst (λ a. get_or (insert cs k j) a 0 < length new) (sym same) (rw (get_or-insert_at cs k j 0 missing.within) grows.within)
          | inr other ↦
              let shift : m ≡ m - 1 + 1 = omega arith in
              subst (λ a. get_or (insert cs k j) a 0 < length new) (sym shift) (later (m - 1) (omega arith) (omega (arith, l, long)))
        ]
      ]
    where
      later : (p : ℕ) → k ≤ p → p < length (place old parent).children → get_or (insert (place old parent).children k j) (p + 1) 0 < length new
      later p above inside =
          let there = arena.linked.within parent p inside in
          rw (get_or-insert_above (place old parent).children k j 0 p above missing.within) (omega (arith, grows.longer))

  pub grown_linked : length (place old parent).children < 65535 → AreLinked new
  grown_linked room = record {
    within = by_place (λ i (x : Place). (m : ℕ) → m < length x.children → get_or x.children m 0 < length new)
        (rw grows.fresh (λ m l. absurd (omega arith)))
        (rw grows.linked inserted_within)
        (λ i m l. let inside = arena.linked.within i m l in omega (arith, grows.longer));
    ascending = by_place (λ i (x : Place). AreAscending new x.children)
        (rw grows.fresh tt)
        (rw grows.linked ascending_parent)
        (λ i. same_ascending old new (place old i).children (kept_names old new parent k name j arena grows path at none (place old i).children (none_is_new old new parent k name j arena grows path at none i)) (arena.linked.ascending i));
    few = by_place (λ i (x : Place). length x.children < 65536)
        (rw grows.fresh (omega arith))
        (rw (grows.linked, length-insert (place old parent).children k j missing.within) (omega arith))
        arena.linked.few;
  }

  -- ---- the paths

  keeps : KeepsSlots old new path name parent
  keeps = grown_keeps old new parent k name j arena grows path at none

  -- another path does not have the new slot
  other_slot : (p : FilePath) (i : ℕ) → (p ≡ path ++ name ∷ [] → ⊥) → slot_of new 0 p ≡ Some i → i ≡ j → ⊥
  other_slot p i other e = reached old new parent k name j arena grows path at none p i (sym (keeps.others p other) ∙ e)

  new_slot : (i : ℕ) → slot_of new 0 (path ++ name ∷ []) ≡ Some i → i ≡ j
  new_slot i e = let both = sym e ∙ grown_at old new parent k name j arena grows path at none in cc

  grown_apart : (p q : FilePath) (i : ℕ) → slot_of new 0 p ≡ Some i → slot_of new 0 q ≡ Some i → p ≡ q
  grown_apart p q i e f = elim (same_or_not p (path ++ name ∷ [])) [
    | inl at_p ↦ elim (same_or_not q (path ++ name ∷ [])) [
      | inl at_q ↦ at_p ∙ sym at_q
      | inr not_q ↦ absurd (other_slot q i not_q f (new_slot i (ap (slot_of new 0) (sym at_p) ∙ e)))
    ]
    | inr not_p ↦ elim (same_or_not q (path ++ name ∷ [])) [
      | inl at_q ↦ absurd (other_slot p i not_p e (new_slot i (ap (slot_of new 0) (sym at_q) ∙ f)))
      | inr not_q ↦ arena.apart p q i (sym (keeps.others p not_p) ∙ e) (sym (keeps.others q not_q) ∙ f)
    ]
  ]

  pub grown_arena : length (place old parent).children < 65535 → IsPath (path ++ name ∷ []) → IsArena new
  grown_arena room legal = record {
    linked = grown_linked room;
    apart = grown_apart;
    paths = λ p i e. elim (same_or_not p (path ++ name ∷ [])) [
      | inl same ↦ subst IsPath (sym same) legal
      | inr other ↦ arena.paths p i (sym (keeps.others p other) ∙ e)
    ];
    root = elim (cases_eq 0 parent) [
      | inl same ↦ subst (λ i. (place old i).version ≡ 0 → (place new i).version ≡ 0) (sym same) (λ z. ap (λ (x : Place). x.version) grows.linked ∙ z) arena.root
      | inr other ↦ ap (λ (x : Place). x.version) (grows.others 0 (λ z. grows.below_root (sym z)) other) ∙ arena.root
    ];
    bare = by_place (λ i (x : Place). x.version ≡ 0 → x.node ≡ None)
        (rw grows.fresh (λ z. refl))
        (rw grows.linked (arena.bare parent))
        arena.bare;
  }

  -- the row of a slot stays
  kept_row : (p : FilePath) (i : ℕ) → (i ≡ j → ⊥) → own_row p (place new i) ≡ own_row p (place old i)
  kept_row p i other = elim (cases_eq i parent) [
    | inl same ↦ subst (λ a. own_row p (place new a) ≡ own_row p (place old a)) (sym same) (ap (own_row p) grows.linked)
    | inr apart ↦ ap (own_row p) (grows.others i other apart)
  ]

  pub grown_rows : length (place old parent).children < 65535 → IsPath (path ++ name ∷ []) → rows_of new ≡ rows_of old
  grown_rows room legal =
      let after = grown_arena room legal in
      same_rows (rows_of new) (rows_of old) (rows_in_order new after.linked) (rows_in_order old arena.linked)
      (λ p. found_row new p after ∙ elim (same_or_not p (path ++ name ∷ [])) [
        | inl same ↦ subst (λ a. row_of new a (slot_of new 0 a) ≡ row_of old a (slot_of old 0 a)) (sym same) (at_new (one_further old path name parent at ∙ none))
        | inr other ↦ ap (row_of new p) (keeps.others p other) ∙ elsewhere p (slot_of old 0 p) refl
      ] ∙ sym (found_row old p arena))
    where
      at_new : slot_of old 0 (path ++ name ∷ []) ≡ None → row_of new (path ++ name ∷ []) (slot_of new 0 (path ++ name ∷ [])) ≡ row_of old (path ++ name ∷ []) (slot_of old 0 (path ++ name ∷ []))
      at_new free = rw (grown_at old new parent k name j arena grows path at none, free, grows.fresh) refl

      elsewhere : (p : FilePath) (o : Option ℕ) → slot_of old 0 p ≡ o → row_of new p o ≡ row_of old p o
      elsewhere p None e = refl
      elsewhere p (Some i) e = kept_row p i (reached old new parent k name j arena grows path at none p i e)

-- ---- a path has its slot

-- slots that are read alike are alike
pub same_places : (old new : Places) → ((i : ℕ) → place new i ≡ place old i) → length old ≤ length new → 0 < length new → IsArena old → IsEntered old new [] 0
same_places old new same longer some arena = record { arena = after; rows = rows; slot = refl; within = some }
  where
    shape : SameShape old new
    shape = record { names = λ i. ap (λ (x : Place). x.name) (same i); children = λ i. ap (λ (x : Place). x.children) (same i) }

    after : IsArena new
    after = shape_arena old new shape longer arena (ap (λ (x : Place). x.version) (same 0) ∙ arena.root) (λ i. rw (same i) (arena.bare i))

    by : (p : FilePath) (o : Option ℕ) → row_of new p o ≡ row_of old p o
    by p None = refl
    by p (Some i) = ap (own_row p) (same i)

    rows : rows_of new ≡ rows_of old
    rows = same_rows (rows_of new) (rows_of old) (rows_in_order new after.linked) (rows_in_order old arena.linked) (λ p. found_row new p after ∙ ap (row_of new p) (shape_slot old new shape p 0) ∙ by p (slot_of old 0 p) ∙ sym (found_row old p arena))

pub rooted : (slots : Places) → IsArena slots → length slots ≡ 0 → IsEntered slots (slots ++ no_place ∷ []) [] 0
rooted [] arena e = same_places [] (no_place ∷ []) alike (omega arith) (omega arith) arena
  where
    alike : (i : ℕ) → place (no_place ∷ []) i ≡ place [] i
    alike zero = refl
    alike (suc i) = refl
rooted (x ∷ slots) arena e = absurd (omega arith)

pub entered_found : (slots : Places) (at k : ℕ) (name : List ℕ) → IsArena slots → IsFound slots (place slots at).children name k → (path : FilePath) → slot_of slots 0 path ≡ Some at → IsPath (path ++ name ∷ []) → IsEntered slots slots (path ++ name ∷ []) (get_or (place slots at).children k 0)
entered_found slots at k name arena found path e legal =
    record { arena = arena; rows = refl; slot = one_further slots path name at e ∙ found.found; within = arena.linked.within at k found.within }

pub entered_new : {E : Type 0} (old new : Places) (at k : ℕ) (name : List ℕ) (r : Result ℕ E) → IsArena old → IsMissing old (place old at).children name k → IfOk r (Grows old new at k name) → OnOk r (length (place old at).children < 65535) → IfOk r (λ j. (path : FilePath) → slot_of old 0 path ≡ Some at → IsPath (path ++ name ∷ []) → IsEntered old new (path ++ name ∷ []) j)
entered_new old new at k name (Err e) arena missing grows room = tt
entered_new old new at k name (Ok j) arena missing grows room = λ path e legal. record {
  arena = grown_arena old new at k name j arena grows path e missing room legal;
  rows = grown_rows old new at k name j arena grows path e missing room legal;
  slot = grown_at old new at k name j arena grows path e missing.none;
  within = grows.within;
}

-- one name further
pub one_step : (start old new : Places) (path : FilePath) (i at j : ℕ) (name : List ℕ) → IsPath path → i < length path → name ≡ get_or path i name → IsEntered start old (take i path) at
    → ((p : FilePath) → slot_of old 0 p ≡ Some at → IsPath (p ++ name ∷ []) → IsEntered old new (p ++ name ∷ []) j) → IsEntered start new (take (i + 1) path) j
one_step start old new path i at j name legal inside read before next =
    let front : take (i + 1) path ≡ take i path ++ name ∷ [] = take_more path i name inside ∙ ap (λ n. take i path ++ n ∷ []) (sym read) in
    let then = next (take i path) before.slot (subst IsPath front (front_is_path path (i + 1) legal)) in
    record { arena = then.arena; rows = then.rows ∙ before.rows; slot = ap (slot_of new 0) front ∙ then.slot; within = then.within }

-- no slots are an arena without rows
pub no_slots : IsArena []
no_slots = record {
  linked = record { within = λ i k l. absurd (omega arith); ascending = λ i. tt; few = λ i. omega arith };
  apart = apart;
  paths = paths;
  root = refl;
  bare = λ i z. refl;
}
  where
    apart : (p q : FilePath) (i : ℕ) → slot_of [] 0 p ≡ Some i → slot_of [] 0 q ≡ Some i → p ≡ q
    apart [] [] i e f = refl
    apart [] (m ∷ q) i e f = absurd (cc)
    apart (n ∷ p) q i e f = absurd (cc)

    paths : (p : FilePath) (i : ℕ) → slot_of [] 0 p ≡ Some i → IsPath p
    paths [] i e = record { named = refl; shallow = omega arith; short = omega arith }
    paths (n ∷ p) i e = absurd (cc)

pub no_rows : rows_of [] ≡ []
unfolding rows_of
no_rows = refl
