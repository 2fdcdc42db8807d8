-- Slots of which one is written, added or taken away: which slot each path has then.
use Rattle.std.proofs.Common.{◌≡◌, ℕ, zero, suc, ◌<◌, ◌≤◌, Bool, true, false, List, [], ◌∷◌, ◌++◌, length, get_or, take, drop, Option, Some, None, inl, inr, arith, refl, sym, ap, ◌∙◌, subst}
use Rattle.std.specs.Prelude.{◌⊎◌}
use Rattle.std.specs.List.{AllByRecursion}
use Rattle.std.specs.Option.{option_or, option_and_then}
use Rattle.std.proofs.lemmas.Bool.{cases_eq}
use Rattle.std.proofs.lemmas.List.{append_assoc, length-append, take-append-drop}
use Rattle.std.proofs.lemmas.List.Folds.{find-append}
use Rattle.std.specs.declared.cmp.Ordering.{Ordering}
use Rattle.std.specs.declared.cmp.Ordering.TheVariants.{Less, Equal, Greater}
use Rattle.std.specs.Ordering.{is_eq}
use Rattle.file_paths.specs.Path.{FilePath, path_cmp}
use Rattle.tree_slots.specs.Arena.{Place, Places, place, name_cmp, child_named, slot_of, AreAscending, AreLinked, IsArena, Grows}
use Rattle.byte_fields.proofs.Facts.{tie_is_equal}
use Rattle.file_paths.proofs.Order.{same_path, paths_differ}
use Rattle.tree_slots.proofs.Slots.{same_name}
use Rattle.tree_slots.proofs.Walk.{same_itself}

-- ---- paths and slots

pub same_or_not : (p q : FilePath) → (p ≡ q) ⊎ (p ≡ q → ⊥)
same_or_not p q = by (path_cmp p q) refl
  where
    by : (o : Ordering) → path_cmp p q ≡ o → (p ≡ q) ⊎ (p ≡ q → ⊥)
    by Equal e = inl (same_path p q e)
    by Less e = inr (paths_differ p q Less e (λ l. absurd (cc)))
    by Greater e = inr (paths_differ p q Greater e (λ l. absurd (cc)))

pub slot_of-append : (slots : Places) (p q : FilePath) (i : ℕ) → slot_of slots i (p ++ q) ≡ option_and_then (λ k. slot_of slots k q) (slot_of slots i p)
slot_of-append slots [] q i = refl
slot_of-append slots (n ∷ p) q i = onward (child_named slots (place slots i).children n) (λ c. slot_of-append slots p q c)
  where
    onward : (o : Option ℕ) → ((c : ℕ) → slot_of slots c (p ++ q) ≡ option_and_then (λ k. slot_of slots k q) (slot_of slots c p)) → option_and_then (λ c. slot_of slots c (p ++ q)) o ≡ option_and_then (λ k. slot_of slots k q) (option_and_then (λ c. slot_of slots c p) o)
    onward None each = refl
    onward (Some c) each = each c

-- one name further
pub one_further : (slots : Places) (p : FilePath) (n : List ℕ) (i : ℕ) → slot_of slots 0 p ≡ Some i → slot_of slots 0 (p ++ n ∷ []) ≡ child_named slots (place slots i).children n
one_further slots p n i e = slot_of-append slots p (n ∷ []) 0 ∙ ap (option_and_then (λ k. slot_of slots k (n ∷ []))) e ∙ by (child_named slots (place slots i).children n)
  where
    by : (o : Option ℕ) → option_and_then (λ c. Some c) o ≡ o
    by None = refl
    by (Some c) = refl

-- ---- children

pub all_at : (P : ℕ → Type 0) (cs : List ℕ) → ((m : ℕ) → m < length cs → P (get_or cs m 0)) → AllByRecursion P cs
all_at P [] each = tt
all_at P (c ∷ cs) each = (each 0 (omega arith), all_at P cs (λ m l. each (suc m) (omega arith)))

pub all_take : (P : ℕ → Type 0) (k : ℕ) (cs : List ℕ) → AllByRecursion P cs → AllByRecursion P (take k cs)
all_take P zero cs all = tt
all_take P (suc k) [] all = tt
all_take P (suc k) (c ∷ cs) all = (all.0, all_take P k cs all.1)

pub all_drop : (P : ℕ → Type 0) (k : ℕ) (cs : List ℕ) → AllByRecursion P cs → AllByRecursion P (drop k cs)
all_drop P zero cs all = all
all_drop P (suc k) [] all = tt
all_drop P (suc k) (c ∷ cs) all = all_drop P k cs all.1

-- the child that is found is one of them
pub child_among : (P : ℕ → Type 0) (slots : Places) (cs : List ℕ) (n : List ℕ) (c : ℕ) → AllByRecursion P cs → child_named slots cs n ≡ Some c → P c
child_among P slots [] n c all e = absurd (cc)
child_among P slots (d ∷ cs) n c all e = by (is_eq (name_cmp (place slots d).name n)) refl (λ e. child_among P slots cs n c all.1 e)
  where
    by : (b : Bool) → is_eq (name_cmp (place slots d).name n) ≡ b → (child_named slots cs n ≡ Some c → P c) → P c
    by true g rest = let same : d ≡ c = cc (rw g at e) in subst P same all.0
    by false g rest = rest (rw g at e)

-- children with the same names are found alike
pub same_child : (old new : Places) (cs : List ℕ) (n : List ℕ) → AllByRecursion (λ c. (place new c).name ≡ (place old c).name) cs → child_named new cs n ≡ child_named old cs n
same_child old new [] n all = refl
same_child old new (c ∷ cs) n all = rw (all.0, same_child old new cs n all.1) refl

pub same_ascending : (old new : Places) (cs : List ℕ) → AllByRecursion (λ c. (place new c).name ≡ (place old c).name) cs → AreAscending old cs → AreAscending new cs
same_ascending old new [] all order = tt
same_ascending old new (c ∷ cs) all order = (each cs all.1 order.0, same_ascending old new cs all.1 order.1)
  where
    each : (ds : List ℕ) → AllByRecursion (λ c. (place new c).name ≡ (place old c).name) ds → AllByRecursion (λ d. name_cmp (place old c).name (place old d).name ≡ Less) ds → AllByRecursion (λ d. name_cmp (place new c).name (place new d).name ≡ Less) ds
    each [] same less = tt
    each (d ∷ ds) same less = (rw (all.0, same.0) less.0, each ds same.1 less.1)

pub all_names : (old new : Places) → ((c : ℕ) → (place new c).name ≡ (place old c).name) → (cs : List ℕ) → AllByRecursion (λ c. (place new c).name ≡ (place old c).name) cs
all_names old new names cs = all_at (λ c. (place new c).name ≡ (place old c).name) cs (λ m l. names (get_or cs m 0))

-- ---- slots that differ in versions and nodes alone

pub record SameShape (old new : Places) : Type 0 where
  pub names : (c : ℕ) → (place new c).name ≡ (place old c).name
  pub children : (i : ℕ) → (place new i).children ≡ (place old i).children

module _ (old new : Places) (shape : SameShape old new) where
  pub shape_slot : (q : FilePath) (i : ℕ) → slot_of new i q ≡ slot_of old i q
  shape_slot [] i = refl
  shape_slot (n ∷ q) i =
      rw (shape.children i, same_child old new (place old i).children n (all_names old new shape.names (place old i).children)) (onward (child_named old (place old i).children n) (λ c. shape_slot q c))
    where
      onward : (o : Option ℕ) → ((c : ℕ) → slot_of new c q ≡ slot_of old c q) → option_and_then (λ c. slot_of new c q) o ≡ option_and_then (λ c. slot_of old c q) o
      onward None each = refl
      onward (Some c) each = each c

  pub shape_linked : length old ≤ length new → AreLinked old → AreLinked new
  shape_linked longer linked = record {
    within = λ i k l.
        let here : k < length (place old i).children = rw (← shape.children i) l in
        let inside = linked.within i k here in
        rw (shape.children i) (omega arith);
    ascending = λ i. rw (shape.children i) (same_ascending old new (place old i).children (all_names old new shape.names (place old i).children) (linked.ascending i));
    few = λ i. rw (shape.children i) (linked.few i);
  }

  pub shape_arena : length old ≤ length new → IsArena old → (place new 0).version ≡ 0 → ((i : ℕ) → (place new i).version ≡ 0 → (place new i).node ≡ None) → IsArena new
  shape_arena longer arena root bare = record {
    linked = shape_linked longer arena.linked;
    apart = λ p q i e f. arena.apart p q i (sym (shape_slot p 0) ∙ e) (sym (shape_slot q 0) ∙ f);
    paths = λ p i e. arena.paths p i (sym (shape_slot p 0) ∙ e);
    root = root;
    bare = bare;
  }

-- ---- slots that differ in one child of one parent

-- the children with other names are found as before, and the one with this name has none in it
pub record AreAlike (old new : Places) (parent : ℕ) (name : List ℕ) : Type 0 where
  pub elsewhere : (p : FilePath) (i : ℕ) → slot_of old 0 p ≡ Some i → (i ≡ parent → ⊥) → (n : List ℕ) → child_named new (place new i).children n ≡ child_named old (place old i).children n
  pub other_names : (n : List ℕ) → is_eq (name_cmp name n) ≡ false → child_named new (place new parent).children n ≡ child_named old (place old parent).children n
  pub deeper : (m : List ℕ) (q : FilePath) → slot_of new parent (name ∷ m ∷ q) ≡ slot_of old parent (name ∷ m ∷ q)

-- each path but the child's keeps its slot
pub record KeepsSlots (old new : Places) (path : FilePath) (name : List ℕ) (parent : ℕ) : Type 0 where
  pub others : (p : FilePath) → (p ≡ path ++ name ∷ [] → ⊥) → slot_of new 0 p ≡ slot_of old 0 p
  pub above : slot_of new 0 path ≡ Some parent

module _ (old new : Places) (parent : ℕ) (name : List ℕ) (arena : IsArena old) (alike : AreAlike old new parent name) (path : FilePath) (at : slot_of old 0 path ≡ Some parent) where
  other_slot : (q p : FilePath) (i : ℕ) → slot_of old 0 p ≡ Some i → (p ++ q ≡ path ++ name ∷ [] → ⊥) → slot_of new i q ≡ slot_of old i q
  other_slot [] p i e other = refl
  other_slot (n ∷ q) p i e other =
      elim (cases_eq i parent) [
        | inl same ↦ at_parent same (is_eq (name_cmp name n)) refl (λ c. other_slot q (p ++ n ∷ []) c)
        | inr apart ↦ onward (λ c. other_slot q (p ++ n ∷ []) c) (alike.elsewhere p i e apart n)
      ]
    where
      further : (p ++ n ∷ []) ++ q ≡ path ++ name ∷ [] → ⊥
      further same = other (sym (append_assoc p (n ∷ []) q) ∙ same)

      onward : ((c : ℕ) → slot_of old 0 (p ++ n ∷ []) ≡ Some c → ((p ++ n ∷ []) ++ q ≡ path ++ name ∷ [] → ⊥) → slot_of new c q ≡ slot_of old c q) → child_named new (place new i).children n ≡ child_named old (place old i).children n → slot_of new i (n ∷ q) ≡ slot_of old i (n ∷ q)
      onward each kept = ap (option_and_then (λ c. slot_of new c q)) kept ∙ by (child_named old (place old i).children n) refl
        where
          by : (o : Option ℕ) → child_named old (place old i).children n ≡ o → option_and_then (λ c. slot_of new c q) o ≡ option_and_then (λ c. slot_of old c q) o
          by None f = refl
          by (Some c) f = each c (one_further old p n i e ∙ f) further

      deeper : (q : FilePath) → (p ++ n ∷ q ≡ path ++ name ∷ [] → ⊥) → p ≡ path → name ≡ n → slot_of new parent (n ∷ q) ≡ slot_of old parent (n ∷ q)
      deeper [] other here is = absurd (other (ap (λ a. a ++ n ∷ []) here ∙ ap (λ a. path ++ a ∷ []) (sym is)))
      deeper (m ∷ q) other here is = subst (λ a. slot_of new parent (a ∷ m ∷ q) ≡ slot_of old parent (a ∷ m ∷ q)) is (alike.deeper m q)

      at_parent : i ≡ parent → (b : Bool) → is_eq (name_cmp name n) ≡ b → ((c : ℕ) → slot_of old 0 (p ++ n ∷ []) ≡ Some c → ((p ++ n ∷ []) ++ q ≡ path ++ name ∷ [] → ⊥) → slot_of new c q ≡ slot_of old c q) → slot_of new i (n ∷ q) ≡ slot_of old i (n ∷ q)
      at_parent same true named each =
          let here : p ≡ path = arena.apart p path i e (at ∙ ap Some (sym same)) in
          subst (λ a. slot_of new a (n ∷ q) ≡ slot_of old a (n ∷ q)) (sym same) (deeper q other here (same_name name n (tie_is_equal (name_cmp name n) named)))
      at_parent same false named each = onward each (subst (λ a. child_named new (place new a).children n ≡ child_named old (place old a).children n) (sym same) (alike.other_names n named))

  pub keeps_slots : KeepsSlots old new path name parent
  keeps_slots = record {
    others = λ p other. other_slot p [] 0 refl other;
    above = other_slot path [] 0 refl (λ same. omega (arith, ap length same, length-append path (name ∷ []))) ∙ at;
  }

-- ---- one more slot

module _ (old new : Places) (parent k : ℕ) (name : List ℕ) (j : ℕ) (arena : IsArena old) (grows : Grows old new parent k name j) (path : FilePath) (at : slot_of old 0 path ≡ Some parent) (none : child_named old (place old parent).children name ≡ None) where
  -- the new slot was none of the children
  pub none_is_new : (i : ℕ) → AllByRecursion (λ c. c ≡ j → ⊥) (place old i).children
  none_is_new i = all_at (λ c. c ≡ j → ⊥) (place old i).children (λ m l. grows.unlinked i m l)

  -- and stood for no path
  unreached : (q : FilePath) (i : ℕ) → (i ≡ j → ⊥) → slot_of old i q ≡ Some j → ⊥
  unreached [] i other e = other (cc)
  unreached (n ∷ q) i other e = by (child_named old (place old i).children n) refl e (λ c. unreached q c)
    where
      by : (o : Option ℕ) → child_named old (place old i).children n ≡ o → option_and_then (λ c. slot_of old c q) o ≡ Some j → ((c : ℕ) → (c ≡ j → ⊥) → slot_of old c q ≡ Some j → ⊥) → ⊥
      by None f e each = absurd (cc)
      by (Some c) f e each = each c (child_among (λ c. c ≡ j → ⊥) old (place old i).children n c (none_is_new i) f) e

  pub reached : (p : FilePath) (i : ℕ) → slot_of old 0 p ≡ Some i → i ≡ j → ⊥
  reached p i e same = unreached p 0 (λ z. grows.below_root (sym z)) (e ∙ ap Some same)

  pub kept_name : (c : ℕ) → (c ≡ j → ⊥) → (place new c).name ≡ (place old c).name
  kept_name c other = elim (cases_eq c parent) [
    | inl same ↦ subst (λ c. (place new c).name ≡ (place old c).name) (sym same) (ap (λ (x : Place). x.name) grows.linked)
    | inr apart ↦ ap (λ (x : Place). x.name) (grows.others c other apart)
  ]

  pub kept_names : (cs : List ℕ) → AllByRecursion (λ c. c ≡ j → ⊥) cs → AllByRecursion (λ c. (place new c).name ≡ (place old c).name) cs
  kept_names [] all = tt
  kept_names (c ∷ cs) all = (kept_name c all.0, kept_names cs all.1)

  kept_child : (n : List ℕ) (cs : List ℕ) → AllByRecursion (λ c. c ≡ j → ⊥) cs → child_named new cs n ≡ child_named old cs n
  kept_child n cs all = same_child old new cs n (kept_names cs all)

  -- the children of the parent, found by another name or by the new one
  other_child : (n : List ℕ) → is_eq (name_cmp name n) ≡ false → child_named new (place new parent).children n ≡ child_named old (place old parent).children n
  other_child n differ =
      let cs : List ℕ = (place old parent).children in
      let front = kept_child n (take k cs) (all_take (λ c. c ≡ j → ⊥) k cs (none_is_new parent)) in
      let back = kept_child n (drop k cs) (all_drop (λ c. c ≡ j → ⊥) k cs (none_is_new parent)) in
      let whole = find-append (λ c. is_eq (name_cmp (place old c).name n)) (take k cs) (drop k cs) in
      ap (λ (x : Place). child_named new x.children n) grows.linked
      ∙ find-append (λ c. is_eq (name_cmp (place new c).name n)) (take k cs) (j ∷ drop k cs)
      ∙ rw (front, grows.fresh, differ, back) (sym whole ∙ ap (λ l. child_named old l n) (take-append-drop k cs))

  new_child : child_named new (place new parent).children name ≡ Some j
  new_child =
      let cs : List ℕ = (place old parent).children in
      let front = kept_child name (take k cs) (all_take (λ c. c ≡ j → ⊥) k cs (none_is_new parent)) in
      let whole = sym (find-append (λ c. is_eq (name_cmp (place old c).name name)) (take k cs) (drop k cs)) ∙ ap (λ l. child_named old l name) (take-append-drop k cs) ∙ none in
      ap (λ (x : Place). child_named new x.children name) grows.linked
      ∙ find-append (λ c. is_eq (name_cmp (place new c).name name)) (take k cs) (j ∷ drop k cs)
      ∙ rw (front, grows.fresh, same_itself name, front_none (child_named old (take k cs) name) (child_named old (drop k cs) name) whole) refl
    where
      front_none : (a b : Option ℕ) → option_or a b ≡ None → a ≡ None
      front_none None b e = refl
      front_none (Some x) b e = absurd (cc)

  alike : AreAlike old new parent name
  alike = record {
    elsewhere = λ p i e apart n. ap (λ (x : Place). child_named new x.children n) (grows.others i (reached p i e) apart) ∙ kept_child n (place old i).children (none_is_new i);
    other_names = other_child;
    deeper = λ m q. ap (option_and_then (λ c. slot_of new c (m ∷ q))) new_child ∙ leaf m q ∙ sym (ap (option_and_then (λ c. slot_of old c (m ∷ q))) none);
  }
    where
      leaf : (m : List ℕ) (q : FilePath) → slot_of new j (m ∷ q) ≡ None
      leaf m q = rw grows.fresh refl

  -- each path but the new one keeps its slot
  pub grown_keeps : KeepsSlots old new path name parent
  grown_keeps = keeps_slots old new parent name arena alike path at

  -- and the new one has the new slot
  pub grown_at : slot_of new 0 (path ++ name ∷ []) ≡ Some j
  grown_at = one_further new path name parent grown_keeps.above ∙ new_child
