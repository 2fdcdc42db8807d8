-- No slot stays that stands for no row and has none below it.
use Rattle.std.proofs.Common.{◌≡◌, ◌≢◌, ℕ, suc, ◌+◌, ◌-◌, ◌<◌, ◌≤◌, List, [], ◌∷◌, ◌++◌, length, get_or, set, take, drop, Option, Some, None, Result, Ok, Err, IfOk, inl, inr, arith, refl, sym, ap, ◌∙◌, subst}
use Rattle.std.specs.List.{AllByRecursion, insert, remove}
use Rattle.std.specs.Option.{option_and_then}
use Rattle.std.proofs.lemmas.Bool.{cases_eq}
use Rattle.std.proofs.lemmas.List.{take-append-drop, take_more, take_all}
use Rattle.std.proofs.lemmas.List.Edits.{length-insert}
use Rattle.file_paths.specs.Path.{FilePath}
use Rattle.tree_values.specs.declared.node.Node.{Node}
use Rattle.tree_slots.specs.Arena.{Place, Places, place, slot_of, IsArena, IsFreeSlot, IsPool, IsIdle, AreUsed, IsFound, IsMissing, IsEntered, KeepsArena, Pads, Grows, Shrinks, written}
use Rattle.tree_slots.proofs.Slots.{read_place}
use Rattle.tree_slots.proofs.Links.{SameShape, shape_slot, slot_of-append, one_further}
use Rattle.tree_slots.proofs.Grown.{with_one, no_slots}
use Rattle.tree_slots.proofs.Shrunk.{without_one, split_at, child_within, shrinks_at, shrunk_keeps}
use Rattle.tree_slots.proofs.Pool.{all_to, all_with, but_last, not_none, no_pool, written_pool, dropped_pool}
use Rattle.tree_slots.proofs.Written.{written_here, written_elsewhere, written_shape, written_slot}

-- what holds of a slot in another
abbrev pub IsUsed : Places → Option ℕ → ℕ → Type 0
IsUsed slots but c = (but ≡ Some c → ⊥) → IsIdle (place slots c) → ⊥

some_same : (i c : ℕ) → Some i ≡ Some c → c ≡ i
some_same i c e = cc

-- more may be idle
pub used_any : (slots : Places) (but : Option ℕ) → AreUsed slots None → AreUsed slots but
used_any slots but used i = all_to step (place slots i).children (used i)
  where
    step : (c : ℕ) → IsUsed slots None c → IsUsed slots but c
    step c all other idle = all (λ e. absurd (cc)) idle

-- where the one that may be idle is not, none is
pub used_all : (slots : Places) (but : Option ℕ) → ((c : ℕ) → but ≡ Some c → IsIdle (place slots c) → ⊥) → AreUsed slots but → AreUsed slots None
used_all slots but busy used i = all_to step (place slots i).children (used i)
  where
    step : (c : ℕ) → IsUsed slots but c → IsUsed slots None c
    step c all other idle = all (λ e. busy c e idle) idle

-- the root's slot is in no other
pub used_root : (slots : Places) (free : List ℕ) (capacity : ℕ) → IsPool slots free capacity → AreUsed slots (Some 0) → AreUsed slots None
used_root slots free capacity pool used i = all_with step (place slots i).children (pool.owned i) (used i)
  where
    step : (c : ℕ) → pool.owner c ≡ Some i → IsUsed slots (Some 0) c → IsUsed slots None c
    step c owned all other idle = all (λ e. not_none i (pool.owner c) (ap pool.owner (some_same 0 c e) ∙ pool.root) owned) idle

pub used_pads : (old new : Places) (but : Option ℕ) → Pads old new → AreUsed old but → AreUsed new but
used_pads old new but pads used i = subst (AllByRecursion (IsUsed new but)) (sym (ap (λ (x : Place). x.children) (pads.same i))) (all_to step (place old i).children (used i))
  where
    step : (c : ℕ) → IsUsed old but c → IsUsed new but c
    step c all other idle = all other (subst IsIdle (pads.same c) idle)

-- a slot that has one in it is not idle
pub used_found : (slots : Places) (at k : ℕ) (but : Option ℕ) → k < length (place slots at).children → AreUsed slots (Some at) → AreUsed slots but
used_found slots at k but within used =
    used_any slots but (used_all slots (Some at) (λ c e idle. let none = ap (λ a. length (place slots a).children) (sym (some_same at c e)) ∙ ap length idle.1 in omega (arith, none, within)) used)

pub used_grown : (old new : Places) (parent k : ℕ) (name : List ℕ) (j : ℕ) → k ≤ length (place old parent).children → Grows old new parent k name j → AreUsed old (Some parent) → AreUsed new (Some j)
used_grown old new parent k name j index grows used i =
    elim (cases_eq i j) [
      | inl same ↦ subst (λ a. AllByRecursion (IsUsed new (Some j)) (place new a).children) (sym same) (subst (AllByRecursion (IsUsed new (Some j))) (sym (ap (λ (x : Place). x.children) grows.fresh)) tt)
      | inr one ↦ elim (cases_eq i parent) [
        | inl same ↦ subst (λ a. AllByRecursion (IsUsed new (Some j)) (place new a).children) (sym same)
            (subst (AllByRecursion (IsUsed new (Some j))) (sym (ap (λ (x : Place). x.children) grows.linked))
            (with_one (IsUsed new (Some j)) (take k (place old parent).children) (drop k (place old parent).children) j
            (subst (AllByRecursion (IsUsed new (Some j))) (sym (take-append-drop k (place old parent).children)) (still parent))
            (λ other idle. other refl)))
        | inr two ↦ subst (AllByRecursion (IsUsed new (Some j))) (sym (ap (λ (x : Place). x.children) (grows.others i one two))) (still i)
      ]
    ]
  where
    step : (c : ℕ) → IsUsed old (Some parent) c → IsUsed new (Some j) c
    step c all other idle = elim (cases_eq c j) [
      | inl same ↦ other (ap Some (sym same))
      | inr one ↦ elim (cases_eq c parent) [
        | inl same ↦
            let none : length (insert (place old parent).children k j) ≡ 0 = sym (ap (λ (x : Place). length x.children) (ap (place new) same ∙ grows.linked)) ∙ ap length idle.1 in
            omega (arith, none, length-insert (place old parent).children k j index)
        | inr two ↦ all (λ e. two (some_same parent c e)) (subst IsIdle (grows.others c one two) idle)
      ]
    ]

    still : (i : ℕ) → AllByRecursion (IsUsed new (Some j)) (place old i).children
    still i = all_to step (place old i).children (used i)

pub used_shrunk : (old new : Places) (free : List ℕ) (capacity parent k : ℕ) → k < length (place old parent).children → Shrinks old new parent k → IsPool new (free ++ get_or (place old parent).children k 0 ∷ []) capacity → AreUsed old (Some (get_or (place old parent).children k 0)) → AreUsed new (Some parent)
used_shrunk old new free capacity parent k index shrinks pool used i = all_with step (place new i).children (pool.owned i) rest
  where
    gone_free : IsFreeSlot new (pool.owner (get_or (place old parent).children k 0)) (get_or (place old parent).children k 0)
    gone_free = (but_last (λ c. IsFreeSlot new (pool.owner c) c) free (get_or (place old parent).children k 0) pool.unlinked).1

    step : (c : ℕ) → pool.owner c ≡ Some i → IsUsed old (Some (get_or (place old parent).children k 0)) c → IsUsed new (Some parent) c
    step c owned all other idle =
        let below : c ≡ parent → ⊥ = λ same. other (ap Some (sym same)) in
        all (λ e. not_none i (pool.owner c) (ap pool.owner (some_same (get_or (place old parent).children k 0) c e) ∙ gone_free.unowned) owned)
        (sym (shrinks.versions c) ∙ idle.0, sym (shrinks.others c below) ∙ idle.1)

    rest : AllByRecursion (IsUsed old (Some (get_or (place old parent).children k 0))) (place new i).children
    rest = elim (cases_eq i parent) [
      | inl same ↦ subst (λ a. AllByRecursion (IsUsed old (Some (get_or (place old parent).children k 0))) (place new a).children) (sym same)
          (subst (AllByRecursion (IsUsed old (Some (get_or (place old parent).children k 0)))) (sym shrinks.linked)
          (without_one (IsUsed old (Some (get_or (place old parent).children k 0))) (take k (place old parent).children) (drop (suc k) (place old parent).children) (get_or (place old parent).children k 0) (subst (AllByRecursion (IsUsed old (Some (get_or (place old parent).children k 0)))) (split_at (place old parent).children k index) (used parent))))
      | inr other ↦ subst (AllByRecursion (IsUsed old (Some (get_or (place old parent).children k 0)))) (sym (shrinks.others i other)) (used i)
    ]

-- ---- one slot written

module _ (slots : Places) (i version : ℕ) (node : Option Node) (within : i < length slots) where
  same_children : (k : ℕ) → (place (written slots i version node) k).children ≡ (place slots k).children
  same_children k = (written_shape slots i version node within).children k

  -- a slot that stands for a row then is not idle
  pub used_written : (version ≡ 0 → ⊥) → AreUsed slots (Some i) → AreUsed (written slots i version node) None
  used_written some used k = subst (AllByRecursion (IsUsed (written slots i version node) None)) (sym (same_children k)) (all_to step (place slots k).children (used k))
    where
      step : (c : ℕ) → IsUsed slots (Some i) c → IsUsed (written slots i version node) None c
      step c all none idle = elim (cases_eq c i) [
        | inl same ↦ some (sym (ap (λ (x : Place). x.version) (ap (place (written slots i version node)) same ∙ written_here slots i version node within)) ∙ idle.0)
        | inr other ↦ all (λ e. other (some_same i c e)) (subst IsIdle (written_elsewhere slots i version node within c other) idle)
      ]

  -- and no other becomes idle
  pub used_emptied : AreUsed slots None → AreUsed (written slots i version node) (Some i)
  used_emptied used k = subst (AllByRecursion (IsUsed (written slots i version node) (Some i))) (sym (same_children k)) (all_to step (place slots k).children (used k))
    where
      step : (c : ℕ) → IsUsed slots None c → IsUsed (written slots i version node) (Some i) c
      step c all exempt idle = elim (cases_eq c i) [
        | inl same ↦ exempt (ap Some (sym same))
        | inr other ↦ all (λ e. absurd (cc)) (subst IsIdle (written_elsewhere slots i version node within c other) idle)
      ]

-- ---- what calls leave

pub entered_used : {E : Type 0} (old new : Places) (at k : ℕ) (name : List ℕ) (r : Result ℕ E) → IsMissing old (place old at).children name k → IfOk r (Grows old new at k name) → IfOk r (λ j. AreUsed old (Some at) → AreUsed new (Some j))
entered_used old new at k name (Err e) missing grows = tt
entered_used old new at k name (Ok j) missing grows = used_grown old new at k name j missing.within grows

-- where the way up begins
pub used_at : (slots : Places) (p : FilePath) (i : ℕ) → slot_of slots 0 p ≡ Some i → AreUsed slots (Some i) → AreUsed slots (slot_of slots 0 p)
used_at slots p i at used = subst (AreUsed slots) (sym at) used

pub used_padded : (start old new : Places) (p : FilePath) (i : ℕ) → IsEntered start old p i → Pads old new → AreUsed old (Some i) → AreUsed new (slot_of new 0 p)
used_padded start old new p i entered pads used =
    let shape : SameShape old new = record { names = λ c. ap (λ (x : Place). x.name) (pads.same c); children = λ c. ap (λ (x : Place). x.children) (pads.same c) } in
    used_at new p i (shape_slot old new shape p 0 ∙ entered.slot) (used_pads old new (Some i) pads used)

-- a path without a slot
pub used_nowhere : (slots : Places) (p : FilePath) → slot_of slots 0 p ≡ None → AreUsed slots (slot_of slots 0 p) → AreUsed slots None
used_nowhere slots p none used = subst (AreUsed slots) none used

pub no_folder_slot : (slots : Places) (folder : FilePath) (name : List ℕ) → slot_of slots 0 folder ≡ None → slot_of slots 0 (folder ++ name ∷ []) ≡ None
no_folder_slot slots folder name none = slot_of-append slots folder (name ∷ []) 0 ∙ ap (option_and_then (λ k. slot_of slots k (name ∷ []))) none

pub no_name_slot : (slots : Places) (folder : FilePath) (name : List ℕ) (i k : ℕ) → slot_of slots 0 folder ≡ Some i → IsMissing slots (place slots i).children name k → slot_of slots 0 (folder ++ name ∷ []) ≡ None
no_name_slot slots folder name i k at missing = one_further slots folder name i at ∙ missing.none

pub not_idle : (slots : Places) (folder : FilePath) (name : List ℕ) (i k c : ℕ) (z : Place) → IsArena slots → slot_of slots 0 folder ≡ Some i → IsFound slots (place slots i).children name k → c ≡ get_or (place slots i).children k 0 → z ≡ get_or slots c z
    → (z.version ≡ 0 → z.children ≡ [] → ⊥) → AreUsed slots (slot_of slots 0 (folder ++ name ∷ [])) → AreUsed slots None
not_idle slots folder name i k c z arena at found child read busy used =
    used_all slots (slot_of slots 0 (folder ++ name ∷ [])) (λ d e (idle : IsIdle (place slots d)).
    let inside : c < length slots = subst (λ a. a < length slots) (sym child) (arena.linked.within i k found.within) in
    let same : d ≡ c = some_same c d (ap Some child ∙ sym (one_further slots folder name i at ∙ found.found) ∙ e) in
    let is : place slots d ≡ z = ap (place slots) same ∙ read_place slots c z inside read in
    busy (sym (ap (λ (x : Place). x.version) is) ∙ idle.0) (sym (ap (λ (x : Place). x.children) is) ∙ idle.1)) used

pub dropped_used : (slots : Places) (free : List ℕ) (capacity i k c : ℕ) (name : List ℕ) (x y z : Place) → IsArena slots → IsPool slots free capacity → (path : FilePath) → slot_of slots 0 path ≡ Some i → IsFound slots (place slots i).children name k
    → y ≡ get_or slots i y → x ≡ record { name = y.name; version = y.version; node = y.node; children = remove y.children k } → c ≡ get_or (place slots i).children k 0 → z ≡ get_or slots c z → z.version ≡ 0 → z.children ≡ []
    → AreUsed slots (slot_of slots 0 (path ++ name ∷ [])) → AreUsed (set slots i x) (slot_of (set slots i x) 0 path)
dropped_used slots free capacity i k c name x y z arena pool path at found read is child read_child idle leaf used =
    let within = child_within slots i k found.within in
    let inside : c < length slots = subst (λ a. a < length slots) (sym child) (arena.linked.within i k found.within) in
    let there : place slots (get_or (place slots i).children k 0) ≡ z = ap (place slots) (sym child) ∙ read_place slots c z inside read_child in
    let shrinks = shrinks_at slots i k x y within read is (ap (λ (p : Place). p.version) there ∙ idle) (ap (λ (p : Place). p.children) there ∙ leaf) in
    let after = (dropped_pool slots free capacity i k c x y z arena.linked pool within found.within read is child read_child leaf).1 in
    let after_pool = subst (λ a. IsPool (set slots i x) (free ++ a ∷ []) capacity) child after in
    let before = subst (AreUsed slots) (one_further slots path name i at ∙ found.found) used in
    used_at (set slots i x) path i (shrunk_keeps slots (set slots i x) i k name arena shrinks path at found).above (used_shrunk slots (set slots i x) free capacity i k found.within shrinks after_pool before)

-- one name less of a path
pub used_front : (slots : Places) (path : FilePath) (depth : ℕ) (name : List ℕ) → depth - 1 < length path → 0 < depth → name ≡ get_or path (depth - 1) name → AreUsed slots (slot_of slots 0 (take depth path)) → AreUsed slots (slot_of slots 0 (take (depth - 1) path ++ name ∷ []))
used_front slots path depth name within some read used =
    let one : depth ≡ depth - 1 + 1 = omega arith in
    let front : take depth path ≡ take (depth - 1) path ++ name ∷ [] = ap (λ n. take n path) one ∙ take_more path (depth - 1) name within ∙ ap (λ n. take (depth - 1) path ++ n ∷ []) (sym read) in
    subst (λ p. AreUsed slots (slot_of slots 0 p)) front used

pub used_whole : (slots : Places) (path : FilePath) → AreUsed slots (slot_of slots 0 path) → AreUsed slots (slot_of slots 0 (take (length path) path))
used_whole slots path used = subst (λ p. AreUsed slots (slot_of slots 0 p)) (sym (take_all (length path) path (omega arith))) used

pub used_none : AreUsed [] None
used_none i = tt

pub used_end : (slots : Places) (free : List ℕ) (capacity : ℕ) (path : FilePath) (depth : ℕ) → depth ≡ 0 → IsPool slots free capacity → AreUsed slots (slot_of slots 0 (take depth path)) → AreUsed slots None
used_end slots free capacity path depth end pool used = used_root slots free capacity pool (subst (λ n. AreUsed slots (slot_of slots 0 (take n path))) end used)

-- ---- what an arena keeps

pub nothing_kept : (capacity : ℕ) → KeepsArena [] [] capacity
nothing_kept capacity = record { arena = no_slots; pool = no_pool capacity; used = used_none }

pub written_kept : (slots : Places) (free : List ℕ) (capacity i version : ℕ) (node : Option Node) → IsArena (written slots i version node) → i < length slots → (version ≡ 0 → ⊥) → IsPool slots free capacity → AreUsed slots (Some i) → KeepsArena (written slots i version node) free capacity
written_kept slots free capacity i version node arena within some pool used =
    record { arena = arena; pool = written_pool slots free capacity i version node within pool; used = used_written slots i version node within some used }

pub inserted_kept : (slots new : Places) (free : List ℕ) (capacity i version : ℕ) (node : Option Node) → IsArena new → i < length slots → 1 ≤ version → (version ≢ 0 → new ≡ written slots i version node) → IsPool slots free capacity → AreUsed slots (Some i) → KeepsArena new free capacity
inserted_kept slots new free capacity i version node arena within touched write pool used =
    let some : version ≡ 0 → ⊥ = λ z. absurd (omega arith) in
    let is : new ≡ written slots i version node = write some in
    subst (λ l. KeepsArena l free capacity) (sym is) (written_kept slots free capacity i version node (subst IsArena is arena) within some pool used)

pub restored_kept : (slots new : Places) (free : List ℕ) (capacity i version : ℕ) (node : Option Node) (path : FilePath) → slot_of slots 0 path ≡ Some i → i < length slots → (version ≢ 0 → new ≡ written slots i version node) → (version ≡ 0 → new ≡ written slots i version None) → IsPool slots free capacity → AreUsed slots None → IsPool new free capacity × AreUsed new (slot_of new 0 path)
restored_kept slots new free capacity i version node path at within some none pool used = elim (cases_eq version 0) [
  | inl gone ↦ subst (λ l. IsPool l free capacity × AreUsed l (slot_of l 0 path)) (sym (none gone)) (each None)
  | inr other ↦ subst (λ l. IsPool l free capacity × AreUsed l (slot_of l 0 path)) (sym (some other)) (each node)
]
  where
    each : (node : Option Node) → IsPool (written slots i version node) free capacity × AreUsed (written slots i version node) (slot_of (written slots i version node) 0 path)
    each node = (written_pool slots free capacity i version node within pool, used_at (written slots i version node) path i (written_slot slots i version node within path ∙ at) (used_emptied slots i version node within used))
