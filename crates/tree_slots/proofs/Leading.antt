-- A slot is there only while a row lies at its path or below.
use Rattle.std.proofs.Common.{◌≡◌, ℕ, zero, suc, ◌+◌, ◌≤◌, ◌==◌, Bool, true, false, List, [], ◌∷◌, ◌++◌, length, Option, Some, None, IsTrue, is_some, inl, inr, arith, refl, sym, ap, ◌∙◌, subst, append_assoc, length-append}
use Rattle.std.specs.List.{AllByRecursion}
use Rattle.std.specs.Option.{option_and_then}
use Rattle.std.proofs.lemmas.Bool.{cases_eq, eqb-true}
use Rattle.std.proofs.lemmas.List.{append-nil}
use Rattle.file_paths.specs.Path.{FilePath}
use Rattle.tree_values.specs.Tree.{row_at}
use Rattle.tree_slots.specs.Arena.{Places, place, child_named, slot_of, own_row, rows_of, IsArena, IsIdle, AreUsed, LeadsToRow, SlotsLeadToRows}
use Rattle.tree_slots.proofs.Walk.{same_itself, one_found}
use Rattle.tree_slots.proofs.Links.{child_among, one_further}
use Rattle.tree_slots.proofs.Used.{IsUsed}

module _ (slots : Places) (used : AreUsed slots None) where
  busy : (c : ℕ) → IsUsed slots None c → IsIdle (place slots c) → ⊥
  busy c all idle = all (λ e. absurd (cc)) idle

  -- what is below a slot is not idle
  below : (q : FilePath) (n : List ℕ) (i c : ℕ) → slot_of slots i (n ∷ q) ≡ Some c → IsIdle (place slots c) → ⊥
  below q n i c e = by (child_named slots (place slots i).children n) refl e
    where
      onward : (q : FilePath) (d : ℕ) → IsUsed slots None d → slot_of slots d q ≡ Some c → IsIdle (place slots c) → ⊥
      onward [] d all e = let same : d ≡ c = cc in subst (λ a. IsIdle (place slots a) → ⊥) same (busy d all)
      onward (m ∷ q) d all e = further (child_named slots (place slots d).children m) refl e (λ a. onward q a)
        where
          further : (o : Option ℕ) → child_named slots (place slots d).children m ≡ o → option_and_then (λ a. slot_of slots a q) o ≡ Some c → ((a : ℕ) → IsUsed slots None a → slot_of slots a q ≡ Some c → IsIdle (place slots c) → ⊥) → IsIdle (place slots c) → ⊥
          further None f e each = absurd (cc)
          further (Some a) f e each = each a (child_among (IsUsed slots None) slots (place slots d).children m a (used d) f) e

      by : (o : Option ℕ) → child_named slots (place slots i).children n ≡ o → option_and_then (λ d. slot_of slots d q) o ≡ Some c → IsIdle (place slots c) → ⊥
      by None f e = absurd (cc)
      by (Some d) f e = onward q d (child_among (IsUsed slots None) slots (place slots i).children n d (used i) f) e

  -- the path of its first child
  first_child : (p : FilePath) (i c : ℕ) (cs : List ℕ) → slot_of slots 0 p ≡ Some i → (place slots i).children ≡ c ∷ cs → slot_of slots 0 (p ++ (place slots c).name ∷ []) ≡ Some c
  first_child p i c cs at e = one_further slots p (place slots c).name i at ∙ ap (λ l. child_named slots l (place slots c).name) e ∙ rw (same_itself (place slots c).name) refl

  module _ (arena : IsArena slots) where
    has_row : (p : FilePath) (i : ℕ) → slot_of slots 0 p ≡ Some i → ((place slots i).version ≡ 0 → ⊥) → IsTrue (is_some (row_at (rows_of slots) p))
    has_row p i at some = ap is_some (one_found slots p arena i at) ∙ by ((place slots i).version == 0) refl
      where
        by : (b : Bool) → ((place slots i).version == 0) ≡ b → is_some (own_row p (place slots i)) ≡ true
        by true z = absurd (some (eqb-true (place slots i).version 0 z))
        by false z = rw z refl

    leads : (levels : ℕ) (p : FilePath) (i : ℕ) → slot_of slots 0 p ≡ Some i → (IsIdle (place slots i) → ⊥) → 33 ≤ length p + levels → LeadsToRow (rows_of slots) p
    leads zero p i at not_idle deep = let legal = arena.paths p i at in absurd (omega (arith, legal.shallow))
    leads (suc levels) p i at not_idle deep = elim (cases_eq (place slots i).version 0) [
      | inr some ↦ ([], subst (λ q. IsTrue (is_some (row_at (rows_of slots) q))) (sym (append-nil p)) (has_row p i at some))
      | inl none ↦ by (place slots i).children refl none (λ q c. leads levels q c)
    ]
      where
        by : (cs : List ℕ) → (place slots i).children ≡ cs → (place slots i).version ≡ 0 → ((q : FilePath) (c : ℕ) → slot_of slots 0 q ≡ Some c → (IsIdle (place slots c) → ⊥) → 33 ≤ length q + levels → LeadsToRow (rows_of slots) q) → LeadsToRow (rows_of slots) p
        by [] e none each = absurd (not_idle (none, e))
        by (c ∷ cs) e none each =
            let name : List ℕ = (place slots c).name in
            let rest = each (p ++ (place slots c).name ∷ []) c (first_child p i c cs at e) (busy c (subst (AllByRecursion (IsUsed slots None)) e (used i)).0) (omega (arith, length-append p ((place slots c).name ∷ []))) in
            ((place slots c).name ∷ rest.0, subst (λ q. IsTrue (is_some (row_at (rows_of slots) q))) (append_assoc p ((place slots c).name ∷ []) rest.0) rest.1)

pub slots_lead : SlotsLeadToRows
slots_lead slots free capacity kept [] i below_root at = absurd (below_root refl)
slots_lead slots free capacity kept (n ∷ p) i below_root at = leads slots kept.used kept.arena 33 (n ∷ p) i at (below slots kept.used p n 0 i at) (omega arith)
