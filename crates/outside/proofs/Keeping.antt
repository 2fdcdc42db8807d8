-- An image that is put under a name, in place of what stands there or behind all others.
use Rattle.std.proofs.Common.{◌≡◌, ◌≢◌, ℕ, zero, suc, ◌≤◌, Bool, true, false, cond, List, [], ◌∷◌, ◌++◌, length, take, get_or, set, Option, None, Some, option_map, refl, sym, ap, subst, ◌∙◌, ◌⊎◌, inr, arith}
use Rattle.std.specs.Prelude.{nat_lt, slice_get}
use Rattle.std.specs.Option.{option_or}
use Rattle.std.specs.List.{find, position, position_or_len}
use Rattle.std.proofs.lemmas.Bool.Decides.{nat_tests}
use Rattle.std.proofs.lemmas.Slice.Eq.{bytes_eq-Decides}
use Rattle.std.proofs.lemmas.List.Quantifiers.{position-Some}
use Rattle.std.proofs.lemmas.List.Folds.{find_at, find-set, find_past, find-append}
use Rattle.std.proofs.lemmas.List.{take_all}
use Rattle.outside.specs.declared.memory_keeper.KeepFail.{KeepFail}
use Rattle.outside.specs.declared.memory_keeper.NamedImage.{NamedImage}
use Rattle.outside.specs.Keeper.{Images, IsPut, followed_by}
use Rattle.outside.specs.MemoryKeeper.{has_name, images_of, left_of}

own_name : (slot : NamedImage) (name : List ℕ) → slot.name.items ≡ name → has_name name slot ≡ true
own_name slot name is = (bytes_eq-Decides slot.name.items name).1 is

-- a slot of this name has no other
no_other : (slot : NamedImage) (name other : List ℕ) → slot.name.items ≡ name → other ≢ name → has_name other slot ≡ false
no_other slot name other is apart = by (has_name other slot) refl
  where
    by : (b : Bool) → has_name other slot ≡ b → b ≡ false
    by false e = refl
    by true e = absurd (apart (sym ((bytes_eq-Decides slot.name.items other).0 e) ∙ is))

abbrev image : Option NamedImage → Option (List ℕ)
image = option_map (λ slot. slot.image.items)

place_is : (n count i : ℕ) → cond (nat_lt n count) (Some n) None ≡ Some i → i ≡ n
place_is n count i e = by (nat_lt n count) e
  where
    by : (b : Bool) → cond b (Some n) None ≡ Some i → i ≡ n
    by true e = cc
    by false e = absurd cc

-- the image of a slot is written anew
pub replaced : (slots : List NamedImage) (i : ℕ) (name : List ℕ) (old new : NamedImage) → position (has_name name) slots ≡ Some i → old ≡ get_or slots i old → new.name.items ≡ old.name.items
    → IsPut name new.image.items (images_of slots) (images_of (set slots i new))
replaced slots i name old new at was same =
    let p = position-Some (has_name name) slots i old at in
    let old_name : old.name.items ≡ name = ap (λ (s : NamedImage). s.name.items) was ∙ (bytes_eq-Decides (get_or slots i old).name.items name).0 p.1 in
    let new_name : new.name.items ≡ name = same ∙ old_name in
    record {
      here = ap image (find-set (has_name name) slots i new (place_is (position_or_len (has_name name) slots) (length slots) i at) p.0 (own_name new name new_name));
      others = λ other apart.
          ap image (find_past (has_name other) slots i new old (ap (has_name other) (sym was) ∙ no_other old name other old_name apart) (no_other new name other new_name apart));
    }

past_end : (slots : List NamedImage) (i : ℕ) → length slots ≤ i → slice_get slots i ≡ None
past_end [] i past = refl
past_end (slot ∷ slots) zero past = absurd (omega arith)
past_end (slot ∷ slots) (suc i) past = past_end slots i (omega arith)

at_least : (a b : ℕ) → nat_lt a b ≡ false → b ≤ a
at_least a b h = grind (arith, nat_tests)

none_found : (slots : List NamedImage) (name : List ℕ) → position (has_name name) slots ≡ None → find (has_name name) slots ≡ None
none_found slots name none =
    let place = position_or_len (has_name name) slots in
    find_at (has_name name) slots ∙ past_end slots place (at_least place (length slots) (not_within (nat_lt place (length slots)) none))
  where
    not_within : (b : Bool) → cond b (Some (position_or_len (has_name name) slots)) None ≡ None → b ≡ false
    not_within true e = absurd cc
    not_within false e = refl

no_more : (o : Option NamedImage) → option_or o None ≡ o
no_more None = refl
no_more (Some slot) = refl

-- the first image under its name
pub added : (slots : List NamedImage) (name : List ℕ) (new : NamedImage) → position (has_name name) slots ≡ None → new.name.items ≡ name → IsPut name new.image.items (images_of slots) (images_of (slots ++ new ∷ []))
added slots name new none is = record {
  here = rw (find-append (has_name name) slots (new ∷ []), none_found slots name none, own_name new name is) refl;
  others = λ other apart.
      let last : find (has_name other) (new ∷ []) ≡ None = rw (no_other new name other is apart) refl in
      ap image (find-append (has_name other) slots (new ∷ []) ∙ ap (option_or (find (has_name other) slots)) last ∙ no_more (find (has_name other) slots));
}

-- what a failing append leaves of its piece is a front of it
pub left_is_a_front : (fail : KeepFail) (name piece : List ℕ) (old new : Images) (left : List ℕ) → left ≡ left_of fail piece → IsPut name (followed_by left (old name)) old new
    → (new ≡ old) ⊎ ((count : ℕ) × IsPut name (followed_by (take count piece) (old name)) old new)
left_is_a_front fail name piece old new left is put =
    let front = is_front fail.leaves_new in
    inr (front.0, subst (λ (text : List ℕ). IsPut name (followed_by text (old name)) old new) (is ∙ front.1) put)
  where
    is_front : (whole : Bool) → (count : ℕ) × (cond whole piece (take fail.part piece) ≡ take count piece)
    is_front true = (length piece, sym (take_all (length piece) piece (omega arith)))
    is_front false = (fail.part, refl)
