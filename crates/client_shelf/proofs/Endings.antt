-- Names with an ending.
use Rattle.std.proofs.Common.{◌≡◌, ◌∙◌, ℕ, Bool, true, false, List, ◌++◌, refl, sym, ap}
use Rattle.std.specs.Str.{bytes_eq}
use Rattle.std.proofs.lemmas.List.{append_cancel_left}
use Rattle.std.proofs.lemmas.Slice.Eq.{bytes_eq-Decides}

unequal : (xs ys : List ℕ) → (xs ≡ ys → ⊥) → bytes_eq xs ys ≡ false
unequal xs ys other = by (bytes_eq xs ys) refl
  where
    by : (b : Bool) → bytes_eq xs ys ≡ b → bytes_eq xs ys ≡ false
    by true is = absurd (other ((bytes_eq-Decides xs ys).0 is))
    by false is = is

-- behind a front, the rest decides
pub behind_front : (name front rest ending : List ℕ) → name ≡ front ++ rest → bytes_eq rest ending ≡ bytes_eq name (front ++ ending)
behind_front name front rest ending is = by (bytes_eq rest ending) refl
  where
    by : (b : Bool) → bytes_eq rest ending ≡ b → bytes_eq rest ending ≡ bytes_eq name (front ++ ending)
    by true same = same ∙ sym ((bytes_eq-Decides name (front ++ ending)).1 (is ∙ ap (λ (t : List ℕ). front ++ t) ((bytes_eq-Decides rest ending).0 same)))
    by false other = other ∙ sym (unequal name (front ++ ending) (λ same. absurd (cc (other, (bytes_eq-Decides rest ending).1 (append_cancel_left front rest ending (sym is ∙ same))))))

-- without it, nothing is equal
pub without_front : (name front ending : List ℕ) → ((rest : List ℕ) → name ≡ front ++ rest → ⊥) → false ≡ bytes_eq name (front ++ ending)
without_front name front ending none = sym (unequal name (front ++ ending) (none ending))
