-- Kinds of which only some are allowed.
use Rattle.std.proofs.Common.{◌≡◌, ℕ, Bool, true, false, cond, List, [], ◌∷◌, Ok, Err, refl, ap, ◌∙◌}
use Rattle.std.specs.Prelude.{◌==◌}
use Rattle.std.specs.List.{filter}
use Rattle.std.specs.Int.{w8}
use Rattle.byte_fields.specs.Field.{Reader, number_at, of_kind}
use Rattle.byte_fields.proofs.Codec.{failed}
use Rattle.byte_fields.proofs.Facts.{eq_of}
use Rattle.tree_values.specs.Fault.{fault_kinds, is_one_of, fault_of}

module _ {A : Type 0} (keep : ℕ → Bool) where
  abbrev pub kept : List (ℕ × Reader A) → List (ℕ × Reader A)
  kept kinds = filter (λ known. keep known.0) kinds

  -- the reader of a kind that is kept is the same, and a kind that is not kept is none
  pub of_kept_kind : (kinds : List (ℕ × Reader A)) (place kind : ℕ) (bytes : List ℕ) (at : ℕ)
      → of_kind (kept kinds) place kind bytes at ≡ cond (keep kind) (of_kind kinds place kind bytes at) (Err place)
  of_kept_kind [] place kind bytes at = elim (keep kind) as (λ b. failed (A × ℕ) place ≡ cond b (failed (A × ℕ) place) (failed (A × ℕ) place)) [ true ↦ refl | false ↦ refl ]
  of_kept_kind (known ∷ kinds) place kind bytes at = by (keep known.0) (kind == known.0) refl refl (of_kept_kind kinds place kind bytes at)
    where
      by : (is_kept is_known : Bool) → keep known.0 ≡ is_kept → (kind == known.0) ≡ is_known
          → of_kind (kept kinds) place kind bytes at ≡ cond (keep kind) (of_kind kinds place kind bytes at) (Err place)
          → of_kind (cond is_kept (known ∷ kept kinds) (kept kinds)) place kind bytes at ≡ cond (keep kind) (cond is_known (known.1 bytes at) (of_kind kinds place kind bytes at)) (Err place)
      by true true e e' rest = rw (e', ap keep (eq_of kind known.0 e') ∙ e) refl
      by true false e e' rest = rw e' rest
      by false true e e' rest = let none : keep kind ≡ false = ap keep (eq_of kind known.0 e') ∙ e in rw none (rw none at rest)
      by false false e e' rest = rest

module _ (numbers bytes : List ℕ) (at kind start : ℕ) (reads : number_at w8 bytes at ≡ Ok (kind, start)) where
  -- where the number is one of these, it is read as any refusal
  pub number_is_told : is_one_of numbers kind ≡ true → fault_of numbers bytes at ≡ of_kind fault_kinds at kind bytes start
  unfolding fault_of
  number_is_told told = rw (reads, of_kept_kind (is_one_of numbers) fault_kinds at kind bytes start, told) refl

  -- where it is none of them, it is at fault
  pub number_is_untold : is_one_of numbers kind ≡ false → fault_of numbers bytes at ≡ Err at
  unfolding fault_of
  number_is_untold untold = rw (reads, of_kept_kind (is_one_of numbers) fault_kinds at kind bytes start, untold) refl
