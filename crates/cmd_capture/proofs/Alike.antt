-- Items of which none asks for another are read alike from every state.
use Rattle.std.proofs.Common.{◌≡◌, ℕ, zero, suc, List, ◌∷◌, Result, Ok, Err, refl, ap}
use Rattle.byte_fields.specs.Field.{Reader, ◌>>=◌, each_at}
use Rattle.cmd_capture.specs.Reading.{alike_at}

-- the item, and those that were read behind it
abbrev with_first : {A : Type 0} → A → Result (List A × ℕ) ℕ → Result (List A × ℕ) ℕ
with_first first read = read >>= λ others. Ok (first ∷ others.0, others.1)

module _ {S A : Type 0} (item : Reader A) where
  -- the items from here on, in a state
  abbrev from_state : ℕ → S → Reader (List A)
  from_state = each_at {S = S} {A = A} (λ s. item) (λ s x. s)

  pub alike_from : (count : ℕ) (state : S) (bytes : List ℕ) (at : ℕ) → from_state count state bytes at ≡ alike_at item count bytes at
  unfolding each_at alike_at
  alike_from zero state bytes at = refl
  alike_from (suc n) state bytes at = by (item bytes at) (λ next. alike_from n state bytes next)
    where
      by : (r : Result (A × ℕ) ℕ) → ((next : ℕ) → from_state n state bytes next ≡ alike_at item n bytes next)
          → (r >>= λ first. with_first first.0 (from_state n state bytes first.1))
          ≡ (r >>= λ first. with_first first.0 (alike_at item n bytes first.1))
      by (Ok first) more = ap (with_first first.0) (more first.1)
      by (Err place) more = refl
