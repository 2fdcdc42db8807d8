-- Numbers of four bytes at a place.
use Rattle.std.proofs.Common.{◌≡◌, ◌≤◌, ◌<◌, ℕ, ◌+◌, ◌^◌, inl, inr, List, length, take, drop, get_or, refl, sym, arith, subst, w32, length-take, length-drop, get_or-take}
use Rattle.std.specs.Int.{to_be_bytes, from_be_bytes}
use Rattle.std.proofs.lemmas.List.{get_or-drop, get_or_past}
use Rattle.std.proofs.lemmas.Bool.{cases_lt}
use Rattle.std.proofs.lemmas.Nat.{be_bytes_4, from_be_bytes-to_be_bytes_4}

abbrev pub IsBytes : List ℕ → Type 0
IsBytes bytes = (i : ℕ) → get_or bytes i 0 < 256

bytes_dropped : (count : ℕ) (bytes : List ℕ) → IsBytes bytes → IsBytes (drop count bytes)
bytes_dropped count bytes are i = subst (λ (b : ℕ). b < 256) (sym (get_or-drop count bytes i 0)) (are (count + i))

bytes_taken : (count : ℕ) (bytes : List ℕ) → IsBytes bytes → IsBytes (take count bytes)
bytes_taken count bytes are i =
    elim (cases_lt i count) [
      | inl within ↦ subst (λ (b : ℕ). b < 256) (sym (get_or-take count bytes i 0 within)) (are i)
      | inr past ↦ omega (arith, get_or_past (take count bytes) i 0 (omega (arith, length-take count bytes)))
    ]

-- the four bytes at a place
abbrev pub four_at : ℕ → List ℕ → List ℕ
four_at place bytes = take 4 (drop place bytes)

pub length-four : (place : ℕ) (bytes : List ℕ) → place + 4 ≤ length bytes → length (four_at place bytes) ≡ 4
length-four place bytes within = omega (arith, length-take 4 (drop place bytes), length-drop place bytes)

pub four_back : (place : ℕ) (bytes : List ℕ) → IsBytes bytes → place + 4 ≤ length bytes
    → to_be_bytes w32 (from_be_bytes w32 (four_at place bytes)) ≡ four_at place bytes
four_back place bytes are within =
    be_bytes_4 (four_at place bytes) _ (length-four place bytes within) (bytes_taken 4 (drop place bytes) (bytes_dropped place bytes are)) refl

pub four_below : (place : ℕ) (bytes : List ℕ) → IsBytes bytes → from_be_bytes w32 (four_at place bytes) < 2 ^ 32
four_below place bytes are =
    let fits : IsBytes (four_at place bytes) = bytes_taken 4 (drop place bytes) (bytes_dropped place bytes are) in
    omega (arith, fits 0, fits 1, fits 2, fits 3)

pub four_again : (n : ℕ) → n < 2 ^ 32 → from_be_bytes w32 (to_be_bytes w32 n) ≡ n
four_again n below = from_be_bytes-to_be_bytes_4 n below
