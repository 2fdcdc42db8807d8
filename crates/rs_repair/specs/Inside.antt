-- What the private functions of this crate give one another: repairs of one block, polynomials found by elimination whose roots show
-- the places of the errors, and the errors themselves. Coefficients stand lowest first.
use Rattle.std.specs.Prelude.{◌≡◌, ◌≢◌, ℕ, suc, ◌+◌, ◌-◌, ◌/◌, ◌%◌, ◌^◌, ◌<◌, ◌≤◌, ◌⊎◌, ◌++◌, Bool, true, false, List, [], ◌∷◌, length}
use Rattle.std.specs.Prelude.{take, drop, sum, slice_index, slice_index_or, bit_xor}
use Rattle.gf_65536.specs.Field.{gf_mul, gf_pow}
use Rattle.rs_parity.specs.CodeWord.{symbols, sum_at}
use Rattle.rs_parity.specs.Weight.{differing}
use Rattle.rs_parity.specs.Blocks.{IsParity}
use Rattle.byte_fields.specs.Codec.{IsBytes}

-- repaired has the block's length, differs from it in at most 16 symbols, and has the parity
pub record IsRepair (block parity repaired : List ℕ) : Type 0 where
  pub size : length repaired ≡ length block
  pub near : differing (symbols block) (symbols repaired) ≤ 16
  pub has_parity : IsParity repaired parity

-- no other bytes than these are a repair
abbrev pub IsOnlyCandidate : List ℕ → List ℕ → List ℕ → Type 0
IsOnlyCandidate block parity candidate = (x : List ℕ) → IsBytes x → IsRepair block parity x → candidate ≡ x

abbrev pub HasNoRepair : List ℕ → List ℕ → Type 0
HasNoRepair block parity = (x : List ℕ) → IsBytes x → IsRepair block parity x → ⊥

-- the sum of the products of the coefficients with the sums
unfoldable pub pairing : List ℕ → List ℕ → ℕ
pairing [] ss = 0
pairing (l ∷ ls) [] = 0
pairing (l ∷ ls) (s ∷ ss) = bit_xor (gf_mul l s) (pairing ls ss)

-- a row with its highest coefficient, which is 1, at a degree
pub record IsMonicRow (degree : ℕ) (row : List ℕ) : Type 0 where
  pub size : length row ≡ 17
  pub top : slice_index row degree ≡ 1
  pub above : (k : ℕ) → degree < k → slice_index row k ≡ 0

-- a row plus a multiple of another
pub record IsPlusMultiple (row other : List ℕ) (factor : ℕ) (new : List ℕ) : Type 0 where
  pub row_size : length row ≡ 17
  pub other_size : length other ≡ 17
  pub size : length new ≡ 17
  pub each : (k : ℕ) → k < 17 → slice_index new k ≡ bit_xor (slice_index row k) (gf_mul factor (slice_index other k))

-- Rows of the degrees 0 to 16. Those not marked with a 1 annihilate the sums from each of the first places on.
pub record IsBasis (places : ℕ) (sums : List ℕ) (basis : List (List ℕ)) (marks : List ℕ) : Type 0 where
  pub size : length basis ≡ 17
  pub marks_size : length marks ≡ 17
  pub rows : (i : ℕ) → i < 17 → IsMonicRow i (slice_index_or basis i [])
  pub zeros : (i : ℕ) → i < 17 → slice_index marks i ≡ 0 → (e : ℕ) → e < places → pairing (slice_index_or basis i []) (drop e sums) ≡ 0
  pub few_marks : sum marks ≤ places

-- the unmarked rows below a bound, but the pivot, annihilate the sums from a place on
abbrev pub AreCleared : ℕ → ℕ → ℕ → List ℕ → List (List ℕ) → List ℕ → Type 0
AreCleared bound pivot place sums basis marks =
    (m : ℕ) → m < bound → m < 17 → slice_index marks m ≡ 0 → (m ≡ pivot → ⊥) → pairing (slice_index_or basis m []) (drop place sums) ≡ 0

-- row i is the monomial of degree i
pub record AreMonomials (basis : List (List ℕ)) : Type 0 where
  pub size : length basis ≡ 17
  pub rows : (i : ℕ) → i < 17 → IsMonicRow i (slice_index_or basis i [])

-- the rows above the pivot have got the multiples of its row that make them annihilate the sums from a place on
pub record IsClearedAbove (pivot : ℕ) (sums : List ℕ) (place : ℕ) (old new : List (List ℕ)) : Type 0 where
  pub size : length new ≡ 17
  pub kept : (i : ℕ) → i ≤ pivot → slice_index_or new i [] ≡ slice_index_or old i []
  pub cleared : (i : ℕ) → pivot < i → i < 17
      → (factor : ℕ) × IsPlusMultiple (slice_index_or old i []) (slice_index_or old pivot []) factor (slice_index_or new i [])
      × (pairing (slice_index_or new i []) (drop place sums) ≡ 0)

-- the row annihilates the sums from each place on, as long as its coefficients up to its degree meet sums
abbrev pub AnnihilatesAll : List ℕ → ℕ → List ℕ → Type 0
AnnihilatesAll row degree sums = (e : ℕ) → e + degree < 32 → pairing row (drop e sums) ≡ 0

-- the value of a polynomial
unfoldable pub value : List ℕ → ℕ → ℕ
value [] x = 0
value (l ∷ ls) x = bit_xor l (gf_mul x (value ls x))

-- the sums of a word at 1 to 32
pub record AreSums (word sums : List ℕ) : Type 0 where
  pub size : length sums ≡ 32
  pub each : (i : ℕ) → i < 32 → slice_index sums i ≡ sum_at (suc i) word

-- the exponents from 32 up to a bound at which the power of 2 is a root, in order
pub record AreRoots (row : List ℕ) (bound : ℕ) (exponents : List ℕ) : Type 0 where
  pub coefficients : (k : ℕ) → slice_index row k < 2 ^ 16
  pub each : (i : ℕ) → i < length exponents → (slice_index exponents i < bound) × (value row (gf_pow 2 (slice_index exponents i)) ≡ 0)
  pub ordered : (i j : ℕ) → i < j → j < length exponents → slice_index exponents i < slice_index exponents j
  pub complete : (e : ℕ) → 32 ≤ e → e < bound → value row (gf_pow 2 e) ≡ 0
      → (i : ℕ) × (i < length exponents) × (slice_index exponents i ≡ e)

-- the product of the differences of x and the powers
unfoldable pub gap : ℕ → List ℕ → ℕ
gap x [] = 1
gap x (r ∷ rs) = gf_mul (bit_xor x r) (gap x rs)

-- the sums of a word whose symbols are multiplied by the differences of their places' powers and the given powers
unfoldable pub reduced : List ℕ → (ℕ → ℕ) → ℕ → ℕ
reduced [] f j = f j
reduced (r ∷ rs) f j = reduced rs (λ i. bit_xor (f (suc i)) (gf_mul r (f i))) j

-- the error at the power x, where the other powers are known
abbrev pub error_of : List ℕ → ℕ → List ℕ → ℕ
error_of sums x others = gf_mul (reduced others (λ k. slice_index sums k) 0) (gf_pow (gf_mul x (gap x others)) 65534)

-- the list without its item i
abbrev pub without : List ℕ → ℕ → List ℕ
without xs i = take i xs ++ drop (i + 1) xs

-- the error at an exponent: that of its power where it is among the exponents, and else 0
abbrev pub IsErrorAt : List ℕ → List ℕ → List ℕ → ℕ → ℕ → Type 0
IsErrorAt sums exponents powers exponent error =
    ((i : ℕ) × (i < length exponents) × (slice_index exponents i ≡ exponent)
    × (error ≡ error_of sums (slice_index powers i) (without powers i)))
    ⊎ (((i : ℕ) → i < length exponents → slice_index exponents i ≢ exponent) × (error ≡ 0))

-- the difference of two parities
pub record IsDifference (a b new : List ℕ) : Type 0 where
  pub a_size : length a ≡ 32
  pub a_elements : (k : ℕ) → slice_index a k < 2 ^ 16
  pub b_size : length b ≡ 32
  pub size : length new ≡ 32
  pub each : (k : ℕ) → k < 32 → slice_index new k ≡ bit_xor (slice_index a k) (slice_index b k)

-- the bytes of a symbol, without the second one after an odd last byte
abbrev pub symbol_bytes : Bool → ℕ → List ℕ
symbol_bytes true symbol = symbol / 256 ∷ symbol % 256 ∷ []
symbol_bytes false symbol = symbol / 256 ∷ []

-- the block's symbol at s, plus the error found there, is the word's
abbrev pub CorrectsTo : List ℕ → List ℕ → List ℕ → List ℕ → List ℕ → Type 0
CorrectsTo block sums exponents powers x =
    (s error : ℕ) → s < length (symbols block) → IsErrorAt sums exponents powers (length (symbols block) + 31 - s) error
    → bit_xor (slice_index (symbols block) s) error ≡ slice_index (symbols x) s

-- where the errors correct the block to some bytes, those are the result
abbrev pub IsCorrected : List ℕ → List ℕ → List ℕ → List ℕ → List ℕ → Type 0
IsCorrected block sums exponents powers new =
    (x : List ℕ) → ((k : ℕ) → slice_index x k < 256) → length x ≡ length block → CorrectsTo block sums exponents powers x → new ≡ x
