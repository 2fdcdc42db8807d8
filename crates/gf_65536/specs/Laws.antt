-- The laws of the field. An element is a number below 2 ^ 16; a + b is bit_xor a b, and a * b is gf_mul a b.
use Rattle.std.specs.Prelude.{◌≡◌, ◌≢◌, ℕ, ◌+◌, ◌*◌, ◌/◌, ◌%◌, ◌^◌, ◌<◌, bit_xor}
use Rattle.gf_65536.specs.Field.{gf_mul, gf_pow}

-- the elements are a group under the sum, in which each is its own opposite
pub record SumLaws : Type 0 where
  pub closed : (a b : ℕ) → a < 2 ^ 16 → b < 2 ^ 16 → bit_xor a b < 2 ^ 16
  pub commutative : (a b : ℕ) → bit_xor a b ≡ bit_xor b a
  pub associative : (a b c : ℕ) → bit_xor (bit_xor a b) c ≡ bit_xor a (bit_xor b c)
  pub zero : (a : ℕ) → bit_xor 0 a ≡ a
  pub opposite : (a : ℕ) → bit_xor a a ≡ 0

-- the elements but 0 are a group under the product, which distributes over the sum
pub record ProductLaws : Type 0 where
  pub closed : (a b : ℕ) → gf_mul a b < 2 ^ 16
  pub commutative : (a b : ℕ) → gf_mul a b ≡ gf_mul b a
  pub associative : (a b c : ℕ) → gf_mul (gf_mul a b) c ≡ gf_mul a (gf_mul b c)
  pub distributes : (a b c : ℕ) → gf_mul a (bit_xor b c) ≡ bit_xor (gf_mul a b) (gf_mul a c)
  pub one : (a : ℕ) → a < 2 ^ 16 → gf_mul 1 a ≡ a
  pub no_divisors_of_zero : (a b : ℕ) → a < 2 ^ 16 → b < 2 ^ 16 → a ≢ 0 → gf_mul a b ≡ 0 → b ≡ 0
  pub inverse : (a : ℕ) → a < 2 ^ 16 → a ≢ 0 → gf_mul a (gf_pow a 65534) ≡ 1
  pub one_inverse : (a b c : ℕ) → a < 2 ^ 16 → b < 2 ^ 16 → c < 2 ^ 16 → gf_mul a b ≡ 1 → gf_mul a c ≡ 1 → b ≡ c

-- f is a product of elements in which x ^ 16 is x ^ 12 + x ^ 3 + x + 1: it distributes on both sides, is associative, has the
-- neutral element 1, and the product with x, the element 2, moves each coefficient up by one place
pub record IsProductModulo1100B (f : ℕ → ℕ → ℕ) : Type 0 where
  pub left : (a b c : ℕ) → a < 2 ^ 16 → b < 2 ^ 16 → c < 2 ^ 16 → f (bit_xor a b) c ≡ bit_xor (f a c) (f b c)
  pub right : (a b c : ℕ) → a < 2 ^ 16 → b < 2 ^ 16 → c < 2 ^ 16 → f a (bit_xor b c) ≡ bit_xor (f a b) (f a c)
  pub associative : (a b c : ℕ) → a < 2 ^ 16 → b < 2 ^ 16 → c < 2 ^ 16 → f (f a b) c ≡ f a (f b c)
  pub one : (a : ℕ) → a < 2 ^ 16 → f 1 a ≡ a
  pub doubles : (a : ℕ) → a < 2 ^ 15 → f 2 a ≡ 2 * a
  pub reduces : f 2 0x8000 ≡ 0x100B

-- gf_mul is such a product, and there is no other one
pub record OnlyProduct : Type 0 where
  pub is_one : IsProductModulo1100B gf_mul
  pub only : (f : ℕ → ℕ → ℕ) → IsProductModulo1100B f → (a b : ℕ) → a < 2 ^ 16 → b < 2 ^ 16 → f a b ≡ gf_mul a b

-- powers add and multiply their exponents
pub record PowerLaws : Type 0 where
  pub closed : (a e : ℕ) → gf_pow a e < 2 ^ 16
  pub none : (a : ℕ) → gf_pow a 0 ≡ 1
  pub single : (a : ℕ) → a < 2 ^ 16 → gf_pow a 1 ≡ a
  pub adds : (a m n : ℕ) → gf_pow a (m + n) ≡ gf_mul (gf_pow a m) (gf_pow a n)
  pub multiplies : (a m n : ℕ) → gf_pow a (m * n) ≡ gf_pow (gf_pow a m) n

-- the element 2 has the order 65535 = 3 * 5 * 17 * 257, so its powers below that exponent differ
pub record OrderOfTwo : Type 0 where
  pub whole : gf_pow 2 65535 ≡ 1
  pub not_third : gf_pow 2 (65535 / 3) ≢ 1
  pub not_fifth : gf_pow 2 (65535 / 5) ≢ 1
  pub not_seventeenth : gf_pow 2 (65535 / 17) ≢ 1
  pub not_257th : gf_pow 2 (65535 / 257) ≢ 1
  pub multiples : (m : ℕ) → gf_pow 2 (65535 * m) ≡ 1
  pub only_multiples : (k : ℕ) → gf_pow 2 k ≡ 1 → k % 65535 ≡ 0
  pub apart : (i j : ℕ) → i < 65535 → j < 65535 → gf_pow 2 i ≡ gf_pow 2 j → i ≡ j
