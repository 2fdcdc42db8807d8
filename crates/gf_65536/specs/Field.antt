-- The field of 65,536 elements. An element is a polynomial of degree below 16 over the field of two elements, as a
-- number below 2 ^ 16 whose bit i is the coefficient of x ^ i. The sum of two elements is the bit_xor of the numbers.
use Rattle.std.specs.Prelude.{ℕ, zero, suc, ◌+◌, ◌*◌, ◌%◌, ◌^◌, bit_xor}
use Rattle.std.specs.Int.{bit_at}

-- x ^ 16 + x ^ 12 + x ^ 3 + x + 1
abbrev pub modulus : ℕ
modulus = 0x1100B

-- the polynomial product of a and the n low coefficients of b, not yet reduced
unfoldable pub product : ℕ → ℕ → ℕ → ℕ
product zero a b = 0
product (suc n) a b = bit_xor (product n a b) (bit_at b n * (a * 2 ^ n))

-- the remainder of a polynomial p of degree below 16 + n by the modulus
unfoldable pub remainder : ℕ → ℕ → ℕ
remainder zero p = p
remainder (suc n) p = remainder n (bit_xor p (bit_at p (16 + n) * (modulus * 2 ^ n)))

-- The product of two elements: the polynomial product, reduced. It reads the 16 low bits alone, so that most of its laws
-- need no bound.
unfoldable pub gf_mul : ℕ → ℕ → ℕ
gf_mul a b = remainder 15 (product 16 (a % 2 ^ 16) (b % 2 ^ 16))

-- the power a ^ e of an element
unfoldable pub gf_pow : ℕ → ℕ → ℕ
gf_pow a zero = 1
gf_pow a (suc e) = gf_mul a (gf_pow a e)
