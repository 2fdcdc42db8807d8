use Rattle.gf_65536.proofs.Product.{mul_comm, mul_assoc, mul_one, mul_right, mul_below}
use Rattle.gf_65536.proofs.Inverse.{inverse, no_zero_divisors, one_inverse}
use Rattle.gf_65536.proofs.laws.product_laws.Goals as goal

pub returns : goal.returns
returns c = record {
  closed = mul_below;
  commutative = mul_comm;
  associative = mul_assoc;
  distributes = λ a. (mul_right a).keeps;
  one = mul_one;
  no_divisors_of_zero = no_zero_divisors;
  inverse = inverse;
  one_inverse = one_inverse;
}
