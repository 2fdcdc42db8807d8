use Rattle.gf_65536.proofs.Powers.{whole_order, not_third, not_fifth, not_seventeenth, not_257th, multiple_of_order, order_divides, powers_apart}
use Rattle.gf_65536.proofs.laws.order_of_two.Goals as goal

pub returns : goal.returns
returns c = record {
  whole = whole_order;
  not_third = not_third;
  not_fifth = not_fifth;
  not_seventeenth = not_seventeenth;
  not_257th = not_257th;
  multiples = multiple_of_order;
  only_multiples = order_divides;
  apart = powers_apart;
}
